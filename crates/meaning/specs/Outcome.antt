-- The whole check: from six files, six tables and the list as lent, a starting place and what is asked for, to the answer and the seven lists at the end.
use Rattle.std.specs.Prelude.{ℕ, ◌+◌, List, [], ◌∷◌, map, ℤ, length, Result, Ok, Err}
use Rattle.meaning.specs.declared.Refusal.{Refusal}
use Rattle.meaning.specs.declared.Place.{Place}
use Rattle.meaning.specs.declared.Profile.{Profile}
use Rattle.meaning.specs.declared.Answer.{Answer}
use Rattle.meaning.specs.declared.Answer.TheVariants.{Refused}
use Rattle.meaning.specs.Tables.{Feed, feed_of, filled}
use Rattle.meaning.specs.Refusals.{verdict_of}
use Rattle.meaning.specs.Findings.{findings_of, handed, answer_of}

-- the answer, and what the six tables and the list hold
pub record Outcome : Type 0 where
  pub answer : Answer
  pub tables : List (List ℤ)
  pub list : List ℤ

-- every table filled, from file f
unfoldable pub filled_from : ℕ → Feed → List (List ℕ) → List (List ℤ) → List (List ℤ)
filled_from f w [] lent = lent
filled_from f w (s ∷ r) [] = []
filled_from f w (s ∷ r) (t ∷ lent) = filled f w s t ∷ filled_from (f + 1) w r lent

-- The tables are filled for every readable feed, with findings or without.
unfoldable pub read_outcome : List (List ℕ) → List (List ℤ) → List ℤ → Place → Profile → Outcome
read_outcome files tables list p asked =
    let w = feed_of files in
    let ds = findings_of asked w in
    record { answer = answer_of p ds list; tables = filled_from 1 w files tables; list = handed p ds list }

-- Refused: the answer is number, file, line; every table and the list stay as lent.
abbrev pub refused_or : Result Unit Refusal → Outcome → List (List ℤ) → List ℤ → Outcome
refused_or (Ok tt) o tables list = o
refused_or (Err r) o tables list = record { answer = Refused r; tables = tables; list = list }

unfoldable pub outcome : List (List ℕ) → List (List ℤ) → List ℤ → Place → Profile → Outcome
outcome files tables list p asked =
    refused_or (verdict_of files (map length tables)) (read_outcome files tables list p asked) tables list
