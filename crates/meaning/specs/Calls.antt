-- Calls one after the other over unchanged files, each from the last finding handed out; all ask for the profile, or all don't.
use Rattle.std.specs.Prelude.{ℕ, ◌*◌, ◌-◌, ◌≤◌, ◌<◌, ◌≡◌, List, [], ◌∷◌, map, true, ℤ, length, get_or, take, eqb}
use Rattle.meaning.specs.declared.Place.{Place}
use Rattle.meaning.specs.declared.Profile.{Profile}
use Rattle.meaning.specs.Lists.{last_has, flat}
use Rattle.meaning.specs.Bytes.{count_lf}
use Rattle.meaning.specs.Tables.{feed_of, file_of, width_of}
use Rattle.meaning.specs.Pages.{last_place}
use Rattle.meaning.specs.Findings.{findings_of, triples, answer_numbers}
use Rattle.meaning.specs.Outcome.{Outcome, outcome}
use Rattle.meaning.specs.Promises.{Each, beginning, written_in, total_in}

-- what a call is lent: the tables and the list as they stand, or others
pub data Lending : Type 0 where
  again : Lending
  anew : List (List ℤ) → List ℤ → Lending

abbrev pub lent_tables : Lending → List (List ℤ) → List (List ℤ)
lent_tables again tables = tables
lent_tables (anew others l) tables = others

abbrev pub lent_list : Lending → List ℤ → List ℤ
lent_list again list = list
lent_list (anew t other) list = other

-- how many findings a call tells it wrote, and how many there are
abbrev pub written_of : Outcome → ℕ
written_of o = written_in (answer_numbers o.answer)

abbrev pub total_of : Outcome → ℕ
total_of o = total_in (answer_numbers o.answer)

-- the numbers that a call wrote into the list: three for each finding that its answer says was written
unfoldable pub written : Outcome → List ℤ
written o = take (3 * written_of o) o.list

-- The outcomes of calls, the first from p: the next starting place is read from the last three numbers written, and the tables and the
-- list are those that the call before left, or others.
unfoldable pub calls : Profile → List (List ℕ) → List (List ℤ) → List ℤ → Place → List Lending → List Outcome
calls asked files tables list p [] = []
calls asked files tables list p (x ∷ r) =
    let o = outcome files (lent_tables x tables) (lent_list x list) p asked in
    o ∷ calls asked files o.tables o.list (last_place 3 p (written o)) r

-- there is a table for each file, long enough for it
abbrev pub LongEnough : List (List ℕ) → List (List ℤ) → Type 0
LongEnough files tables =
    (length tables ≡ length files)
    × ((f : ℕ) → 1 ≤ f → f ≤ length files → width_of f * count_lf (file_of files f) ≤ length (get_or tables (f - 1) []))

-- others are lent with tables that are long enough, and room for at least one finding
abbrev pub Enough : List (List ℕ) → Lending → Type 0
Enough files again = Unit {0}
Enough files (anew tables list) = LongEnough files tables × (3 ≤ length list)

-- Calls that each tell the numbers they wrote, how many entries those are, and a total, together: until one hands out none they give all these
-- rows; each tells that there are n; one call more than that, and the last hands out none.
pub record Join {O : Type 0} (wrote : O → List ℤ) (count total : O → ℕ) (rows : List ℤ) (n : ℕ) (os : List O) : Type 0 where
  pub whole : last_has (λ o. eqb (count o) 0) os ≡ true → flat (map wrote os) ≡ rows
  pub totals : Each (λ o. total o ≡ n) os
  pub ends : n < length os → last_has (λ o. eqb (count o) 0) os ≡ true

-- calls from the beginning of the list so asked for
abbrev pub CallsJoin : Profile → List (List ℕ) → List (List ℤ) → List ℤ → List Lending → Type 0
CallsJoin asked files tables list lendings =
    Join written written_of total_of
    (triples (findings_of asked (feed_of files)))
    (length (findings_of asked (feed_of files)))
    (calls asked files tables list beginning lendings)
