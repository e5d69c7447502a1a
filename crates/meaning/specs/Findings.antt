-- The list of findings, and what a call hands out of it.
use Rattle.std.specs.Prelude.{ℕ, List, [], ◌∷◌, Bool, cond, ℤ, pos, length, eqb}
use Rattle.meaning.specs.declared.Place.{Place}
use Rattle.meaning.specs.declared.Profile.{Profile}
use Rattle.meaning.specs.declared.Answer.{Answer}
use Rattle.meaning.specs.declared.Answer.TheVariants.{Accepted, Findings, Refused}
use Rattle.meaning.specs.Tables.{Feed}
use Rattle.meaning.specs.Refusals.{Claim}
use Rattle.meaning.specs.Rules.{bindings}
use Rattle.meaning.specs.Pages.{place_in, behind, page_of, room_for, rowed, handed_of}

-- A finding is three numbers: file, line, rule.
pub record Finding : Type 0 where
  pub file : ℕ
  pub line : ℕ
  pub rule : ℕ

abbrev pub finding : ℕ → ℕ → ℕ → Finding
finding f n r = record { file = f; line = n; rule = r }

-- the broken ones of a list of claims
unfoldable pub listed : List Claim → List Finding
listed [] = []
listed (p ∷ r) =
    let k = listed r in
    cond p.broken (finding p.file p.line p.number ∷ k) k

-- all findings of a feed, by the rules that are asked for
unfoldable pub findings_of : Profile → Feed → List Finding
findings_of asked w = listed (bindings asked w)

-- its row
abbrev pub triple : Finding → List ℤ
triple d = pos d.file ∷ pos d.line ∷ pos d.rule ∷ []

-- a finding strictly greater than the starting place
abbrev pub after : Place → Finding → Bool
after p d = behind p (place_in (triple d))

abbrev pub page : Place → ℕ → List Finding → List Finding
page p room ds = page_of triple p room ds

-- Room is the list's length divided by 3.
abbrev pub room_of : List ℤ → ℕ
room_of lent = room_for 3 lent

abbrev pub triples : List Finding → List ℤ
triples ds = rowed triple ds

-- the lent list after the call
abbrev pub handed : Place → List Finding → List ℤ → List ℤ
handed p ds lent = handed_of triple 3 p ds lent

-- The answer tells how many were written and the total over the whole feed, whatever the start; accepted exactly when there is none.
unfoldable pub answer_of : Place → List Finding → List ℤ → Answer
answer_of p ds lent =
    cond (eqb (length ds) 0) Accepted (Findings (length (page p (room_of lent) ds)) (length ds))

-- what document 01 calls each case of the answer, as seven numbers: verdict (0 accepted, 1 findings, 2 refused),
-- the refusal's number, file, line and column, the findings written and their total
unfoldable pub answer_numbers : Answer → List ℕ
answer_numbers Accepted = 0 ∷ 0 ∷ 0 ∷ 0 ∷ 0 ∷ 0 ∷ 0 ∷ []
answer_numbers (Findings written total) = 1 ∷ 0 ∷ 0 ∷ 0 ∷ 0 ∷ written ∷ total ∷ []
answer_numbers (Refused r) = 2 ∷ r.number ∷ r.file ∷ r.line ∷ r.column ∷ 0 ∷ 0 ∷ []
