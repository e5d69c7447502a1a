-- A lent list as entries come in, and what it holds in the end. An entry is a row of numbers; a finding has three.
use Rattle.std.specs.Prelude.{ℕ, ◌≡◌, ◌+◌, ◌*◌, List, [], ◌∷◌, cond, ◌&&◌, ℤ, length, ltb}
use Rattle.meaning.specs.declared.Place.{Place}
use Rattle.meaning.specs.Refusals.{Claim}
use Rattle.meaning.specs.Pages.{place_in, behind, page_of, room_for, handed_of}
use Rattle.meaning.specs.Findings.{Finding, finding, triple}
use Rattle.rows.specs.Cells.{put_at}
use Rattle.listing.specs.declared.Sink.{Sink}
use Rattle.listing.specs.declared.Listing.{Listing}

-- the list, how many entries are written into it, and how many there are
pub record State : Type 0 where
  pub out : List ℤ
  pub written : ℕ
  pub total : ℕ

abbrev pub state : List ℤ → Sink → State
state out k = record { out = out; written = k.written; total = k.total }

-- it is still the same lent list, whatever it holds, and begins after the same place
abbrev pub SameList : Listing → Listing → Type 0
SameList a b = (b.out.ghost_name ≡ a.out.ghost_name) × (b.from ≡ a.from)

-- one entry more, by its row: always in the total, and written if it comes after the place and there is room
unfoldable pub added : Place → List ℤ → State → State
added p e s =
    cond
    (behind p (place_in e) && ltb s.written (room_for (length e) s.out))
    (record { out = put_at s.out (s.written * length e) e; written = s.written + 1; total = s.total + 1 })
    (record { out = s.out; written = s.written; total = s.total + 1 })

-- entries one after the other
unfoldable pub adding : {A : Type 0} → (A → List ℤ) → Place → List A → State → State
adding row p [] s = s
adding row p (d ∷ r) s = adding row p r (added p (row d) s)

-- one claim more: where it is broken, a finding
unfoldable pub noted : Place → Claim → State → State
noted p c s = cond c.broken (added p (triple (finding c.file c.line c.number)) s) s

-- claims one after the other
unfoldable pub noting : Place → List Claim → State → State
noting p [] s = s
noting p (c ∷ r) s = noting p r (noted p c s)

-- before the first entry
abbrev pub lent_only : List ℤ → State
lent_only lent = record { out = lent; written = 0; total = 0 }

-- what a call has handed out of entries with rows of this width
abbrev pub handed_in : {A : Type 0} → (A → List ℤ) → ℕ → Place → List A → List ℤ → State
handed_in row width p ds lent = record { out = handed_of row width p ds lent; written = length (page_of row p (room_for width lent) ds); total = length ds }

-- what it has handed out of findings
abbrev pub handed_out : Place → List Finding → List ℤ → State
handed_out p ds lent = handed_in triple 3 p ds lent
