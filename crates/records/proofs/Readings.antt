-- What the helpers of one located line answer.
use mathlib.Core.Path.{◌≡◌, ap, ◌∙◌}
use mathlib.Core.Bool.{true}
use mathlib.Core.List.{List}
use Prim.Native.Nat.{ℕ, ◌+◌, ◌*◌, ◌≤◌}
use lib.IntN.{ℤ, pos}
use lib.ListN.{get_or}
use Rattle.meaning.specs.Bytes.{value, Line}
use Rattle.meaning.specs.Columns.{Row}
use Rattle.meaning.specs.Tables.{Feed, width_of, refer}
use Rattle.rows.specs.Cells.{put_at}
use Rattle.seeking.specs.First.{First, names}
use Rattle.seeking.proofs.First.{refer_held}
use Rattle.records.specs.Refers.{Lists}
use Rattle.records.specs.Waiting.{waits, last_of, named_of, written_of}

-- a reference that was looked up in a table that holds the ids
pub referred :
    (s : List ℕ) (t : List ℤ) (width n : ℕ) (ids : List (List ℕ)) (raw p : List ℕ) (r : ℕ)
    → Lists s t width n ids
    → First (names s t width (value raw)) (n + 1) r
    → raw ≡ p
    → r ≡ refer (value p) ids
referred s t width n ids raw p r h f e =
    refer_held s t width ids (value p) h.held r (rw (← e, ← h.count) f)

-- a record that was written is another's equal
pub put_as :
    (t t' : List ℤ) (at : ℕ) (u v : List ℤ) → t' ≡ put_at t at u → u ≡ v → t' ≡ put_at t at v
put_as t t' at u v e g = e ∙ ap (put_at t at) g

-- the same for a file that is known by its number
pub file_room : (f k r n : ℕ) → f ≡ k → r * width_of f + width_of f ≤ n → r * width_of k + width_of k ≤ n
file_room f k r n e h = rw e at h

pub file_put :
    (f k r : ℕ) (w : Feed) (ps : List ℕ) (x : Line) (t t' : List ℤ)
    → f ≡ k
    → t' ≡ put_at t (r * width_of k) (written_of k w ps x)
    → t' ≡ put_at t (r * width_of f) (written_of f w ps x)
file_put f k r w ps x t t' e p = rw e p

-- what is settled, for a file that is known by its number
pub file_named :
    (f k r : ℕ) (w : Feed) (row : Row) (t : List ℤ)
    → f ≡ k
    → waits k ≡ true
    → (waits f ≡ true → get_or t (last_of f r) (pos 0) ≡ pos (named_of f w row))
    → get_or t (last_of k r) (pos 0) ≡ pos (named_of k w row)
file_named f k r w row t e h p = rw e at p h
