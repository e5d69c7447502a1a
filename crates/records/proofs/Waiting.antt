-- What the second walk writes for a line is as wide as its record; a line of stop_times that waits is settled to it.
use mathlib.Core.Path.{◌≡◌, refl, ◌∙◌, fun_ext}
use mathlib.Core.Bool.{Bool, true, false, cond}
use mathlib.Core.List.{List}
use Prim.Native.Nat.{ℕ, ◌+◌, ◌≤◌, ◌<◌}
use native.Mathlib.Omega.{arith}
use native.Mathlib.Numerals.{add-one}
use native.Mathlib.Nat.{add-zero}
use borrow.Author.Tests.{eqb-true, ne_eqb}
use lib.Dec.{eqb}
use lib.IntN.{ℤ, pos, negsuc}
use lib.ListN.{length, get_or}
use Rattle.meaning.specs.Bytes.{Line}
use Rattle.meaning.specs.Columns.{Row, row_of}
use Rattle.meaning.specs.Tables.{Feed, widths, width_of, or_minus, id_place, id_column, numbers_of, time_numbers, timepoint, pickup_type, drop_off_type, record_of}
use Rattle.rows.specs.Waiting.{unmark, settled_at}
use Rattle.rows.proofs.Waiting.{settled_back}
use Rattle.rows.proofs.Records.{record_wide}
use Rattle.values.proofs.Choices.{Stored, nothing, number, choice_stored, zero_stored}
use Rattle.records.specs.Waiting.{mark_of, waiting_of, written_of}

pub written_wide : (f : ℕ) → 1 ≤ f → f ≤ 6 → (w : Feed) (ps : List ℕ) (x : Line) → length (written_of f w ps x) ≡ width_of f
unfolding written_of waiting_of id_place width_of widths
written_wide f h k w ps x = go (eqb f 5) refl
  where
    go : (b : Bool) → eqb f 5 ≡ b → length (cond b (waiting_of w ps x) (record_of f w ps x)) ≡ width_of f
    go true e = rw (eqb-true f 5 e)
    go false e = record_wide f w ps x h (omega arith)

-- but for stop_times the second walk writes records
pub written_record : (f : ℕ) → (f ≡ 5 → ⊥) → (w : Feed) (ps : List ℕ) → written_of f w ps ≡ record_of f w ps
unfolding written_of
written_record f h w ps = fun_ext (λ x. rw (ne_eqb f 5 h))

-- timepoint is unpacked as it was packed
pub timepoint_marked : (v : List ℕ) → (unmark (mark_of (or_minus 1 v)) ≡ or_minus 1 v) × (mark_of (or_minus 1 v) < 4)
unfolding or_minus unmark
timepoint_marked v = go (choice_stored (negsuc 0) 1 v)
  where
    go : {z : ℤ} → Stored (negsuc 0) 1 z → (unmark (mark_of z) ≡ z) × (mark_of z < 4)
    go nothing = (refl, omega arith)
    go (number n h) = (rw add-one, omega arith)

-- a line that waits at a place in a table, but for the cell of the order, is settled to its record
pub waits_settled :
    (w : Feed) (ps : List ℕ) (l : Line) (t : List ℤ) (at : ℕ)
    → ((k : ℕ) → k < 7 → get_or t (at + k) (pos 0) ≡ get_or (waiting_of w ps l) k (pos 0))
    → settled_at t at ≡ record_of 5 w ps l
unfolding waiting_of record_of id_column numbers_of time_numbers
waits_settled w ps l t at is =
    let r : Row = row_of ps l.text in
    let p = zero_stored 3 (pickup_type r) in
    let d = zero_stored 3 (drop_off_type r) in
    let m = timepoint_marked (timepoint r) in
    settled_back _ _ _ _ (omega (arith, p.1)) (omega (arith, d.1)) m.1 t at _ _ _ _
    (rw (add-zero at) at (is 0 (omega arith))) (is 1 (omega arith)) (is 2 (omega arith)) (is 3 (omega arith)) (is 4 (omega arith))
    ∙ rw (← p.0, ← d.0, m.0)
