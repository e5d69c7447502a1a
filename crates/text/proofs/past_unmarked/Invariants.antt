-- What the loop of `text::past_unmarked` keeps.
use Rattle.meaning.specs.Bytes.{closed, run}
use mathlib.Core.Path.{◌≡◌}
use Prim.Native.Nat.{ℕ, ◌<◌, ◌≤◌, ◌-◌}
use lib.ListN.{length, drop}
use Rattle.text.proofs.past_unmarked.Given as goal

abbrev pub invariant-loop-i : goal.invariant-loop-i
invariant-loop-i l = ((q : ℕ) → q < 5 → (q ≡ closed → ⊥) → run q (drop l.i l.l) ≡ run q (drop l.at l.l)) × (l.at ≤ l.i)

abbrev pub decreases-loop-i : goal.decreases-loop-i
decreases-loop-i l = length l.l - l.i
