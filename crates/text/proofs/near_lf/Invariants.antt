-- What the loop of `text::near_lf` keeps.
use Rattle.text.specs.Lines.{to_lf}
use mathlib.Core.Path.{◌≡◌}
use Prim.Native.Nat.{◌≤◌, ◌-◌, ◌+◌}
use lib.ListN.{length, drop}
use Rattle.text.proofs.near_lf.Given as goal

abbrev pub invariant-loop-i : goal.invariant-loop-i
invariant-loop-i l = (l.at ≤ l.i) × (l.i + to_lf (drop l.i l.s) ≡ l.at + to_lf (drop l.at l.s))

abbrev pub decreases-loop-i : goal.decreases-loop-i
decreases-loop-i l = length l.s - l.i
