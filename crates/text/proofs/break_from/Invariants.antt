-- What the loop of `text::break_from` keeps.
use Rattle.text.specs.Fields.{to_break}
use mathlib.Core.Path.{◌≡◌}
use Prim.Native.Nat.{◌≤◌, ◌-◌, ◌+◌}
use lib.ListN.{length, drop}
use Rattle.text.proofs.break_from.Given as goal

abbrev pub invariant-loop-b : goal.invariant-loop-b
invariant-loop-b l = (l.at ≤ l.i) × (l.i + to_break (drop l.i l.l) ≡ l.at + to_break (drop l.at l.l))

abbrev pub decreases-loop-b : goal.decreases-loop-b
decreases-loop-b l = length l.l - l.i
