-- What the loop of `text::run_end` keeps.
use Rattle.text.specs.Fields.{field_run}
use Rattle.meaning.specs.Bytes.{start}
use mathlib.Core.Path.{◌≡◌}
use Prim.Native.Nat.{◌≤◌, ◌<◌, ◌-◌, ◌+◌}
use lib.ListN.{length, drop}
use Rattle.text.proofs.run_end.Given as goal

abbrev pub invariant-loop-i : goal.invariant-loop-i
invariant-loop-i l = (l.at ≤ l.i) × (l.q < 5) × (l.i + field_run l.q (drop l.i l.s) ≡ l.at + field_run start (drop l.at l.s))

abbrev pub decreases-loop-i : goal.decreases-loop-i
decreases-loop-i l = length l.s - l.i
