-- What the loop of `text::last_state` keeps.
use Rattle.meaning.specs.Bytes.{run}
use mathlib.Core.Path.{◌≡◌}
use Prim.Native.Nat.{◌<◌, ◌-◌}
use lib.ListN.{length, drop}
use Rattle.text.proofs.last_state.Given as goal

abbrev pub invariant-loop-i : goal.invariant-loop-i
invariant-loop-i l = (l.q < 5) × (run l.q (drop l.i l.l) ≡ run l.state (drop l.at l.l))

abbrev pub decreases-loop-i : goal.decreases-loop-i
decreases-loop-i l = length l.l - l.i
