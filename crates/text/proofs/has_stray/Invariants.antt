-- What the loop of `text::has_stray` keeps.
use Rattle.meaning.specs.Refusals.{rule5}
use mathlib.Core.Path.{◌≡◌}
use Prim.Native.Nat.{◌≤◌, ◌-◌}
use lib.ListN.{length, drop}
use Rattle.text.proofs.has_stray.Given as goal

abbrev pub invariant-loop-i : goal.invariant-loop-i
invariant-loop-i l = (l.i ≤ length l.l) × (rule5 (drop l.i l.l) ≡ rule5 l.l)

abbrev pub decreases-loop-i : goal.decreases-loop-i
decreases-loop-i l = length l.l - l.i
