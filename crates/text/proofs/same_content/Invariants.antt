-- What the loop of `text::same_content` keeps.
use Rattle.meaning.specs.Lists.{same}
use Rattle.meaning.specs.Bytes.{undouble}
use mathlib.Core.Path.{◌≡◌}
use Prim.Native.Nat.{◌≤◌, ◌-◌, ◌+◌}
use lib.ListN.{length, drop}
use Rattle.text.proofs.same_content.Given as goal

abbrev pub invariant-loop-i : goal.invariant-loop-i
invariant-loop-i l = (l.i ≤ length l.a + 1) × (l.j ≤ length l.b + 1) × (same (undouble l.qa (drop l.i l.a)) (undouble l.qb (drop l.j l.b)) ≡ same (undouble l.qa l.a) (undouble l.qb l.b))

abbrev pub decreases-loop-i : goal.decreases-loop-i
decreases-loop-i l = length l.a + 1 - l.i
