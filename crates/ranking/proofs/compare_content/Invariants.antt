-- What the loop of `ranking::compare_content` keeps.
use Rattle.ranking.specs.Ranks.{compare}
use Rattle.meaning.specs.Bytes.{undouble}
use mathlib.Core.Path.{◌≡◌}
use Prim.Native.Nat.{◌≤◌, ◌-◌, ◌+◌}
use lib.ListN.{length, drop}
use Rattle.ranking.proofs.compare_content.Given as goal

abbrev pub invariant-loop-i : goal.invariant-loop-i
invariant-loop-i l = (l.i ≤ length l.a + 1) × (l.j ≤ length l.b + 1) × (compare (undouble l.qa (drop l.i l.a)) (undouble l.qb (drop l.j l.b)) ≡ compare (undouble l.qa l.a) (undouble l.qb l.b))

abbrev pub decreases-loop-i : goal.decreases-loop-i
decreases-loop-i l = length l.a + 1 - l.i
