-- What the loop of `memo::slot` keeps.
use Prim.Native.Nat.{◌<◌}
use Rattle.memo.proofs.slot.Given as goal

abbrev pub invariant-loop-b : goal.invariant-loop-b
invariant-loop-b l = l.h < 4294967296
