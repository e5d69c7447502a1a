-- `trip_walk::tell` meets its contract.
use Rattle.trip_walk.proofs.Telling.{told_both}
use native.Mathlib.Omega.{arith}
use Rattle.trip_walk.proofs.tell.Goals as goal

pub mark_if-requires : goal.mark_if-requires
mark_if-requires c = omega (arith, c.requires.0, c.requires.1)

pub mark_if-requires-2 : goal.mark_if-requires-2
mark_if-requires-2 c = c.requires.1

pub returns : goal.returns
returns c = told_both _ _ _ _ _ _ _ _ c.requires.0 c.mark_if.ensures c.mark_if-2.ensures
