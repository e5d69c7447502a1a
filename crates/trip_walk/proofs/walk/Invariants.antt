-- What the loop of `trip_walk::walk` keeps.
use Rattle.ordering.specs.Ids.{trip_of}
use Rattle.trip_walk.specs.Table.{lines_in, cells_in}
use Rattle.trip_walk.proofs.Walking.{Walking}
use Rattle.trip_walk.proofs.walk.Given as goal

abbrev pub invariant-loop-k : goal.invariant-loop-k
invariant-loop-k l = Walking (lines_in l.s l.t) (trip_of l.t 8) (cells_in l.t) l.n l.k l.initial.m l.m l.a.below l.a.here l.a.from l.a.begins
