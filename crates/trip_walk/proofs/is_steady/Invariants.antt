-- What the loop of `trip_walk::is_steady` keeps.
use Rattle.trip_walk.proofs.File.{Filing}
use Rattle.trip_walk.proofs.is_steady.Given as goal

abbrev pub invariant-loop-i : goal.invariant-loop-i
invariant-loop-i l = Filing l.t l.initial.m l.m l.i
