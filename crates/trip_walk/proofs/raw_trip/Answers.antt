-- `trip_walk::raw_trip` meets its contract.
use Rattle.trip_walk.proofs.Turns.{raw_is}
use Rattle.trip_walk.proofs.raw_trip.Goals as goal

pub returns : goal.returns
returns c = raw_is c.args.s.now c.args.t.now c.args.x _ _ _ c.nat_of-start.ensures c.nat_of-end.ensures c.part_of.ensures
