-- `trip_walk::is_linked` meets its contract.
use Rattle.trip_walk.proofs.Turns.{linked_here, linked_one}
use Rattle.trip_walk.proofs.is_linked.Goals as goal

pub returns-then-k-gt1 : goal.returns-then-k-gt1
returns-then-k-gt1 c = linked_here c.args.s.now c.args.t.now c.args.k _ _ c.same_trip.result c.if-k-gt1.true c.line_at.ensures c.line_at-then-k-gt1.ensures c.same_trip.ensures

pub returns : goal.returns
returns c = linked_one c.args.s.now c.args.t.now c.args.k c.if-k-gt1.false
