-- `trip_walk::close` meets its contract.
use Rattle.trip_walk.proofs.Turns.{closed_going, closed_first, closed_ended}
use Rattle.trip_walk.proofs.close.Goals as goal

pub returns-then-link : goal.returns-then-link
returns-then-link c = λ s. closed_going s _ _ _ _ _ _ c.if-link.true

pub returns-then-k-le1 : goal.returns-then-k-le1
returns-then-k-le1 c = λ s. closed_first s _ _ _ _ _ _ c.if-k-le1.true

pub returns : goal.returns
returns c = λ s. closed_ended s _ _ _ _ _ _ _ c.if-link.false c.if-k-le1.false c.tell_trip.ensures
