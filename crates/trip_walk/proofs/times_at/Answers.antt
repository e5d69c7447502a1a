-- `trip_walk::times_at` meets its contract.
use Rattle.trip_walk.specs.Table.{timed_in}
use Rattle.trip_walk.proofs.times_at.Goals as goal

pub returns : goal.returns
unfolding timed_in
returns c =
    let arrival = rw c.new.ensures at c.arrival_at-a.ensures in
    let departure = rw c.new-2.ensures at c.departure_at-d.ensures in
    (rw (c.is_timed.ensures, arrival, departure), (rw (c.seconds_of.ensures, arrival), rw (c.seconds_of-2.ensures, departure)))
