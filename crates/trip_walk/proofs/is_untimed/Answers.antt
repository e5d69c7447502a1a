-- `trip_walk::is_untimed` meets its contract.
use Rattle.trip_walk.proofs.is_untimed.Goals as goal

pub returns : goal.returns
returns c = rw c.times_at-y.ensures.0
