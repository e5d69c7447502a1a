-- `trip_walk::tell_trip` meets its contract.
use Rattle.trip_walk.proofs.Turns.{trip_told}
use native.Mathlib.Omega.{arith}
use Rattle.trip_walk.proofs.tell_trip.Goals as goal

pub tell-requires : goal.tell-requires
tell-requires c = (omega arith, omega arith)

pub returns : goal.returns
returns c = trip_told _ _ _ _ _ _ _ _ _ c.line_at.ensures (rw c.new.ensures at c.trip_at-r.ensures) c.is_open-open.ensures c.tell.ensures
