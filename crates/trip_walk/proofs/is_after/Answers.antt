-- `trip_walk::is_after` meets its contract.
use Rattle.trip_walk.proofs.File.{after_is}
use mathlib.Core.Path.{refl}
use Rattle.trip_walk.proofs.is_after.Goals as goal

pub returns : goal.returns
returns c = after_is c.args.t.now c.args.i _ _ _ (rw c.new.ensures at c.trip_at-before.ensures) (rw c.new-2.ensures at c.trip_at-here.ensures) refl
