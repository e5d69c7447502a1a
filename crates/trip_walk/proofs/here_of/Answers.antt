-- `trip_walk::here_of` meets its contract.
use mathlib.Core.Path.{◌∙◌}
use Rattle.trip_walk.proofs.here_of.Goals as goal

pub returns : goal.returns
returns c = c.pick.ensures ∙ rw c.larger_of.ensures
