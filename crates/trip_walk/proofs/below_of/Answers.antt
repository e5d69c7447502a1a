-- `trip_walk::below_of` meets its contract.
use mathlib.Core.Path.{◌∙◌}
use Rattle.trip_walk.proofs.below_of.Goals as goal

pub returns : goal.returns
returns c = c.pick-2.ensures ∙ rw (c.pick.ensures, c.larger_of-grown.ensures)
