-- `trip_walk::next` meets its contract.
use mathlib.Core.Path.{refl, ◌∙◌}
use Rattle.trip_walk.proofs.next.Goals as goal

pub returns : goal.returns
returns c = record {
  below_value = (c.below_of-below.ensures, c.here_of.ensures ∙ rw c.leaving.ensures);
  from_value = (c.pick.ensures, c.pick-2.ensures);
  linked_value = (refl, refl);
  falls_value = c.is_late.ensures ∙ rw c.below_of-below.ensures;
}
