-- `index_write::Ranks::is_repeat` meets its contract.
use mathlib.Core.Path.{◌∙◌}
use Rattle.index_write.proofs.Ranks.is_repeat.Goals as goal

pub returns : goal.returns
returns c = c.is_alike.ensures ∙ rw (c.get-x.ensures.0, c.get-y.ensures.0)
