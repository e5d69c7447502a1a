-- `ranking::same_values` meets its contract.
use Rattle.ranking.proofs.Laws.{same_is}
use mathlib.Core.Path.{◌∙◌}
use Rattle.ranking.proofs.same_values.Goals as goal

pub returns : goal.returns
returns c = c.is_eq.ensures ∙ same_is _ _ _ c.compare_values.ensures
