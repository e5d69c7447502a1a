-- `ranking::compare_bytes` meets its contract.
use Rattle.ranking.proofs.Laws.{cmp_is}
use mathlib.Core.Path.{◌∙◌}
use Rattle.ranking.proofs.compare_bytes.Goals as goal

pub returns : goal.returns
returns c = c.cmp.ensures ∙ cmp_is _ _
