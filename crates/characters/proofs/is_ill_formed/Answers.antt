-- `characters::is_ill_formed` meets its contract.
use Rattle.characters.proofs.Laws.{told_from, all_ascii}
use mathlib.Core.Path.{◌∙◌}
use Rattle.characters.proofs.is_ill_formed.Goals as goal

pub returns-then-l-at : goal.returns-then-l-at
returns-then-l-at c = all_ascii _ _ c.ascii_end-at.ensures.0 c.if-l-at.true

pub returns : goal.returns
returns c = c.awaits_more.ensures ∙ told_from _ _ c.ascii_end-at.ensures.0
