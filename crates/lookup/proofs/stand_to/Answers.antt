-- `lookup::stand_to` meets its contract.
use Rattle.lookup.proofs.Laws.{stands_unsound, stands_as}
use mathlib.Core.Path.{sym, ◌∙◌}
use Rattle.lookup.proofs.stand_to.Goals as goal

pub returns-then-is_not_one : goal.returns-then-is_not_one
returns-then-is_not_one c = stands_unsound _ _ (sym c.is_not_one.ensures ∙ c.if-is_not_one.true)

pub returns : goal.returns
returns c = stands_as _ _ (sym c.is_not_one.ensures ∙ c.if-is_not_one.false) _ _ _ c.content_of.ensures.0 c.is_marked.ensures c.compare_content.ensures
