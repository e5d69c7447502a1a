-- `ranking::compare_values` meets its contract.
use Rattle.ranking.proofs.Laws.{compare_marked, value_bare}
use mathlib.Core.Path.{sym, ◌∙◌}
use Rattle.ranking.proofs.compare_values.Goals as goal

pub returns-then-qa : goal.returns-then-qa
returns-then-qa c =
    compare_marked _ _ _ _ _ _ _ c.content_of.ensures.0 c.content_of-then-qa.ensures.0 c.is_marked-qa.ensures c.is_marked-qb.ensures c.compare_content.ensures

pub returns : goal.returns
returns c =
    c.compare_bytes.ensures ∙ rw (value_bare _ (sym c.is_marked-qa.ensures ∙ c.if-qa.false), value_bare _ (sym c.is_marked-qb.ensures ∙ c.if-qb.false))
