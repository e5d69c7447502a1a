-- `lookup::is_not_one` meets its contract.
use borrow.Author.Tests.{ne_eqb, not-true, not-false}
use Rattle.lookup.proofs.Laws.{one_bad, one_many, one_line}
use mathlib.Core.Path.{sym, ◌∙◌}
use Rattle.lookup.proofs.is_not_one.Goals as goal

pub returns-then-not-m : goal.returns-then-not-m
returns-then-not-m c = one_bad _ (sym c.measure-m.ensures.0 ∙ not-true _ c.if-not-m.true)

pub returns-then-m-ne1 : goal.returns-then-m-ne1
returns-then-m-ne1 c = rw (ne_eqb _ _ c.if-m-ne1.true) (one_many _ (sym c.measure-m.ensures.0 ∙ not-false _ c.if-not-m.false) _ c.measure-m.ensures.1 c.if-m-ne1.true)

pub returns-else-m-ne1 : goal.returns-else-m-ne1
returns-else-m-ne1 c = one_line _ (sym c.measure-m.ensures.0 ∙ not-false _ c.if-not-m.false) _ c.measure-m.ensures.1 c.if-m-ne1.false _ c.count_lf.ensures.0
