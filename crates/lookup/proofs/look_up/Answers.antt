-- `lookup::look_up` meets its contract.
use borrow.Author.Tests.{eqb-true, eqb-false}
use Rattle.lookup.proofs.Laws.{look_empty, look_barred, look_sought}
use mathlib.Core.Path.{sym, ◌∙◌}
use Rattle.lookup.proofs.look_up.Goals as goal

pub returns-then-is_empty : goal.returns-then-is_empty
returns-then-is_empty c = look_empty _ _ _ _ (eqb-true _ _ (sym c.is_empty.ensures ∙ c.if-is_empty.true))

pub returns-then-is_barred : goal.returns-then-is_barred
returns-then-is_barred c = look_barred _ _ _ _ (eqb-false _ _ (sym c.is_empty.ensures ∙ c.if-is_empty.false)) (sym c.is_barred.ensures ∙ c.if-is_barred.true)

pub returns : goal.returns
returns c = look_sought _ _ _ _ (eqb-false _ _ (sym c.is_empty.ensures ∙ c.if-is_empty.false)) (sym c.is_barred.ensures ∙ c.if-is_barred.false) _ c.answer.ensures
