-- `reading::is_unended` meets its contract.
use Rattle.meaning.specs.Lists.{empty}
use Rattle.meaning.specs.Refusals.{rule4}
use borrow.Author.Tests.{eq-eqb, ne_eqb}
use Rattle.reading.proofs.is_unended.Goals as goal

pub returns-then-s-eq0 : goal.returns-then-s-eq0
unfolding rule4 empty
returns-then-s-eq0 c files room e = rw (eq-eqb _ _ c.if-s-eq0.true, c.may_lack.ensures files e)

pub returns : goal.returns
unfolding rule4 empty
returns c files room e = rw (ne_eqb _ _ c.if-s-eq0.false, c.ends_with_lf.ensures)
