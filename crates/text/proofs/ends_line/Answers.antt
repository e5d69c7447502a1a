-- `text::ends_line` meets its contract.
use Rattle.text.specs.Fields.{ends_line}
use borrow.Author.Tests.{eq-eqb, ne_eqb}
use Rattle.text.proofs.ends_line.Goals as goal

pub returns-then-b-eq10 : goal.returns-then-b-eq10
unfolding ends_line
returns-then-b-eq10 c = rw (eq-eqb _ _ c.if-b-eq10.true)

pub returns-else-b-eq10 : goal.returns-else-b-eq10
unfolding ends_line
returns-else-b-eq10 c = rw (ne_eqb _ _ c.if-b-eq10.false)
