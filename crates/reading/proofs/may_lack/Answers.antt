-- `reading::may_lack` meets its contract.
use Rattle.meaning.specs.Refusals.{may_lack}
use borrow.Author.Tests.{eq-eqb, ne_eqb}
use Rattle.reading.proofs.may_lack.Goals as goal

pub returns-then-f-eq-FILE : goal.returns-then-f-eq-FILE
unfolding may_lack
returns-then-f-eq-FILE c files e = rw (eq-eqb _ _ c.if-f-eq-FILE.true)

pub returns-then-f-eq-FILE-2 : goal.returns-then-f-eq-FILE-2
unfolding may_lack
returns-then-f-eq-FILE-2 c files e = rw (ne_eqb _ _ c.if-f-eq-FILE.false, eq-eqb _ _ c.if-f-eq-FILE-2.true) e

pub returns-else-f-eq-FILE-2 : goal.returns-else-f-eq-FILE-2
unfolding may_lack
returns-else-f-eq-FILE-2 c files e = rw (ne_eqb _ _ c.if-f-eq-FILE.false, ne_eqb _ _ c.if-f-eq-FILE-2.false)
