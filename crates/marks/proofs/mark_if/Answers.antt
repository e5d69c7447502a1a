-- `marks::mark_if` meets its contract.
use Rattle.marks.proofs.Tests.{marked_yes, marked_no}
use Rattle.marks.proofs.mark_if.Goals as goal

pub returns-then-p : goal.returns-then-p
returns-then-p c = marked_yes _ _ _ _ _ c.if-p.true c.mark.ensures

pub returns-else-p : goal.returns-else-p
returns-else-p c = marked_no _ _ _ _ c.if-p.false
