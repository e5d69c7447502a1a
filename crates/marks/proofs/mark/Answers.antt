-- `marks::mark` meets its contract.
use Rattle.marks.proofs.Bits.{one_more, none_more}
use Rattle.marks.proofs.mark.Goals as goal

pub returns-then-r-m : goal.returns-then-r-m
returns-then-r-m c = one_more _ _ _ c.requires c.if-r-m.true

pub returns-else-r-m : goal.returns-else-r-m
returns-else-r-m c = none_more _ _ _ c.if-r-m.false
