-- `marks::is_marked` meets its contract.
use mathlib.Core.Path.{refl, sym, ◌∙◌}
use borrow.Author.Tests.{le-ltb}
use Rattle.marks.specs.Marks.{marked}
use Rattle.marks.proofs.Bits.{unmarked_past}
use Rattle.marks.proofs.is_marked.Goals as goal

pub returns-then-r-m : goal.returns-then-r-m
unfolding marked
returns-then-r-m c = refl

pub returns-else-r-m : goal.returns-else-r-m
returns-else-r-m c = le-ltb _ _ c.if-r-m.false ∙ sym (unmarked_past _ _ _ c.if-r-m.false)
