-- `rows::cells::nat_of` meets its contract.
use mathlib.Core.Path.{◌∙◌, ap}
use Rattle.num.specs.Signs.{nat_of}
use Rattle.num.proofs.Laws.{kept_is}
use Rattle.rows.proofs.cells.nat_of.Goals as goal

pub returns : goal.returns
returns c =
    c.nat.ensures.value ∙ ap nat_of (kept_is c.number_of.result _ c.number_of.type_inv c.number_of.ensures)
