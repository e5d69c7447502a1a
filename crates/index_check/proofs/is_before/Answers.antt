-- `index_check::is_before` meets its contract.
use Rattle.index_check.proofs.Laws.{before_told}
use Rattle.ordering.specs.Cells.{cell_at}
use mathlib.Core.Path.{◌∙◌}
use Rattle.index_check.proofs.is_before.Goals as goal

pub returns : goal.returns
returns c =
    let a = c.args in
    c.is_lt.ensures ∙ before_told a.s.now (cell_at 0 a.t.now 1 a.x) (cell_at 0 a.t.now 1 a.y) _ _ _ _ c.compare_values.result c.get-a.ensures.0 c.get-b.ensures.0 c.field_on.ensures c.field_on-2.ensures c.compare_values.ensures
