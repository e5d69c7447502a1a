-- `columns::cells_of` meets its contract.
use Rattle.columns.proofs.Laws.{cells_by, past_some}
use Rattle.text.proofs.Spans.{up_exact}
use native.Mathlib.Omega.{arith}
use Rattle.columns.proofs.cells_of.Goals as goal

pub near_cells-requires : goal.near_cells-requires
near_cells-requires c =
    let p = c.requires in
    (c.if-count-starts.true, past_some _ _ _ (up_exact _ _ p.0 (omega arith)) p.1 c.if-count-starts.true)

pub returns-then-count-starts : goal.returns-then-count-starts
returns-then-count-starts c =
    let p = c.requires in
    cells_by _ _ _ (up_exact _ _ p.0 (omega arith)) p.1 c.if-count-starts.true _ _ c.near_cells.ensures
