-- `rows::cells::number_of` meets its contract.
use native.Mathlib.Omega.{arith}
use mathlib.Core.Path.{sym}
use lib.IntN.{pos}
use lib.ListN.{get_or-eq_default}
use Rattle.rows.proofs.Laws.{row_within, number_past}
use Rattle.rows.proofs.cells.number_of.Goals as goal

pub overflow_mul-at : goal.overflow_mul-at
overflow_mul-at c =
    omega (arith, row_within _ _ c.args.row c.requires.0 c.if-row-t.true)

pub overflow_add-at : goal.overflow_add-at
overflow_add-at c =
    omega (arith, row_within _ _ c.args.row c.requires.0 c.if-row-t.true)

pub returns-else-at-t : goal.returns-else-at-t
returns-else-at-t c =
    sym (get_or-eq_default c.args.t.now (pos 0) c.if-at-t.false)

pub returns-else-row-t : goal.returns-else-row-t
returns-else-row-t c =
    number_past c.args.t.now c.args.width c.args.row c.args.k c.requires.0 c.if-row-t.false
