-- `columns::field_by` meets its contract.
use Rattle.columns.proofs.Laws.{by_none, by_past, by_table}
use mathlib.Core.Path.{◌≡◌}
use native.Mathlib.Omega.{arith}
use Rattle.columns.proofs.field_by.Goals as goal

pub returns-then-p-eq0 : goal.returns-then-p-eq0
returns-then-p-eq0 c = by_none _ _ _ c.if-p-eq0.true

pub returns-then-count-p : goal.returns-then-count-p
returns-then-count-p c = by_past _ _ _ c.if-p-eq0.false c.if-count-p.true

pub overflow_sub-result-2 : goal.overflow_sub-result-2
overflow_sub-result-2 c =
    let n : c.args.p ≡ 0 → ⊥ = c.if-p-eq0.false in
    c.requires.1 _ (omega arith) c.if-count-p.false

pub returns : goal.returns
returns c = by_table _ _ _ c.if-p-eq0.false c.if-count-p.false
