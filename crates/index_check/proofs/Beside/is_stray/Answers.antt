-- `index_check::Beside::is_stray` meets its contract.
use Rattle.index_check.proofs.Laws.{stray_none, stray_past}
use Rattle.index_check.proofs.Beside.is_stray.Goals as goal

pub returns-then-r-eq0 : goal.returns-then-r-eq0
returns-then-r-eq0 c = stray_none _ _ _ c.entry_at-r.ensures.0 c.if-r-eq0.true

pub returns-else-r-eq0 : goal.returns-else-r-eq0
returns-else-r-eq0 c = stray_past _ _ _ c.entry_at-r.ensures.0 c.if-r-eq0.false
