-- `seeking::is_before` meets its contract.
use Rattle.seeking.proofs.Laws.{before_cell}
use mathlib.Core.Path.{◌∙◌}
use Rattle.seeking.proofs.is_before.Goals as goal

pub returns : goal.returns
returns c = c.is_lt.ensures ∙ before_cell _ _ c.args.w c.args.i _ c.args.raw.now _ _ (rw c.by_id.ensures at c.get-r.ensures.0) c.raw_id.ensures c.compare_values.ensures
