-- `rows::cells::store` meets its contract.
use Rattle.rows.proofs.Laws.{copied}
use Rattle.rows.proofs.cells.store.Goals as goal

pub returns : goal.returns
returns c = rw c.copy_from_slice.ensures.after (copied c.args.t.now c.args.r.now c.args.at)
