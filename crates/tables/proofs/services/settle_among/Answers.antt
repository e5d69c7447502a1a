-- `tables::services::settle_among` meets its contract.
use Rattle.memo.proofs.Laws.{ready_blank}
use Rattle.tables.proofs.services.settle_among.Goals as goal

pub settle_with-requires : goal.settle_with-requires
settle_with-requires c = record {
  ready = ready_blank _ _ _ _ _ c.requires.placed.0 c.requires.placed.1 c.blank-memo.ensures;
  n_in_bounds = c.requires.n_in_bounds;
}

pub returns : goal.returns
returns c = record {
  kept_at = c.settle_with.ensures.kept_at;
  by_index = c.settle_with.ensures.by_index;
}
