-- `tables::parents::settle_parents` meets its contract.
use Rattle.memo.proofs.Laws.{ready_blank}
use Rattle.tables.proofs.parents.settle_parents.Goals as goal

pub settle_with-requires : goal.settle_with-requires
settle_with-requires c = (ready_blank _ _ _ _ _ c.requires.0 c.requires.1.0 c.blank-memo.ensures, c.requires.1.1)

pub returns : goal.returns
returns c = record {
  kept_at = c.settle_with.ensures.kept_at;
  by_index = c.settle_with.ensures.by_index;
}
