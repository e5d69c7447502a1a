-- `columns::locate` meets its contract.
use Rattle.columns.proofs.Laws.{noted_by}
use Rattle.columns.proofs.locate.Goals as goal

pub cells_of-requires : goal.cells_of-requires
cells_of-requires c =
    (c.walk_fields-m.ensures.good_value.1, noted_by _ _ _ c.blank_starts-starts.ensures c.walk_fields-m.ensures.starts_after)
