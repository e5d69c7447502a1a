-- `columns::header_names` meets its contract.
use Rattle.columns.proofs.Laws.{noted_by}
use Rattle.columns.proofs.header_names.Goals as goal

pub names_of-requires : goal.names_of-requires
names_of-requires c = record {
  f_bound = c.requires;
  count_value = (c.walk_fields-m.ensures.good_value.1, noted_by _ _ _ c.blank_starts-starts.ensures c.walk_fields-m.ensures.starts_after);
}
