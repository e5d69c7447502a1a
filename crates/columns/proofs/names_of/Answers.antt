-- `columns::names_of` meets its contract.
use Rattle.text.proofs.Spans.{up_exact}
use native.Mathlib.Omega.{arith}
use Rattle.columns.proofs.names_of.Goals as goal

pub near_names-requires : goal.near_names-requires
near_names-requires c = record {
  f_bound = c.requires.f_bound;
  count_value = (up_exact _ _ c.requires.count_value.0 (omega arith), c.if-count-starts.true, c.requires.count_value.1);
}
