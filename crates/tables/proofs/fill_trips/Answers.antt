-- `tables::fill_trips` meets its contract.
use Rattle.records.proofs.References.{indexed_trips, refers_trips}
use Rattle.tables.proofs.Written.{written_filled}
use Rattle.tables.proofs.Feeds.{none_index, none_lists}
use mathlib.Core.Path.{◌∙◌}
use native.Mathlib.Omega.{arith}
use Rattle.tables.proofs.fill_trips.Goals as goal

pub fill-requires : goal.fill-requires
fill-requires c = record {
  le_f = (omega arith, (omega arith, c.requires.room.0));
  count_le_max_lines = (c.requires.room.1.0, omega arith);
  indexed = indexed_trips _ _ c.requires.placed (none_index _ _ 5 (omega arith) (omega arith) (omega arith));
}

pub returns-then-services-eq0 : goal.returns-then-services-eq0
returns-then-services-eq0 c =
    λ w routes services settled.
    c.fill.ensures.t_after w (refers_trips w _ _ routes (none_lists _ _ 5 (omega arith) (omega arith) (omega arith) _ (services.1 c.if-services-eq0.true))) settled
    ∙ written_filled 4 (λ e. omega arith) w _ c.requires.room.0.lines _

pub fill-requires-2 : goal.fill-requires-2
fill-requires-2 c = record {
  le_f = (omega arith, (omega arith, c.requires.room.0));
  count_le_max_lines = c.requires.room.1;
  indexed = indexed_trips _ _ c.requires.placed (c.requires.indexed_if (omega (arith, c.if-services-eq0.false)));
}

pub returns : goal.returns
returns c =
    λ w routes services settled.
    c.fill-2.ensures.t_after w (refers_trips w _ _ routes (services.0 (omega (arith, c.if-services-eq0.false)))) settled
    ∙ written_filled 4 (λ e. omega arith) w _ c.requires.room.0.lines _
