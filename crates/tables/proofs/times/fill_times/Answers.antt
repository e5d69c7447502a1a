-- `tables::times::fill_times` meets its contract.
use Rattle.meaning.specs.Tables.{widths, width_of}
use Rattle.tables.proofs.TripLines.{trip_count, trips_noted}
use Rattle.records.specs.Waiting.{waits}
use Rattle.tables.proofs.Feeds.{settled_none}
use mathlib.Core.Path.{refl}
use native.Mathlib.Omega.{arith}
use Rattle.tables.proofs.times.fill_times.Goals as goal

pub fill-n-requires : goal.fill-n-requires
fill-n-requires c = record {
  le_f = (omega arith, (omega arith, c.requires.room.0));
  count_le_max_lines = c.requires.room.1;
  indexed = c.requires.indexed;
}

pub mark_times-requires : goal.mark_times-requires
unfolding width_of widths
mark_times-requires c = record {
  n_in_bounds = (omega (arith, c.requires.room.0.room, c.fill-n.ensures.result_value, c.fill-n.auto.t), (omega (arith, c.requires.room.0.few, c.fill-n.ensures.result_value), omega (arith, c.requires.s_in_bounds.0, c.fill-n.ensures.result_value)));
  untold = λ k i h l. c.requires.by_index k i h;
}

pub settle_times-requires : goal.settle_times-requires
unfolding width_of widths
settle_times-requires c =
    (omega (arith, c.requires.room.0.room, c.fill-n.ensures.result_value, c.fill-n.auto.t, c.mark_times.auto.t), omega (arith, c.requires.room.0.few, c.fill-n.ensures.result_value))

pub returns : goal.returns
unfolding width_of widths waits
returns c = record {
  t_after = (λ w own refs.
      let is = c.fill-n.ensures.t_after w refs (settled_none 5 w _ _ refl) in (
        c.settle_times.ensures w _ _ c.fill-n.ensures.result_value (omega (arith, c.requires.room.0.room)) (rw is at c.mark_times.ensures.kept_at),
        trips_noted w _ _ c.requires.room.0.lines own _ c.fill-n.ensures.result_value _ (rw is at c.mark_times.ensures.told) (omega (arith, (refs.trips refl).count, trip_count w, c.mark_times.ensures.m_len_unchanged, c.requires.s_in_bounds.1)),
      ));
  by_index_2 = c.mark_times.ensures.by_index;
}
