-- `records::put_time` meets its contract.
use Rattle.records.proofs.LineRecords.{waiting_record}
use Rattle.records.proofs.Waiting.{timepoint_marked}
use Rattle.records.proofs.Readings.{put_as, referred}
use Rattle.values.specs.Located.{value_in}
use Rattle.num.proofs.Laws.{kept_is}
use mathlib.Core.Path.{sym, ◌∙◌}
use native.Mathlib.Omega.{arith}
use Rattle.records.proofs.put_time.Goals as goal

pub put_waiting-requires : goal.put_waiting-requires
put_waiting-requires c =
    let place = c.field_place-place.ensures.start_le_max_bytes in record {
      row_in_bounds = c.requires.row_in_bounds;
      trip_bound = (omega (arith, c.find-trip.ensures.result_le_n, c.requires.count_le_max_lines.0), (omega (arith, c.find-stop.ensures.result_le_n, c.requires.count_le_max_lines.1), (omega (arith, c.sequence-sequence.ensures.1), (omega (arith, c.choice_or_zero-pickup.ensures.1), (omega (arith, c.choice_or_zero-drop_off.ensures.1), (omega (arith, place.0), omega (arith, place.1)))))));
    }

pub returns : goal.returns
returns c =
    let s = c.args in
    let m = timepoint_marked (value_in s.l.now.located.line.now s.l.now.located.cells 7) in
    let place = c.field_place-place.ensures.start_value in record {
      t_after = (λ w ps loc trips stops. put_as _ _ _ _ _ (c.put_waiting.ensures _ m.1 (kept_is _ _ c.choice_or_minus-timepoint.type_inv c.choice_or_minus-timepoint.ensures ∙ sym m.0))
          (waiting_record ps s.l.now.located.line.now _ s.l.now.located.cells loc w _ _ _ _ _ _ _ _ _
          (referred _ _ _ _ _ _ _ _ trips c.find-trip.ensures.first c.raw.ensures)
          (referred _ _ _ _ _ _ _ _ stops c.find-stop.ensures.first c.raw-2.ensures)
          c.sequence-sequence.ensures.0 (kept_is _ _ c.clock-arrival.type_inv c.clock-arrival.ensures) (kept_is _ _ c.clock-departure.type_inv c.clock-departure.ensures)
          c.choice_or_zero-pickup.ensures.0 c.choice_or_zero-drop_off.ensures.0 place.0 place.1));
      ready_2 = (c.find-trip.ensures.ready, c.find-stop.ensures.ready);
    }
