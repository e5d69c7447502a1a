-- `records::put_trip` meets its contract.
use Rattle.records.proofs.LineRecords.{trip_record}
use Rattle.records.proofs.Readings.{referred}
use Rattle.num.proofs.Laws.{kept_is}
use mathlib.Core.Path.{◌∙◌}
use native.Mathlib.Omega.{arith}
use Rattle.records.proofs.put_trip.Goals as goal

pub put-requires : goal.put-requires
put-requires c =
    let i = c.field_place-id.ensures.start_le_max_bytes in record {
      row_in_bounds = omega arith;
      start_bound = (omega (arith, i.0), (omega (arith, i.1), (omega (arith, c.find-route.ensures.result_le_n, c.requires.count_le_max_lines.0), (omega (arith, c.find-service.ensures.result_le_n, c.requires.count_le_max_lines.1), (omega (arith, c.choice_or_zero-wheelchair.ensures.1), omega (arith, c.choice_or_zero-bikes.ensures.1))))));
    }

pub returns : goal.returns
returns c =
    let s = c.args in
    let i = c.field_place-id.ensures.start_value in record {
      t_after = (λ w ps loc routes services dated.
          c.put.ensures
          ∙ (trip_record ps s.l.now.located.line.now _ s.l.now.located.cells loc w _ _ _ _ _ _ _ _ _ c.requires.row_in_bounds dated i.0 i.1
          (referred _ _ _ _ _ _ _ _ routes c.find-route.ensures.first c.raw.ensures)
          (referred _ _ _ _ _ _ _ _ services c.find-service.ensures.first c.raw-2.ensures)
          (kept_is _ _ c.choice_or_minus-direction.type_inv c.choice_or_minus-direction.ensures) c.choice_or_zero-wheelchair.ensures.0 c.choice_or_zero-bikes.ensures.0));
      ready_2 = (c.find-route.ensures.ready, c.find-service.ensures.ready);
    }
