-- `records::put_record` meets its contract.
use Rattle.meaning.specs.Tables.{widths, width_of}
use Rattle.records.specs.Waiting.{waits, waiting_column, sought_ids, named_of, written_of}
use Rattle.values.proofs.Readings.{located, within}
use Rattle.records.proofs.Readings.{file_room, file_put, file_named}
use Rattle.records.proofs.References.{sought_trips, sought_times}
use Rattle.meaning.specs.Columns.{row_of}
use mathlib.Core.Path.{◌≡◌, refl}
use native.Mathlib.Omega.{arith}
use Rattle.records.proofs.put_record.Goals as goal

pub invariant_of-line : goal.invariant_of-line
invariant_of-line c = record { within = within _ _ _ c.locate.ensures }

pub put_stop-requires : goal.put_stop-requires
unfolding width_of widths
put_stop-requires c =
    rw c.new.ensures (file_room _ 1 _ _ (omega arith) c.requires.f_in_bounds)

pub returns-in-1 : goal.returns-in-1
unfolding width_of widths written_of waits named_of waiting_column sought_ids
returns-in-1 c =
    let k : c.args.f ≡ 1 = omega arith in record {
      by_index = (λ w ps e refs settled. file_put _ 1 _ _ _ _ _ _ k (rw c.new.ensures at (c.put_stop.ensures w ps (located c.args.l.now c.args.places _ c.locate.ensures ps e) (rw c.new.ensures (file_named _ 1 c.args.r w (row_of ps c.args.l.now) c.args.t.now k refl settled)))));
      sought_2 = c.requires.sought;
    }

pub put_route-requires : goal.put_route-requires
unfolding width_of widths
put_route-requires c =
    rw c.new-in-2.ensures (file_room _ 2 _ _ (omega arith) c.requires.f_in_bounds)

pub returns-in-2 : goal.returns-in-2
unfolding width_of widths written_of
returns-in-2 c =
    let k : c.args.f ≡ 2 = omega arith in record {
      by_index = (λ w ps e refs settled. file_put _ 2 _ _ _ _ _ _ k (rw c.new-in-2.ensures at (c.put_route.ensures w ps (located c.args.l.now c.args.places _ c.locate.ensures ps e))));
      sought_2 = c.requires.sought;
    }

pub put_service-requires : goal.put_service-requires
unfolding width_of widths
put_service-requires c =
    rw c.new-in-3.ensures (file_room _ 3 _ _ (omega arith) c.requires.f_in_bounds)

pub returns-in-3 : goal.returns-in-3
unfolding width_of widths written_of
returns-in-3 c =
    let k : c.args.f ≡ 3 = omega arith in record {
      by_index = (λ w ps e refs settled. file_put _ 3 _ _ _ _ _ _ k (rw c.new-in-3.ensures at (c.put_service.ensures w ps (located c.args.l.now c.args.places _ c.locate.ensures ps e))));
      sought_2 = c.requires.sought;
    }

pub put_date-requires : goal.put_date-requires
unfolding width_of widths
put_date-requires c =
    rw c.new-in-6.ensures (file_room _ 6 _ _ (omega arith) c.requires.f_in_bounds)

pub returns-in-6 : goal.returns-in-6
unfolding width_of widths written_of
returns-in-6 c =
    let k : c.args.f ≡ 6 = omega arith in record {
      by_index = (λ w ps e refs settled. file_put _ 6 _ _ _ _ _ _ k (rw c.new-in-6.ensures at (c.put_date.ensures w ps (located c.args.l.now c.args.places _ c.locate.ensures ps e))));
      sought_2 = c.requires.sought;
    }

pub put_trip-requires : goal.put_trip-requires
unfolding width_of widths
put_trip-requires c =
    let k : c.args.f ≡ 4 = omega arith in record {
      row_in_bounds = rw c.new-in-4.ensures (file_room _ 4 _ _ k c.requires.f_in_bounds);
      count_le_max_lines = c.requires.count_le_max_lines;
      ready = (c.requires.sought.routes k, c.requires.sought.services k);
    }

pub returns-in-4 : goal.returns-in-4
unfolding width_of widths written_of waits named_of waiting_column sought_ids
returns-in-4 c =
    let k : c.args.f ≡ 4 = omega arith in record {
      by_index = (λ w ps e refs settled. file_put _ 4 _ _ _ _ _ _ k (rw c.new-in-4.ensures at (c.put_trip.ensures.t_after w ps (located c.args.l.now c.args.places _ c.locate.ensures ps e) (refs.routes k) (refs.services k) (rw c.new-in-4.ensures (file_named _ 4 c.args.r w (row_of ps c.args.l.now) c.args.t.now k refl settled)))));
      sought_2 = sought_trips _ _ _ _ _ k c.put_trip.ensures.ready_2.0 c.put_trip.ensures.ready_2.1;
    }

pub put_time-requires : goal.put_time-requires
unfolding width_of widths
put_time-requires c =
    let k : c.args.f ≡ 5 = omega (arith, c.requires.le_f.0, c.requires.le_f.1.0) in record {
      row_in_bounds = rw c.new-in_default.ensures (file_room _ 5 _ _ k c.requires.f_in_bounds);
      count_le_max_lines = c.requires.count_le_max_lines;
      ready = (c.requires.sought.trips k, c.requires.sought.stops k);
    }

pub returns-in_default : goal.returns-in_default
unfolding width_of widths written_of
returns-in_default c =
    let k : c.args.f ≡ 5 = omega (arith, c.requires.le_f.0, c.requires.le_f.1.0) in record {
      by_index = (λ w ps e refs settled. file_put _ 5 _ _ _ _ _ _ k (rw c.new-in_default.ensures at (c.put_time.ensures.t_after w ps (located c.args.l.now c.args.places _ c.locate.ensures ps e) (refs.trips k) (refs.stops k))));
      sought_2 = sought_times _ _ _ _ _ k c.put_time.ensures.ready_2.0 c.put_time.ensures.ready_2.1;
    }
