-- `tables::placing::put_places` meets its contract.
use Rattle.tables.proofs.Written.{places_record}
use Rattle.records.proofs.Readings.{put_as}
use Rattle.tables.proofs.Turns.{eight_wide}
use native.Mathlib.Omega.{arith}
use Rattle.tables.proofs.placing.put_places.Goals as goal

pub put_places-requires : goal.put_places-requires
put_places-requires c =
    let a = c.field_place-id.ensures.start_le_max_bytes in
    let b = c.field_place-other.ensures.start_le_max_bytes in record {
      width_bound = (rw c.width_of.ensures (eight_wide _), rw c.width_of.ensures c.requires.f_in_bounds);
      start_bound = (omega (arith, a.0), (omega (arith, a.1), (c.date_key-key.ensures.upper_bound, (omega (arith, b.0), omega (arith, b.1)))));
    }

pub returns : goal.returns
returns c =
    let s = c.args in
    let a = c.field_place-id.ensures.start_value in
    let b = c.field_place-other.ensures.start_value in
    let e = c.id_column.ensures.0 in
    let k = c.waiting_column.ensures.0 in
    λ ps loc.
    rw (← c.width_of.ensures)
    (put_as _ _ _ _ _ c.put_places.ensures
    (rw c.width_of.ensures (places_record ps s.l.now.located.line.now _ s.l.now.located.cells loc s.f _ _ _ _ _ (rw e at a.0) (rw e at a.1) (c.date_key-key.ensures.by_index ps loc) (rw k at b.0) (rw k at b.1))))
