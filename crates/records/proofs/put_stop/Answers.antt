-- `records::put_stop` meets its contract.
use Rattle.records.proofs.LineRecords.{stop_record}
use Rattle.records.proofs.Readings.{put_as}
use Rattle.num.proofs.Laws.{kept_is}
use Rattle.records.proofs.put_stop.Goals as goal

pub returns : goal.returns
returns c =
    let s = c.args in
    let i = c.field_place-id.ensures.start_value in
    λ w ps loc parent.
    put_as _ _ _ _ _ c.put.ensures
    (stop_record ps s.l.now.located.line.now _ s.l.now.located.cells loc w _ _ _ _ _ _ _ parent i.0 i.1 (kept_is _ _ c.latitude-latitude.type_inv c.latitude-latitude.ensures) (kept_is _ _ c.longitude-longitude.type_inv c.longitude-longitude.ensures) c.choice_or_zero-kind.ensures.0 (c.place_mark-placed.ensures.0 ps loc))
