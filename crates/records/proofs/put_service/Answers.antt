-- `records::put_service` meets its contract.
use Rattle.records.proofs.LineRecords.{service_record}
use Rattle.records.proofs.Readings.{put_as}
use Rattle.records.proofs.put_service.Goals as goal

pub returns : goal.returns
returns c =
    let s = c.args in
    let i = c.field_place-id.ensures.start_value in
    λ w ps loc. put_as _ _ _ _ _ c.put.ensures
    (service_record ps s.l.now.located.line.now _ s.l.now.located.cells loc w _ _ _ _ _ i.0 i.1 (c.packed_days-days.ensures.0 ps loc) c.date-start.ensures.0 c.date-end.ensures.0)
