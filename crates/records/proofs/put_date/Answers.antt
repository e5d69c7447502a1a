-- `records::put_date` meets its contract.
use Rattle.records.proofs.LineRecords.{date_record}
use Rattle.records.proofs.Readings.{put_as}
use Rattle.records.proofs.put_date.Goals as goal

pub returns : goal.returns
returns c =
    let s = c.args in
    let i = c.field_place-id.ensures.start_value in
    λ w ps loc. put_as _ _ _ _ _ c.put.ensures
    (date_record ps s.l.now.located.line.now _ s.l.now.located.cells loc w _ _ _ _ i.0 i.1 c.date-date.ensures.0 c.exception-kind.ensures.0)
