-- `records::put_route` meets its contract.
use Rattle.records.proofs.LineRecords.{route_record}
use Rattle.records.proofs.Readings.{put_as}
use Rattle.records.proofs.put_route.Goals as goal

pub returns : goal.returns
returns c =
    let s = c.args in
    let i = c.field_place-id.ensures.start_value in
    λ w ps loc. put_as _ _ _ _ _ c.put.ensures
    (route_record ps s.l.now.located.line.now _ s.l.now.located.cells loc w _ _ _ i.0 i.1 c.route_type-kind.ensures.0)
