-- `file_rules::trip_line` meets its contract.
use Rattle.file_rules.proofs.Seen.{trip_line_is}
use Rattle.file_rules.proofs.trip_line.Goals as goal

pub returns : goal.returns
returns c =
    let row = c.new-row.ensures in
    λ w n stops h inside. trip_line_is h inside (rw row at c.is_marked.ensures) (rw row at c.route_at.ensures) (rw row at c.service_at.ensures) (rw row at c.dated_at.ensures) (rw row at c.is_marked-2.ensures) (rw row at c.is_marked-3.ensures) c.judge_trip.ensures
