-- `file_rules::time_line` meets its contract.
use Rattle.file_rules.proofs.Seen.{time_line_is}
use Rattle.file_rules.proofs.time_line.Goals as goal

pub returns : goal.returns
returns c =
    let row = c.new-row.ensures in
    λ w n h inside. time_line_is h inside (rw row at c.trip_at.ensures) (rw row at c.stop_at-stop.ensures) c.kind_at.ensures (rw row at c.arrival_at.ensures) (rw row at c.departure_at.ensures) (rw row at c.pickup_at.ensures) (rw row at c.drop_off_at.ensures) (rw row at c.timepoint_at.ensures) (rw row at c.is_marked.ensures) (rw row at c.is_marked-2.ensures) c.judge_time.ensures
