-- `file_rules::service_line` meets its contract.
use Rattle.file_rules.proofs.Seen.{service_line_is}
use Rattle.file_rules.proofs.service_line.Goals as goal

pub returns : goal.returns
returns c =
    let row = c.new-row.ensures in
    λ w n stops h inside. service_line_is h inside (rw row at c.is_marked.ensures) (rw row at c.start_at.ensures) (rw row at c.end_at.ensures) c.judge_service.ensures
