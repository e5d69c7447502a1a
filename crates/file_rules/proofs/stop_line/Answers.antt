-- `file_rules::stop_line` meets its contract.
use Rattle.file_rules.proofs.Seen.{stop_line_is}
use Rattle.file_rules.proofs.stop_line.Goals as goal

pub returns : goal.returns
returns c =
    let row = c.new-row.ensures in
    λ w n stops h inside. stop_line_is h inside (rw row at c.is_marked-repeats.ensures) (rw row at c.is_marked-has_parent.ensures) (rw row at c.parent_at-parent.ensures) (rw row at c.kind_at.ensures) c.kind_at-2.ensures c.judge_stop.ensures
