-- `file_rules::date_line` meets its contract.
use Rattle.file_rules.proofs.Seen.{date_line_is}
use Rattle.file_rules.proofs.date_line.Goals as goal

pub returns : goal.returns
returns c =
    λ w n t stops h inside. date_line_is h inside c.is_marked.ensures c.judge_date.ensures
