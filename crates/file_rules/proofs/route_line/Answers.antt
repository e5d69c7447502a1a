-- `file_rules::route_line` meets its contract.
use Rattle.file_rules.proofs.Seen.{route_line_is}
use Rattle.file_rules.proofs.route_line.Goals as goal

pub returns : goal.returns
returns c =
    λ w n t stops h inside. route_line_is h inside c.is_marked.ensures c.is_marked-2.ensures c.judge_route.ensures
