-- `judging::judge_route` meets its contract.
use Rattle.judging.specs.Judging.{route_judged}
use Rattle.judging.proofs.judge_route.Goals as goal

pub returns : goal.returns
unfolding route_judged
returns c = c.filled_up.ensures
