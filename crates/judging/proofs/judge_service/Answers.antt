-- `judging::judge_service` meets its contract.
use Rattle.judging.specs.Judging.{service_judged}
use Rattle.judging.proofs.judge_service.Goals as goal

pub returns : goal.returns
unfolding service_judged
returns c = c.filled_up.ensures
