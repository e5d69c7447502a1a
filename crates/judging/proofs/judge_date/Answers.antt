-- `judging::judge_date` meets its contract.
use Rattle.judging.specs.Judging.{date_judged}
use Rattle.judging.proofs.judge_date.Goals as goal

pub returns : goal.returns
unfolding date_judged
returns c = c.filled_up.ensures
