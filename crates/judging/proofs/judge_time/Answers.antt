-- `judging::judge_time` meets its contract.
use Rattle.judging.specs.Judging.{time_judged}
use Rattle.judging.proofs.judge_time.Goals as goal

pub returns : goal.returns
unfolding time_judged
returns c = cc
