-- `judging::judge_stop` meets its contract.
use Rattle.judging.specs.Judging.{stop_judged}
use Rattle.judging.proofs.judge_stop.Goals as goal

pub returns : goal.returns
unfolding stop_judged
returns c = cc
