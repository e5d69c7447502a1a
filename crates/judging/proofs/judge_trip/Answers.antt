-- `judging::judge_trip` meets its contract.
use Rattle.judging.specs.Judging.{trip_judged}
use Rattle.judging.proofs.judge_trip.Goals as goal

pub returns : goal.returns
unfolding trip_judged
returns c = cc
