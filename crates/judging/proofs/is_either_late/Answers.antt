-- `judging::is_either_late` meets its contract.
use Rattle.judging.proofs.is_either_late.Goals as goal

pub returns : goal.returns
returns c = cc
