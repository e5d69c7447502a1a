-- `judging::is_misplaced` meets its contract.
use Rattle.judging.proofs.is_misplaced.Goals as goal

pub returns : goal.returns
returns c = cc
