-- `judging::is_sooner` meets its contract.
use Rattle.judging.proofs.is_sooner.Goals as goal

pub returns : goal.returns
returns c = cc
