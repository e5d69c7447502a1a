-- `judging::is_half_timed` meets its contract.
use Rattle.judging.proofs.is_half_timed.Goals as goal

pub returns : goal.returns
returns c = cc
