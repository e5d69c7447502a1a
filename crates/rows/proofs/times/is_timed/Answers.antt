-- `rows::times::is_timed` meets its contract.
use Rattle.rows.proofs.times.is_timed.Goals as goal

pub returns : goal.returns
returns c = cc
