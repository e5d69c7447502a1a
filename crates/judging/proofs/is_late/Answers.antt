-- `judging::is_late` meets its contract.
use mathlib.Core.Path.{sym}
use Rattle.judging.proofs.Stored.{late_seconds}
use Rattle.judging.proofs.is_late.Goals as goal

pub returns : goal.returns
returns c = rw c.seconds_of.ensures (sym (late_seconds c.args.x))
