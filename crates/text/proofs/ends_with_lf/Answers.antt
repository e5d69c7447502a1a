-- `text::ends_with_lf` meets its contract.
use Rattle.std.proofs.Common.{rules}
use Rattle.meaning.specs.Refusals.{ended}
use Rattle.text.proofs.ends_with_lf.Goals as goal

pub returns : goal.returns
unfolding ended
returns c = search rules
