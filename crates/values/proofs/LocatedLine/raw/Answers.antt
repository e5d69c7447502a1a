-- `values::LocatedLine::raw` meets its contract.
use Rattle.meaning.specs.Bytes.{part}
use Rattle.std.proofs.Common.{refl}
use Rattle.values.proofs.LocatedLine.raw.Goals as goal

pub returns : goal.returns
unfolding part
returns c = refl
