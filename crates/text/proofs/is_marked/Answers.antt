-- `text::is_marked` meets its contract.
use Rattle.std.proofs.Common.{rules}
use Rattle.meaning.specs.Bytes.{marked}
use Rattle.text.proofs.is_marked.Goals as goal

pub returns : goal.returns
unfolding marked
returns c = search rules
