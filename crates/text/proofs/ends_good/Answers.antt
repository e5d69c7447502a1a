-- `text::ends_good` meets its contract.
use Rattle.meaning.specs.Bytes.{endings}
use borrow.Author.Rules.{rules}
use Rattle.text.proofs.ends_good.Goals as goal

pub returns : goal.returns
unfolding endings
returns c = search rules
