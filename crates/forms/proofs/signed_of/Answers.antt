-- `forms::signed_of` meets its contract.
use Rattle.forms.proofs.Laws.{minus_is, plain_is}
use Rattle.meaning.specs.Forms.{signed}
use Rattle.forms.proofs.signed_of.Goals as goal

pub returns-then-below : goal.returns-then-below
unfolding signed
returns-then-below c = rw c.if-below.true (minus_is _ c.requires)

pub returns-else-below : goal.returns-else-below
unfolding signed
returns-else-below c = rw c.if-below.false (plain_is _ c.requires)
