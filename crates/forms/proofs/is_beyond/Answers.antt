-- `forms::is_beyond` meets its contract.
use Rattle.forms.specs.Parts.{beyond}
use Rattle.std.proofs.Common.{eq-eqb, ne_eqb}
use Rattle.forms.proofs.is_beyond.Goals as goal

pub returns-then-w-limit : goal.returns-then-w-limit
unfolding beyond
returns-then-w-limit c = rw (eq-eqb _ _ c.if-w-limit.true)

pub returns-else-w-limit : goal.returns-else-w-limit
unfolding beyond
returns-else-w-limit c = rw (ne_eqb _ _ c.if-w-limit.false)
