-- `tusuchiy::answer_of` meets its contract.
use borrow.Author.Tests.{eq-eqb, ne_eqb}
use Rattle.tusuchiy.proofs.answer_of.Goals as goal

pub returns-then-k-eq0 : goal.returns-then-k-eq0
returns-then-k-eq0 c = rw (eq-eqb c.args.k.total 0 c.if-k-eq0.true)

pub returns : goal.returns
returns c = rw (ne_eqb c.args.k.total 0 c.if-k-eq0.false)
