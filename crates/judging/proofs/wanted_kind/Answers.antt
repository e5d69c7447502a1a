-- `judging::wanted_kind` meets its contract.
use borrow.Author.Tests.{eq-eqb, ne_eqb}
use Rattle.meaning.specs.Rules.{kind_of_parent}
use Rattle.judging.proofs.wanted_kind.Goals as goal

pub returns-then-kind-eq4 : goal.returns-then-kind-eq4
unfolding kind_of_parent
returns-then-kind-eq4 c = rw (eq-eqb _ 4 c.if-kind-eq4.true)

pub returns : goal.returns
unfolding kind_of_parent
returns c = rw (ne_eqb _ 4 c.if-kind-eq4.false)
