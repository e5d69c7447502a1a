-- `columns::note_name` meets its contract.
use Rattle.columns.proofs.Standings.{new_first, new_again, old_first, old_again}
use Rattle.columns.specs.Columns.{firsts_with, again_with, told}
use mathlib.Core.Path.{ap, ◌∙◌}
use Rattle.columns.proofs.note_name.Goals as goal

pub returns-in_default-clause-at_value : goal.returns-in_default-clause-at_value
unfolding firsts_with
returns-in_default-clause-at_value c = rw c.in_default.is

pub returns-in_default-clause-again_value : goal.returns-in_default-clause-again_value
unfolding again_with
returns-in_default-clause-again_value c = λ a e h. rw c.in_default.is e

pub returns-then-at-k-eq0-clause-at_value : goal.returns-then-at-k-eq0-clause-at_value
returns-then-at-k-eq0-clause-at_value c = rw c.in-Some.is (new_first _ _ _ c.if-at-k-eq0.true)

pub returns-then-at-k-eq0-clause-again_value : goal.returns-then-at-k-eq0-clause-again_value
returns-then-at-k-eq0-clause-again_value c = λ a e h. rw c.in-Some.is (e ∙ ap told (new_again _ _ _ a c.if-at-k-eq0.true))

pub returns-clause-at_value : goal.returns-clause-at_value
returns-clause-at_value c = rw c.in-Some.is (old_first _ _ _ c.if-at-k-eq0.false)

pub returns-clause-again_value : goal.returns-clause-again_value
returns-clause-again_value c = λ a e h. rw c.in-Some.is (c.or.ensures ∙ rw e (old_again _ _ _ a c.if-at-k-eq0.false h))
