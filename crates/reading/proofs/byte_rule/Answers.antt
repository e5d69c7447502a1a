-- `reading::byte_rule` meets its contract.
use Rattle.reading.proofs.First.{first_yes, first_no, first_none}
use Rattle.characters.proofs.Laws.{plain_stray, plain_formed}
use Rattle.reading.specs.Tests.{byte_tests}
use mathlib.Core.Path.{sym, ◌∙◌}
use Rattle.reading.proofs.byte_rule.Goals as goal

pub returns-then-is_plain : goal.returns-then-is_plain
unfolding byte_tests
returns-then-is_plain c =
    let e = sym c.is_plain.ensures ∙ c.if-is_plain.true in
    first_no _ _ _ (plain_stray _ e) _ (first_no _ _ _ (plain_formed _ e) _ first_none)

pub returns-then-has_stray : goal.returns-then-has_stray
unfolding byte_tests
returns-then-has_stray c = first_yes _ _ _ (sym c.has_stray.ensures ∙ c.if-has_stray.true)

pub returns-then-is_ill_formed : goal.returns-then-is_ill_formed
unfolding byte_tests
returns-then-is_ill_formed c =
    first_no _ _ _ (sym c.has_stray.ensures ∙ c.if-has_stray.false) _
    (first_yes _ _ _ (sym c.is_ill_formed.ensures ∙ c.if-is_ill_formed.true))

pub returns : goal.returns
unfolding byte_tests
returns c =
    first_no _ _ _ (sym c.has_stray.ensures ∙ c.if-has_stray.false) _
    (first_no _ _ _ (sym c.is_ill_formed.ensures ∙ c.if-is_ill_formed.false) _ first_none)
