-- `reading::value_fault` meets its contract.
use Rattle.reading.proofs.First.{first_none, value_yes, value_no, value_absent}
use Rattle.reading.proofs.Values.{need_less, long_is, blank_empty, blank_full, formless_empty, formless_full}
use Rattle.reading.specs.Tests.{column_tests}
use mathlib.Core.Bool.{true, false}
use mathlib.Core.Path.{sym, ◌∙◌}
use Rattle.reading.proofs.value_fault.Goals as goal

pub returns-then-p-eq0 : goal.returns-then-p-eq0
returns-then-p-eq0 c = value_absent _ _ _ _ c.if-p-eq0.true

pub returns-then-is_long : goal.returns-then-is_long
unfolding column_tests
returns-then-is_long c =
    value_yes _ _ _ _ c.if-p-eq0.false (long_is _ _ _ c.value_length-n.ensures.0 _ true c.is_long.ensures c.if-is_long.true)

pub returns-then-lt : goal.returns-then-lt
unfolding column_tests
returns-then-lt c =
    let n = c.value_length-n.ensures.0 in
    value_no _ _ _ _ (long_is _ _ _ n _ false c.is_long.ensures c.if-is_long.false) _
    (value_yes _ _ _ _ c.if-p-eq0.false (blank_empty _ _ _ n _ c.if-n-eq0.true true (sym (need_less _ _) ∙ (sym c.lt.ensures ∙ c.if-lt.true))))

pub returns-then-n-eq0 : goal.returns-then-n-eq0
unfolding column_tests
returns-then-n-eq0 c =
    let n = c.value_length-n.ensures.0 in
    value_no _ _ _ _ (long_is _ _ _ n _ false c.is_long.ensures c.if-is_long.false) _
    (value_no _ _ _ _ (blank_empty _ _ _ n _ c.if-n-eq0.true false (sym (need_less _ _) ∙ (sym c.lt.ensures ∙ c.if-lt.false))) _
    (value_no _ _ _ _ (formless_empty _ _ _ n c.if-n-eq0.true) _ first_none))

pub returns-then-is_of_form : goal.returns-then-is_of_form
unfolding column_tests
returns-then-is_of_form c =
    let n = c.value_length-n.ensures.0 in
    let z = c.if-n-eq0.false in
    value_no _ _ _ _ (long_is _ _ _ n _ false c.is_long.ensures c.if-is_long.false) _
    (value_no _ _ _ _ (blank_full _ _ _ n _ z) _
    (value_no _ _ _ _ (formless_full _ _ _ n z _ true c.is_of_form.ensures c.if-is_of_form.true) _ first_none))

pub returns : goal.returns
unfolding column_tests
returns c =
    let n = c.value_length-n.ensures.0 in
    let z = c.if-n-eq0.false in
    value_no _ _ _ _ (long_is _ _ _ n _ false c.is_long.ensures c.if-is_long.false) _
    (value_no _ _ _ _ (blank_full _ _ _ n _ z) _
    (value_yes _ _ _ _ c.if-p-eq0.false (formless_full _ _ _ n z _ false c.is_of_form.ensures c.if-is_of_form.false)))
