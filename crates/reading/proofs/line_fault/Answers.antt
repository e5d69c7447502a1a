-- `reading::line_fault` meets its contract.
use Rattle.reading.proofs.First.{first_yes, first_no, first_stop, first_then}
use Rattle.reading.proofs.Values.{other_yes, other_no}
use Rattle.columns.proofs.Laws.{noted_by}
use Rattle.meaning.specs.Refusals.{text_tests, line_tests}
use mathlib.Core.Path.{refl}
use Rattle.reading.proofs.line_fault.Goals as goal

pub returns-in-Some : goal.returns-in-Some
unfolding line_tests
returns-in-Some c = first_stop (text_tests _) _ _ c.in-Some.ensures.result_value

pub returns-then-m-c : goal.returns-then-m-c
unfolding line_tests
returns-then-m-c c =
    first_then (text_tests _) _ _ c.in_default.ensures.result_value
    (first_yes _ _ _ (other_yes _ _ (c.in_default.ensures.fields_value refl) _ c.if-m-c.true))

pub row_fault-requires : goal.row_fault-requires
row_fault-requires c = (c.walk_fields-m.ensures.good_value.1, noted_by _ _ _ c.blank_starts-starts.ensures c.walk_fields-m.ensures.starts_after)

pub returns : goal.returns
unfolding line_tests
returns c =
    first_then (text_tests _) _ _ c.in_default.ensures.result_value
    (first_no _ _ _ (other_no _ _ (c.in_default.ensures.fields_value refl) _ c.if-m-c.false) _ c.row_fault.ensures)
