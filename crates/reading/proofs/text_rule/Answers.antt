-- `reading::text_rule` meets its contract.
use Rattle.reading.proofs.First.{first_yes, first_no, first_none, first_stop, first_then}
use Rattle.reading.proofs.Values.{bad_is, many_yes, many_no}
use Rattle.reading.specs.Tests.{byte_tests}
use Rattle.meaning.specs.Refusals.{text_tests}
use Rattle.text.proofs.Spans.{up_exact}
use mathlib.Core.Bool.{true, false}
use mathlib.Core.Path.{◌≡◌}
use Prim.Native.Nat.{ℕ}
use native.Mathlib.Omega.{arith}
use Rattle.reading.proofs.text_rule.Goals as goal

pub returns-in-Some-clause-result_value : goal.returns-in-Some-clause-result_value
unfolding text_tests byte_tests
returns-in-Some-clause-result_value c = first_stop (byte_tests _) _ _ c.in-Some.ensures

pub returns-then-not-m-clause-result_value : goal.returns-then-not-m-clause-result_value
unfolding text_tests byte_tests
returns-then-not-m-clause-result_value c =
    first_then (byte_tests _) _ _ c.in_default.ensures (first_yes _ _ _ (bad_is _ _ true c.requires.0 c.if-not-m.true))

pub returns-then-m-gt32 : goal.returns-then-m-gt32
unfolding text_tests byte_tests
returns-then-m-gt32 c =
    let p = c.requires in record {
      result_value = first_then (byte_tests _) _ _ c.in_default.ensures
          (first_no _ _ _ (bad_is _ _ false p.0 c.if-not-m.false) _
          (first_yes _ _ _ (many_yes _ _ p.1 c.if-m-gt32.true)));
      fields_value = λ z. let w : ◌≡◌ {A = ℕ} 0 1 = cc in absurd (omega arith);
    }

pub returns-clause-result_value : goal.returns-clause-result_value
unfolding text_tests byte_tests
returns-clause-result_value c =
    let p = c.requires in
    first_then (byte_tests _) _ _ c.in_default.ensures
    (first_no _ _ _ (bad_is _ _ false p.0 c.if-not-m.false) _
    (first_no _ _ _ (many_no _ _ p.1 c.if-m-gt32.false) _ first_none))

pub returns-clause-fields_value : goal.returns-clause-fields_value
returns-clause-fields_value c = λ z. up_exact _ _ c.requires.1 (omega (arith, c.if-m-gt32.false))
