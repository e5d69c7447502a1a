-- `text::run_end` meets its contract.
use Rattle.text.proofs.Runs.{run_ended, run_yes, run_no, run_over, run_end_within}
use Rattle.meaning.specs.Bytes.{quoting}
use mathlib.Core.Path.{refl, sym, ◌∙◌}
use native.Mathlib.Omega.{arith}
use borrow.Author.Rules.{rules}
use Rattle.text.proofs.run_end.Goals as goal

pub loop-i-init : goal.loop-i-init
loop-i-init c = (omega arith, omega arith, refl)

pub returns-then-ends_line : goal.returns-then-ends_line
returns-then-ends_line c =
    let e = run_ended _ _ c.loop-i-test.true _ _ c.loop-i.invariant.2 (sym c.ends_line.ensures ∙ c.if-ends_line.true) in record {
      value = (e, omega arith);
      upper_bound = λ h. run_end_within _ _ _ h e;
    }

pub next_state-q-requires : goal.next_state-q-requires
unfolding quoting
next_state-q-requires c = search rules

pub returns-then-q-eq-START : goal.returns-then-q-eq-START
returns-then-q-eq-START c =
    let e = run_yes _ _ c.loop-i-test.true _ _ c.loop-i.invariant.2 (sym c.ends_line.ensures ∙ c.if-ends_line.false) _ c.next_state-q.ensures.0 c.if-q-eq-START.true in record {
      value = (e, omega arith);
      upper_bound = λ h. run_end_within _ _ _ h e;
    }

pub loop-i-preserved : goal.loop-i-preserved
loop-i-preserved c =
    (omega arith, omega arith, run_no _ _ c.loop-i-test.true _ _ c.loop-i.invariant.2 (sym c.ends_line.ensures ∙ c.if-ends_line.false) _ c.next_state-q.ensures.0 c.if-q-eq-START.false)

pub returns : goal.returns
returns c =
    let e = run_over _ _ c.loop-i-test.false _ _ c.loop-i.invariant.2 in record {
      value = (e, omega arith);
      upper_bound = λ h. run_end_within _ _ _ h e;
    }
