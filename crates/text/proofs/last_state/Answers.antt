-- `text::last_state` meets its contract.
use Rattle.text.proofs.Spans.{run_next, run_done}
use Rattle.meaning.specs.Bytes.{quoting}
use mathlib.Core.Path.{refl, ◌∙◌}
use native.Mathlib.Omega.{arith}
use Rattle.text.proofs.last_state.Goals as goal

pub loop-i-init : goal.loop-i-init
loop-i-init c = (omega arith, refl)

pub next_state-q-requires : goal.next_state-q-requires
unfolding quoting
next_state-q-requires c = (refl, c.loop-i.invariant.0)

pub loop-i-smaller-then-q-ne-CLOSED : goal.loop-i-smaller-then-q-ne-CLOSED
loop-i-smaller-then-q-ne-CLOSED c = omega (arith, c.past_unmarked-i.ensures.1)

pub loop-i-preserved-then-q-ne-CLOSED : goal.loop-i-preserved-then-q-ne-CLOSED
loop-i-preserved-then-q-ne-CLOSED c =
    let e = c.next_state-q.ensures in
    (e.1, c.past_unmarked-i.ensures.0 _ e.1 c.if-q-ne-CLOSED.true ∙ run_next _ _ c.loop-i-test.true _ _ _ e.0 c.loop-i.invariant.1)

pub loop-i-preserved : goal.loop-i-preserved
loop-i-preserved c =
    let e = c.next_state-q.ensures in
    (e.1, run_next _ _ c.loop-i-test.true _ _ _ e.0 c.loop-i.invariant.1)

pub returns : goal.returns
returns c = (run_done _ _ c.loop-i-test.false _ _ c.loop-i.invariant.1, c.loop-i.invariant.0)
