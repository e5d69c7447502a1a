-- `text::asked_from` meets its contract.
use Rattle.text.proofs.Spans.{asked_bare, asked_closed, asked_else}
use native.Mathlib.Omega.{arith}
use Rattle.text.proofs.asked_from.Goals as goal

pub returns-then-q-eq-BARE : goal.returns-then-q-eq-BARE
returns-then-q-eq-BARE c = rw (← asked_bare _ _ c.if-q-eq-BARE.true) c.break_from.ensures

pub returns-then-q-eq-CLOSED : goal.returns-then-q-eq-CLOSED
returns-then-q-eq-CLOSED c = rw (← asked_closed _ _ c.if-q-eq-CLOSED.true) (omega arith, omega arith)

pub returns : goal.returns
returns c = rw (← asked_else _ _ c.if-q-eq-BARE.false c.if-q-eq-CLOSED.false) c.mark_from.ensures
