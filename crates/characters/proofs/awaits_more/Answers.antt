-- `characters::awaits_more` meets its contract.
use Rattle.characters.proofs.Laws.{started, passed, turned, ended}
use Rattle.characters.specs.States.{next_states, class_letters}
use mathlib.Core.Path.{refl}
use native.Mathlib.Omega.{arith}
use Rattle.characters.proofs.awaits_more.Goals as goal

pub loop-i-init : goal.loop-i-init
loop-i-init c = (omega arith, started _)

pub next_state-q-requires : goal.next_state-q-requires
unfolding next_states class_letters
next_state-q-requires c = (refl, refl, c.loop-i.invariant.0)

pub loop-i-preserved-then-q-eq-START : goal.loop-i-preserved-then-q-eq-START
loop-i-preserved-then-q-eq-START c =
    (c.next_state-q.ensures.1, passed _ _ _ _ _ c.if-q-eq-START.true c.ascii_end-i.ensures.0 (turned _ _ _ _ _ c.loop-i-test.true c.next_state-q.ensures.0 c.loop-i.invariant.1))

pub loop-i-preserved : goal.loop-i-preserved
loop-i-preserved c =
    (c.next_state-q.ensures.1, turned _ _ _ _ _ c.loop-i-test.true c.next_state-q.ensures.0 c.loop-i.invariant.1)

pub returns : goal.returns
returns c = ended _ _ _ _ c.loop-i.invariant.0 c.loop-i-test.false c.loop-i.invariant.1
