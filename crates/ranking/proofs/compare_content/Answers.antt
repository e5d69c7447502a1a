-- `ranking::compare_content` meets its contract.
use Rattle.ranking.proofs.Laws.{turn, turn_differ, turn_longer, turn_shorter, turn_over}
use mathlib.Core.Path.{refl, ◌∙◌}
use native.Mathlib.Omega.{arith}
use Rattle.ranking.proofs.compare_content.Goals as goal

pub loop-i-init : goal.loop-i-init
loop-i-init c = (omega arith, omega arith, refl)

pub returns-then-b-j : goal.returns-then-b-j
returns-then-b-j c = turn_longer _ _ _ _ _ _ _ c.loop-i.invariant.2 c.loop-i-test.true c.if-b-j.true

pub returns-then-a-i : goal.returns-then-a-i
returns-then-a-i c =
    c.cmp.ensures ∙ turn_differ _ _ _ _ _ _ _ c.loop-i.invariant.2 _ _ c.loop-i-test.true c.if-b-j.false refl refl c.if-a-i.true

pub loop-i-preserved : goal.loop-i-preserved
loop-i-preserved c =
    let r = turn _ _ _ _ _ _ _ c.loop-i.invariant.2 _ _ c.loop-i-test.true c.if-b-j.false refl refl c.if-a-i.false in
    (omega arith, omega arith, rw (c.width-i.ensures.0, c.width-j.ensures.0) r)

pub returns-then-j-b : goal.returns-then-j-b
returns-then-j-b c = turn_shorter _ _ _ _ _ _ _ c.loop-i.invariant.2 c.loop-i-test.false c.if-j-b.true

pub returns : goal.returns
returns c = turn_over _ _ _ _ _ _ _ c.loop-i.invariant.2 c.loop-i-test.false c.if-j-b.false
