-- `text::same_content` meets its contract.
use Rattle.text.proofs.Values.{same_turn, same_differ, same_longer, same_over}
use mathlib.Core.Path.{refl}
use native.Mathlib.Omega.{arith}
use Rattle.text.proofs.same_content.Goals as goal

pub loop-i-init : goal.loop-i-init
loop-i-init c = (omega arith, omega arith, refl)

pub returns-then-b-j : goal.returns-then-b-j
returns-then-b-j c = same_longer _ _ _ _ _ _ _ c.loop-i.invariant.2 c.loop-i-test.true c.if-b-j.true

pub returns-then-a-i : goal.returns-then-a-i
returns-then-a-i c =
    same_differ _ _ _ _ _ _ _ c.loop-i.invariant.2 c.loop-i-test.true c.if-b-j.false c.if-a-i.true

pub loop-i-preserved : goal.loop-i-preserved
loop-i-preserved c =
    let r = same_turn _ _ _ _ _ _ _ c.loop-i.invariant.2 c.loop-i-test.true c.if-b-j.false c.if-a-i.false in
    (omega arith, omega arith, rw (c.width-i.ensures.0, c.width-j.ensures.0) r)

pub returns : goal.returns
returns c = same_over _ _ _ c.args.b.now _ c.loop-i.j _ c.loop-i.invariant.2 c.loop-i-test.false
