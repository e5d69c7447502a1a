-- `text::count_block` meets its contract.
use Rattle.text.proofs.Chains.{lf_byte}
use Rattle.text.proofs.Lines.{count_lf_most, count_lf_next, count_lf_over}
use native.Mathlib.Omega.{arith}
use Rattle.text.proofs.count_block.Goals as goal

pub overflow_add-n : goal.overflow_add-n
overflow_add-n c =
    let v = c.loop-b.invariant in
    let z = count_lf_next _ _ c.loop-b-test.true _ _ _ (lf_byte _ _ c.from-n.ensures) v.2 in
    omega (arith, count_lf_most c.args.s.now)

pub loop-b-preserved : goal.loop-b-preserved
loop-b-preserved c =
    let m = c.loop-b-test.true in
    let v = c.loop-b.invariant in
    (omega arith, v.1, count_lf_next _ _ m _ _ _ (lf_byte _ _ c.from-n.ensures) v.2)

pub returns : goal.returns
returns c = count_lf_over _ _ _ _ c.loop-b-test.false c.loop-b.invariant.2
