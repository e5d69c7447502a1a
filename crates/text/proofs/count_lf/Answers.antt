-- `text::count_lf` meets its contract.
use Rattle.text.proofs.Lines.{count_lf_most, block_short, count_lf_block, count_lf_over}
use Prim.Native.Nat.{◌+◌}
use native.Mathlib.Omega.{arith}
use lib.ListN.{length}
use Rattle.text.proofs.count_lf.Goals as goal

pub count_block-requires : goal.count_block-requires
count_block-requires c = let i = c.loop-i.i in block_short _ i (i + 224) _ (omega arith)

pub overflow_add-n : goal.overflow_add-n
overflow_add-n c = omega (arith, count_lf_most c.args.s.now)

pub loop-i-preserved : goal.loop-i-preserved
loop-i-preserved c =
    let i = c.loop-i.i in
    (omega arith, count_lf_block _ i (i + 224) _ _ _ (omega arith) c.count_block.ensures c.loop-i.invariant.1)

pub count_block-requires-2 : goal.count_block-requires-2
count_block-requires-2 c =
    let s = c.args.s.now in
    block_short s c.loop-i.i (length s) _ (omega arith)

pub overflow_add-result : goal.overflow_add-result
overflow_add-result c = omega (arith, count_lf_most c.args.s.now)

pub returns : goal.returns
returns c =
    let s = c.args.s.now in
    let v = c.loop-i.invariant in
    let z = count_lf_block _ _ _ _ _ _ v.0 c.count_block-2.ensures v.1 in
    let e = count_lf_over s (length s) _ _ (omega arith) z in
    (e, omega (arith, count_lf_most s))
