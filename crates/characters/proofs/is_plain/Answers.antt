-- `characters::is_plain` meets its contract.
use Rattle.characters.proofs.Laws.{plain_within, plain_past, plain_last}
use Prim.Native.Nat.{◌+◌}
use native.Mathlib.Omega.{arith}
use lib.ListN.{length}
use Rattle.characters.proofs.is_plain.Goals as goal

pub returns-then-not-all_plain : goal.returns-then-not-all_plain
returns-then-not-all_plain c =
    let i = c.loop-i.i in
    plain_within c.args.l.now i (i + 32) (omega arith) _ _ c.all_plain.ensures c.loop-i.invariant.1 c.if-not-all_plain.true-raw

pub loop-i-preserved : goal.loop-i-preserved
loop-i-preserved c =
    let i = c.loop-i.i in
    (omega arith, plain_past c.args.l.now i (i + 32) (omega arith) _ _ c.all_plain.ensures c.loop-i.invariant.1 c.if-not-all_plain.false-raw)

pub returns : goal.returns
returns c =
    let l = c.args.l.now in
    plain_last l c.loop-i.i (length l) c.loop-i.invariant.0 _ _ c.all_plain-2.ensures c.loop-i.invariant.1 (omega arith)
