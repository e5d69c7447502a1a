-- `text::has_stray` meets its contract.
use Rattle.text.proofs.Fields.{stray_within, stray_past, stray_last}
use Prim.Native.Nat.{◌+◌}
use native.Mathlib.Omega.{arith}
use lib.ListN.{length}
use Rattle.text.proofs.has_stray.Goals as goal

pub returns-then-has_tab_or_cr : goal.returns-then-has_tab_or_cr
returns-then-has_tab_or_cr c =
    let i = c.loop-i.i in
    stray_within c.args.l.now i (i + 256) (omega arith) _ _ c.has_tab_or_cr.ensures c.loop-i.invariant.1 c.if-has_tab_or_cr.true

pub loop-i-preserved : goal.loop-i-preserved
loop-i-preserved c =
    let i = c.loop-i.i in
    (omega arith, stray_past c.args.l.now i (i + 256) (omega arith) _ _ c.has_tab_or_cr.ensures c.loop-i.invariant.1 c.if-has_tab_or_cr.false)

pub returns : goal.returns
returns c =
    let l = c.args.l.now in
    stray_last l c.loop-i.i (length l) c.loop-i.invariant.0 _ _ c.has_tab_or_cr-2.ensures c.loop-i.invariant.1 (omega arith)
