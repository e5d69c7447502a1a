-- `reading::first_true` meets its contract.
use Rattle.reading.proofs.Wholes.{mark_here, mark_next, mark_none}
use mathlib.Core.Path.{refl}
use native.Mathlib.Omega.{arith}
use Rattle.reading.proofs.first_true.Goals as goal

pub loop-f-init : goal.loop-f-init
loop-f-init c = refl

pub returns-then-whole-k : goal.returns-then-whole-k
returns-then-whole-k c = mark_here c.args.k _ c.loop-f.f _ c.loop-f.invariant (omega arith) c.if-whole-k.true

pub loop-f-preserved : goal.loop-f-preserved
loop-f-preserved c = mark_next _ _ _ _ c.loop-f.invariant (omega arith) c.if-whole-k.false

pub returns : goal.returns
returns c = mark_none c.args.k _ c.loop-f.f _ c.loop-f.invariant (omega arith)
