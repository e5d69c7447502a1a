-- `text::near_lf` meets its contract.
use Rattle.text.proofs.Lines.{to_lf_block}
use mathlib.Core.Path.{refl, sym, ◌∙◌}
use Rattle.text.proofs.Chains.{any_listed}
use Rattle.text.specs.Lines.{is_lf}
use Prim.Native.Nat.{◌+◌}
use native.Mathlib.Omega.{arith}
use Rattle.text.proofs.near_lf.Goals as goal

pub loop-i-init : goal.loop-i-init
loop-i-init c = (omega arith, refl)

pub returns-then-s-i-lt8 : goal.returns-then-s-i-lt8
returns-then-s-i-lt8 c = (c.loop-i.invariant.1, omega arith)

pub returns-then-contains : goal.returns-then-contains
returns-then-contains c = (c.loop-i.invariant.1, omega arith)

pub loop-i-preserved : goal.loop-i-preserved
loop-i-preserved c =
    (omega arith, to_lf_block _ c.loop-i.i (c.loop-i.i + 8) _ _ (omega arith) (omega arith) (c.contains.ensures.value ∙ sym (any_listed is_lf _)) c.if-contains.false c.loop-i.invariant.1)

pub returns : goal.returns
returns c = (c.loop-i.invariant.1, omega arith)
