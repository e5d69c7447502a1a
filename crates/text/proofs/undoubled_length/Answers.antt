-- `text::undoubled_length` meets its contract.
use Rattle.text.proofs.Values.{length_turn, length_over}
use native.Mathlib.Omega.{arith}
use Rattle.text.proofs.undoubled_length.Goals as goal

pub loop-i-init : goal.loop-i-init
loop-i-init c = (omega arith, omega arith, omega arith)

pub loop-i-preserved : goal.loop-i-preserved
loop-i-preserved c =
    (omega arith, omega arith, length_turn _ _ _ _ _ c.loop-i.invariant.2 c.loop-i-test.true _ c.width-i.ensures.0)

pub returns : goal.returns
returns c = length_over _ _ _ _ _ c.loop-i.invariant.2 c.loop-i-test.false
