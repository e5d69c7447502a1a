-- `text::has_mark` meets its contract.
use Rattle.text.proofs.Lines.{any_turn, any_over}
use Rattle.text.specs.Fields.{is_mark}
use mathlib.Core.Path.{refl}
use native.Mathlib.Omega.{arith}
use Rattle.text.proofs.has_mark.Goals as goal

pub loop-b-init : goal.loop-b-init
loop-b-init c = (omega arith, refl)

pub loop-b-preserved : goal.loop-b-preserved
loop-b-preserved c =
    (omega arith, any_turn is_mark _ _ c.loop-b-test.true c.loop-b.some _ _ c.either-some.ensures c.loop-b.invariant.1)

pub returns : goal.returns
returns c = any_over is_mark _ _ c.loop-b-test.false c.loop-b.some _ c.loop-b.invariant.1
