-- `rows::mark_of` meets its contract.
use Rattle.rows.proofs.Waiting.{mark_none, mark_some}
use Rattle.num.specs.Signs.{nat_of}
use mathlib.Core.Path.{◌∙◌, ap}
use mir.Syntax.{w32}
use mir.ValLaws.{to_z-of_z}
use native.Mathlib.Nat.{mod-lt}
use native.Mathlib.Omega.{arith}
use Rattle.rows.proofs.mark_of.Goals as goal

pub returns-then-timepoint-lt0 : goal.returns-then-timepoint-lt0
returns-then-timepoint-lt0 c =
    let e = to_z-of_z w32 c.args.timepoint c.ranges.timepoint in
    ((λ m l p. mark_none c.args.timepoint m (rw e at c.if-timepoint-lt0.true) p), omega arith)

pub returns : goal.returns
returns c =
    let e = to_z-of_z w32 c.args.timepoint c.ranges.timepoint in
    ((λ m l p. mark_some c.args.timepoint m _ (rw e at c.if-timepoint-lt0.false) (c.nat.ensures.value ∙ ap nat_of e) l p), mod-lt _ (omega arith))
