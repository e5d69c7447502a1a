-- `columns::note_field` meets its contract.
use Rattle.columns.proofs.Laws.{note_yes, note_no}
use Rattle.columns.specs.Columns.{noted}
use mathlib.Core.Path.{◌≡◌, refl}
use native.Mathlib.Omega.{arith}
use Rattle.columns.proofs.note_field.Goals as goal
use Rattle.columns.proofs.note_field.Goals.{then-p-j, else-p-j}

pub loop-k-init : goal.loop-k-init
unfolding noted
loop-k-init c = refl

pub loop-k-preserved : goal.loop-k-preserved
loop-k-preserved c =
    elim c.if-p-j.branch [
      | then-p-j w ↦ rw w.cells-is (note_yes _ _ _ _ (omega arith) _ _ c.loop-k.invariant w.if-p-j.true)
      | else-p-j w ↦ rw w.cells-is (note_no _ _ _ _ (omega arith) _ _ c.loop-k.invariant w.if-p-j.false)
    ]

pub returns : goal.returns
returns c =
    let e : c.loop-k.k ≡ 10 = omega arith in
    rw (← e) c.loop-k.invariant
