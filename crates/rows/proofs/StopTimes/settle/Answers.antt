-- `rows::StopTimes::settle` meets its contract.
use mathlib.Core.Path.{◌∙◌, ap, ap₂}
use Prim.Native.Nat.{◌*◌}
use native.Mathlib.Omega.{arith}
use mir.Syntax.{w32}
use mir.ValLaws.{to_z_pos}
use Rattle.num.specs.Signs.{nat_of}
use Rattle.num.proofs.Laws.{kept_is}
use Rattle.rows.specs.Cells.{put_at}
use Rattle.rows.proofs.Waiting.{settled_as}
use Rattle.rows.proofs.StopTimes.settle.Goals as goal

pub returns : goal.returns
returns c =
    let s = c.args in
    c.store.ensures
    ∙ ap₂ (put_at s.t.now) c.place.ensures
    (settled_as s.t.now (s.row.0 * 8) c.nat-n.result _ _ _ _ _ _ _ _
    (c.nat-n.ensures.value ∙ ap nat_of (kept_is _ _ c.number_of.type_inv c.number_of.ensures))
    (kept_is _ _ c.number_of-2.type_inv c.number_of-2.ensures)
    (to_z_pos w32 _ (omega (arith, c.nat-n.ensures.upper_bound)))
    (kept_is _ _ c.number_of-3.type_inv c.number_of-3.ensures)
    (kept_is _ _ c.number_of-4.type_inv c.number_of-4.ensures)
    (kept_is _ _ c.number_of-5.type_inv c.number_of-5.ensures)
    (to_z_pos w32 _ (omega arith))
    (to_z_pos w32 _ (omega arith))
    (kept_is _ _ c.unmarked.type_inv c.unmarked.ensures))
