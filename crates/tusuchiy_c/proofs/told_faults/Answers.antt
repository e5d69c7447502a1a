-- `tusuchiy_c::told_faults` meets its contract.
use native.Mathlib.Omega.{arith}
use mir.ValLaws.{to_z_pos}
use mir.Syntax.{w32}
use Rattle.tusuchiy_c.proofs.told_faults.Goals as goal

pub returns : goal.returns
returns c =
    let q = c.requires in
    (to_z_pos w32 _ (omega (arith, q.0, q.1)), to_z_pos w32 _ (omega (arith, q.1)))
