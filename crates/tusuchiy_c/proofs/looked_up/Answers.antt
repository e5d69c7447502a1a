-- `tusuchiy_c::looked_up` meets its contract.
use native.Mathlib.Omega.{arith}
use mir.ValLaws.{to_z_pos}
use mir.Syntax.{w32}
use Rattle.tusuchiy_c.proofs.looked_up.Goals as goal

pub returns : goal.returns
returns c = (to_z_pos w32 _ (omega arith), to_z_pos w32 _ (omega arith))
