-- `tusuchiy_c::bare` meets its contract.
use mathlib.Core.Path.{refl}
use native.Mathlib.Omega.{arith}
use mir.ValLaws.{to_z_pos}
use mir.Syntax.{w32}
use Rattle.tusuchiy_c.proofs.bare.Goals as goal

pub returns : goal.returns
returns c = (to_z_pos w32 _ (omega arith), refl, refl, refl, to_z_pos w32 _ (omega arith))
