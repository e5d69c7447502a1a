-- `rows::packed` meets its contract.
use Rattle.rows.specs.Waiting.{packed}
use native.Mathlib.Omega.{arith}
use mir.Syntax.{w32}
use mir.ValLaws.{to_z_pos}
use Rattle.rows.proofs.packed.Goals as goal

pub returns : goal.returns
unfolding packed
returns c = to_z_pos w32 _ (omega arith)
