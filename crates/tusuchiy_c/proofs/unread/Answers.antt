-- `tusuchiy_c::unread` meets its contract.
use mathlib.Core.Path.{refl}
use native.Mathlib.Omega.{arith}
use mir.ValLaws.{to_z_pos}
use mir.Syntax.{w32}
use Rattle.indexes.specs.Index.{index_numbers}
use Rattle.tusuchiy_c.proofs.unread.Goals as goal

pub returns : goal.returns
unfolding index_numbers
returns c = record { number = to_z_pos w32 _ (omega arith); file = to_z_pos w32 _ (omega arith); line = to_z_pos w32 _ (omega arith); column = to_z_pos w32 _ (omega arith); length = refl }
