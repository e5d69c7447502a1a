-- `tusuchiy_c::tusuchiy_index_write` meets its contract.
use mathlib.Core.Path.{ap, ◌∙◌}
use mir.ValLaws.{to_z-of_z}
use mir.Syntax.{w32}
use Rattle.num.specs.Signs.{nat_of}
use Rattle.indexes.proofs.Bounds.{small_wrote}
use Rattle.tusuchiy_c.proofs.Laws.{told_wrote, told_written}
use Rattle.tusuchiy_c.proofs.tusuchiy_index_write.Goals as goal

pub told_index-requires : goal.told_index-requires
told_index-requires c = rw c.write_index.ensures.value (small_wrote _ _ _)

pub returns : goal.returns
returns c =
    let is = c.nat.ensures.value ∙ ap nat_of (to_z-of_z w32 c.args.file_number c.ranges.file_number) in record {
      told_index = told_wrote _ _ _ is _ _ c.write_index.ensures.value _ c.told_index.ensures;
      buffer_after = told_written _ _ _ is _ _ c.write_index.ensures.b_after;
    }
