-- `tusuchiy_c::tusuchiy_index_check` meets its contract.
use mathlib.Core.Path.{ap, ◌∙◌}
use mir.ValLaws.{to_z-of_z}
use mir.Syntax.{w32}
use Rattle.num.specs.Signs.{nat_of}
use Rattle.indexes.proofs.Bounds.{small_checked}
use Rattle.tusuchiy_c.proofs.Laws.{told_checked}
use Rattle.tusuchiy_c.proofs.tusuchiy_index_check.Goals as goal

pub told_index-requires : goal.told_index-requires
told_index-requires c = rw c.check_index.ensures (small_checked _ _ _)

pub returns : goal.returns
returns c =
    let is = c.nat.ensures.value ∙ ap nat_of (to_z-of_z w32 c.args.file_number c.ranges.file_number) in
    told_checked _ _ _ is _ _ c.check_index.ensures _ c.told_index.ensures
