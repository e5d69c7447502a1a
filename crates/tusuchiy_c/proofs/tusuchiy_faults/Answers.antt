-- `tusuchiy_c::tusuchiy_faults` meets its contract.
use mir.ValLaws.{to_z-of_z}
use mir.Syntax.{w32}
use Rattle.tusuchiy_c.proofs.Laws.{told_faults}
use Rattle.tusuchiy_c.proofs.tusuchiy_faults.Goals as goal

pub returns : goal.returns
returns c =
    let is = simp (to_z-of_z w32 c.args.after_file c.ranges.after_file, to_z-of_z w32 c.args.after_line c.ranges.after_line, to_z-of_z w32 c.args.after_number c.ranges.after_number) at c.place_of-from.ensures in
    told_faults _ _ _ _ is _ c.faults.result c.faults.ensures.result_after _ c.told_faults.ensures.0 c.told_faults.ensures.1
