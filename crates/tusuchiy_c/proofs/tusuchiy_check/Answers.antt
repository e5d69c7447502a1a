-- `tusuchiy_c::tusuchiy_check` meets its contract.
use mathlib.Core.Path.{ap, ◌∙◌}
use mir.ValLaws.{to_z-of_z}
use mir.Syntax.{w32}
use Rattle.std.proofs.Common.{rules}
use Rattle.tusuchiy_c.specs.Asked.{profile_of}
use Rattle.tusuchiy_c.proofs.Laws.{told_check}
use Rattle.tusuchiy_c.proofs.tusuchiy_check.Goals as goal

pub returns : goal.returns
returns c =
    let k = c.check.ensures.asked_value in
    let is = simp (to_z-of_z w32 c.args.after_file c.ranges.after_file, to_z-of_z w32 c.args.after_line c.ranges.after_line, to_z-of_z w32 c.args.after_rule c.ranges.after_rule) at c.place_of-from.ensures in
    let same = c.profile_of-asked.ensures ∙ ap profile_of (to_z-of_z w32 c.args.profile c.ranges.profile) in
    told_check _ _ _ _ _ _ _ _ is same k _ c.told.ensures _ (search rules)
