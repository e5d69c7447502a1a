-- `rows::StopTimes::put_waiting` meets its contract.
use mathlib.Core.Path.{◌∙◌}
use mir.Syntax.{w32}
use mir.ValLaws.{to_z-of_z, to_z_pos}
use Rattle.num.proofs.Laws.{kept_is}
use Rattle.rows.proofs.StopTimes.put_waiting.Goals as goal

pub returns : goal.returns
returns c m l e =
    let small = c.requires.trip_bound in
    let mark = c.mark_of.ensures.0 m l (to_z-of_z w32 _ c.ranges.timepoint ∙ e) in
    c.store.ensures
    ∙ simp (
      c.place.ensures,
      to_z_pos w32 _ small.0,
      kept_is _ _ c.packed.type_inv c.packed.ensures,
      mark,
      to_z_pos w32 _ small.1.1.0,
      to_z-of_z w32 _ c.ranges.arrival,
      to_z-of_z w32 _ c.ranges.departure,
      to_z_pos w32 _ small.1.1.1.1.1.0,
      to_z_pos w32 _ small.1.1.1.1.1.1,
    )
