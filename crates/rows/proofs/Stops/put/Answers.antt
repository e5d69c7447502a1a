-- `rows::Stops::put` meets its contract.
use mathlib.Core.Path.{◌∙◌}
use mir.Syntax.{w32}
use mir.ValLaws.{to_z-of_z, to_z_pos}
use Rattle.num.proofs.Laws.{kept_is}
use Rattle.rows.proofs.Stops.put.Goals as goal

pub returns : goal.returns
returns c =
    let small = c.requires.start_bound in
    c.store.ensures
    ∙ simp (
      c.place.ensures,
      to_z_pos w32 _ small.0,
      to_z_pos w32 _ small.1.0,
      to_z-of_z w32 _ c.ranges.latitude,
      to_z-of_z w32 _ c.ranges.longitude,
      to_z_pos w32 _ small.1.1.0,
      kept_is _ _ c.number_of.type_inv c.number_of.ensures,
      to_z_pos w32 _ small.1.1.1,
    )
