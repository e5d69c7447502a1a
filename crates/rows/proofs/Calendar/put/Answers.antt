-- `rows::Calendar::put` meets its contract.
use mathlib.Core.Path.{◌∙◌}
use mir.Syntax.{w32}
use mir.ValLaws.{to_z_pos}
use Rattle.rows.proofs.Calendar.put.Goals as goal

pub returns : goal.returns
returns c =
    let small = c.requires.start_bound in
    c.store.ensures
    ∙ simp (
      c.place.ensures,
      to_z_pos w32 _ small.0,
      to_z_pos w32 _ small.1.0,
      to_z_pos w32 _ small.1.1.0,
      to_z_pos w32 _ small.1.1.1.0,
      to_z_pos w32 _ small.1.1.1.1,
    )
