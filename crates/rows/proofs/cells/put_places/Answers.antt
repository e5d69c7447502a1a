-- `rows::cells::put_places` meets its contract.
use mathlib.Core.Path.{sym, ◌∙◌}
use lib.Seq.{length-take-le}
use mir.Syntax.{w32}
use mir.ValLaws.{to_z_pos}
use Rattle.rows.proofs.Laws.{take_room}
use Rattle.rows.proofs.cells.put_places.Goals as goal

pub slice_bounds-store-end : goal.slice_bounds-store-end
slice_bounds-store-end c =
    sym (length-take-le c.args.width _ c.requires.width_bound.0)

pub store-requires : goal.store-requires
store-requires c =
    take_room _ _ _ _ c.requires.width_bound.0 c.requires.width_bound.1

pub returns : goal.returns
returns c =
    let small = c.requires.start_bound in
    c.store.ensures
    ∙ simp (
      to_z_pos w32 _ small.0,
      to_z_pos w32 _ small.1.0,
      to_z_pos w32 _ small.1.1.0,
      to_z_pos w32 _ small.1.1.1.0,
      to_z_pos w32 _ small.1.1.1.1,
    )
