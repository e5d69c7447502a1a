-- `rows::cells::settle` meets its contract.
use mir.Syntax.{w32}
use mir.ValLaws.{to_z_pos}
use Rattle.rows.proofs.cells.settle.Goals as goal

pub returns : goal.returns
returns c = simp (to_z_pos w32 _ c.requires.1.1)
