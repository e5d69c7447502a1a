-- What the loop of `columns::note_field` keeps.
use Rattle.columns.specs.Columns.{noted}
use mathlib.Core.Path.{◌≡◌}
use Rattle.columns.proofs.note_field.Given as goal

abbrev pub invariant-loop-k : goal.invariant-loop-k
invariant-loop-k l = l.cells ≡ noted l.fn.at l.j l.field l.k l.fn.cells
