-- `rows::cells::bounds_of` meets its contract.
use native.Mathlib.Nat.{add-zero}
use Rattle.rows.proofs.cells.bounds_of.Goals as goal

pub returns : goal.returns
returns c = rw (c.nat_of-start.ensures, c.nat_of-end.ensures, add-zero)
