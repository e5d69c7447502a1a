-- `rows::cells::waiting_of` meets its contract.
use Prim.Native.Nat.{◌*◌, ◌+◌}
use mathlib.Core.Path.{◌≡◌}
use native.Mathlib.Omega.{arith}
use Rattle.rows.proofs.cells.waiting_of.Goals as goal

pub returns : goal.returns
returns c =
    let at = c.args.row * c.args.width in
    let e : at + 4 ≡ at + 3 + 1 = omega arith in
    rw (c.nat_of-start.ensures, c.nat_of-end.ensures, e)
