-- `marks::blank` meets its contract.
use Rattle.marks.proofs.Bits.{blank_zeros}
use Rattle.marks.proofs.blank.Goals as goal

pub returns : goal.returns
returns g c = blank_zeros g.row.N
