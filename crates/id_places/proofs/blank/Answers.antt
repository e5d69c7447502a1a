-- `id_places::blank` meets its contract.
use Rattle.id_places.proofs.Zeros.{zeros}
use Rattle.id_places.proofs.blank.Goals as goal

pub returns : goal.returns
returns g c = zeros g.row.N
