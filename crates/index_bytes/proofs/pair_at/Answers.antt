-- `index_bytes::pair_at` meets its contract.
use native.Mathlib.Omega.{arith}
use Rattle.indexes.specs.Index.{number_at}
use Rattle.index_bytes.proofs.pair_at.Goals as goal

pub returns : goal.returns
unfolding number_at
returns c = omega arith
