-- `index_bytes::length_of` meets its contract.
use mathlib.Core.Path.{refl}
use native.Mathlib.Omega.{arith}
use Rattle.indexes.specs.Index.{index_length}
use Rattle.indexes.proofs.Versions.{wide_of, few_bytes}
use Rattle.index_bytes.proofs.length_of.Goals as goal

pub overflow_mul-result : goal.overflow_mul-result
overflow_mul-result c = omega (arith, few_bytes c.args.v c.args.n c.requires, (wide_of c.args.v).1)

pub overflow_add-result-2 : goal.overflow_add-result-2
overflow_add-result-2 c = omega (arith, few_bytes c.args.v c.args.n c.requires, (wide_of c.args.v).1)

pub returns : goal.returns
unfolding index_length
returns c = (refl, omega (arith, few_bytes c.args.v c.args.n c.requires, (wide_of c.args.v).1))
