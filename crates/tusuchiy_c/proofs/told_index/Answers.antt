-- `tusuchiy_c::told_index` meets its contract.
use native.Mathlib.Omega.{arith}
use Rattle.indexes.specs.Index.{index_numbers}
use Rattle.tusuchiy_c.proofs.told_index.Goals as goal

pub bare-requires : goal.bare-requires
bare-requires c = (omega arith, rw c.in-Ok.is at c.requires)

pub told_refusal-requires : goal.told_refusal-requires
told_refusal-requires c = rw c.in-Err.is at c.requires

pub returns-in-Ok : goal.returns-in-Ok
unfolding index_numbers
returns-in-Ok c = rw c.in-Ok.is (record { number = c.bare.ensures.0; file = c.bare.ensures.1; line = c.bare.ensures.2; column = c.bare.ensures.3; length = c.bare.ensures.4 })

pub returns-in-Err : goal.returns-in-Err
returns-in-Err c = rw c.in-Err.is c.told_refusal.ensures
