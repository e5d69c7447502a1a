-- `index_write::write_up_to` meets its contract.
use native.Mathlib.Omega.{arith}
use Rattle.index_write.proofs.write_up_to.Goals as goal

pub blank-t-requires : goal.blank-t-requires
blank-t-requires g c = omega (arith, c.requires.2)

pub whole_as_slice-write_read : goal.whole_as_slice-write_read
whole_as_slice-write_read g c = omega (arith, c.requires.2)

pub write_read-requires : goal.write_read-requires
write_read-requires g c = (c.requires.0, omega (arith, c.requires.1))
