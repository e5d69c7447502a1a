-- `index_write::write_alone` meets its contract.
use Rattle.id_places.proofs.Own.{sized}
use native.Mathlib.Omega.{arith}
use Rattle.index_write.proofs.write_alone.Goals as goal

pub write_up_to-requires-2 : goal.write_up_to-requires-2
write_up_to-requires-2 c = (c.requires.0, omega (arith, (sized _ _ c.requires.0).few), omega arith)
