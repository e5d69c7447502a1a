-- `index_check::Beside::falls_up_to` meets its contract.
use native.Mathlib.Omega.{arith}
use Rattle.index_check.proofs.Beside.falls_up_to.Goals as goal

pub blank-t-requires : goal.blank-t-requires
blank-t-requires g c = omega (arith, c.requires.room.1)

pub whole_as_slice-falls_with : goal.whole_as_slice-falls_with
whole_as_slice-falls_with g c = omega (arith, c.requires.room.1)

pub falls_with-requires : goal.falls_with-requires
falls_with-requires g c = record {
  room = omega (arith, c.requires.room.0, c.args.self.now.count);
  entries = c.requires.entries;
}
