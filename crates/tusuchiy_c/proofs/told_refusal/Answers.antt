-- `tusuchiy_c::told_refusal` meets its contract.
use native.Mathlib.Omega.{arith}
use Rattle.indexes.specs.Index.{index_numbers}
use Rattle.tusuchiy_c.proofs.told_refusal.Goals as goal

pub unread-requires : goal.unread-requires
unread-requires c = rw c.in-Unread.is at c.requires

pub bare-requires : goal.bare-requires
bare-requires c = (rw c.in-Barred.is at c.requires, omega arith)

pub returns-in-Unread : goal.returns-in-Unread
returns-in-Unread c = rw c.in-Unread.is c.unread.ensures

pub returns-in-Barred : goal.returns-in-Barred
unfolding index_numbers
returns-in-Barred c = rw c.in-Barred.is (record { number = c.bare.ensures.0; file = c.bare.ensures.1; line = c.bare.ensures.2; column = c.bare.ensures.3; length = c.bare.ensures.4 })
