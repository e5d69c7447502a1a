-- `tusuchiy_c::told_lookup` meets its contract.
use Rattle.lookups.specs.Lookup.{lookup_numbers}
use Rattle.tusuchiy_c.proofs.told_lookup.Goals as goal

pub returns-in-Ok : goal.returns-in-Ok
unfolding lookup_numbers
returns-in-Ok c = rw c.in-Ok.is c.told_record.ensures

pub returns-in-Err : goal.returns-in-Err
unfolding lookup_numbers
returns-in-Err c = rw c.in-Err.is (record { number = c.looked_up.ensures.0; row = c.looked_up.ensures.1 })
