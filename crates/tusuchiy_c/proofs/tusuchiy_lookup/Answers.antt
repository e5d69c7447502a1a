-- `tusuchiy_c::tusuchiy_lookup` meets its contract.
use Rattle.tusuchiy_c.proofs.tusuchiy_lookup.Goals as goal

pub returns : goal.returns
returns c = rw (← c.look_up.ensures) c.told_lookup.ensures
