-- Files that `tusuchiy::checked_from` is yet to look at fall.
use Prim.Native.Nat.{◌-◌}
use Rattle.tusuchiy.proofs.+checked_from.Given as goal

abbrev pub decreases-checked_from : goal.decreases-checked_from
decreases-checked_from l = 6 - l.i
