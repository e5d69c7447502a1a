-- What falls in the recursion of `lookup::Query::seek`.
use Prim.Native.Nat.{◌-◌}
use Rattle.lookup.proofs.Query.+seek.Given as goal

abbrev pub decreases-seek : goal.decreases-seek
decreases-seek l = l.high - l.low
