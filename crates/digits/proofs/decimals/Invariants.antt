-- What the loop of `digits::decimals` keeps.
use Rattle.digits.proofs.Laws.{keeping}
use Rattle.digits.specs.Decimals.{decimals_of}
use Rattle.std.proofs.Common.{◌≡◌, ◌+◌, ◌*◌, ◌<◌, ◌≤◌, drop}
use Rattle.digits.proofs.decimals.Given as goal

abbrev pub invariant-loop-b : goal.invariant-loop-b
invariant-loop-b l = (l.n + 10 * l.unit ≤ 10000000) × (l.n < 10000000) × (keeping l.unit l.n l.some (drop l.b-index l.v) ≡ decimals_of l.v)
