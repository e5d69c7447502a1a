-- `judging::filled_up` meets its contract.
use Rattle.std.proofs.Common.{◌≡◌, ap, length, List, ◌++◌, Bool, false}
use Rattle.std.proofs.lemmas.List.{drop-replicate}
use native.Mathlib.Omega.{arith}
use Rattle.judging.specs.Judging.{filled_up}
use Rattle.judging.proofs.filled_up.Goals as goal

pub returns : goal.returns
unfolding filled_up
returns g c =
    let n : length c.args.broken ≡ g.row.N = omega arith in
    rw (c.copy_from_slice.ensures.after, n) (ap (λ (l : List Bool). c.args.broken ++ l) (drop-replicate g.row.N 9 false))
