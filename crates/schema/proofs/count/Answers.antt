-- `schema::count` meets its contract.
use Rattle.schema.proofs.Laws.{count_told, count_le}
use Rattle.meaning.specs.Columns.{count_of}
use mathlib.Core.Path.{◌≡◌}
use native.Mathlib.Omega.{arith}
use lib.ListN.{length}
use Rattle.schema.proofs.count.Goals as goal

pub returns : goal.returns
returns c =
    let e : length c.columns_of.result.now ≡ count_of c.args.f = count_told _ _ c.columns_of.ensures in
    (e, omega (arith, count_le c.args.f))
