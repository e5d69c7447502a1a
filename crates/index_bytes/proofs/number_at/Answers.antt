-- `index_bytes::number_at` meets its contract.
use Rattle.indexes.proofs.Numbers.{four_at}
use Rattle.indexes.proofs.Versions.{wide_of}
use native.Mathlib.Omega.{arith}
use Rattle.index_bytes.proofs.number_at.Goals as goal

pub returns-then-v-eq2 : goal.returns-then-v-eq2
returns-then-v-eq2 c = rw c.if-v-eq2.true (c.pair_at-low.ensures.0, omega (arith, c.pair_at-low.ensures.1))

pub pair_at-high-requires : goal.pair_at-high-requires
pair_at-high-requires c = omega (arith, (wide_of c.args.v).2 c.if-v-eq2.false, c.requires)

pub returns : goal.returns
returns c =
    let l = c.pair_at-low.ensures in
    let h = c.pair_at-high.ensures in
    rw ((wide_of c.args.v).2 c.if-v-eq2.false, ← four_at c.args.b.now c.args.at, ← l.0, ← h.0) (omega (arith, l.1, h.1))
