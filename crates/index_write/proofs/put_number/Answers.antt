-- `index_write::put_number` meets its contract.
use Rattle.indexes.proofs.Versions.{wide_of}
use Rattle.index_write.proofs.Bytes.{put_two, put_both}
use native.Mathlib.Omega.{arith}
use Rattle.index_write.proofs.put_number.Goals as goal

pub put_pair-requires : goal.put_pair-requires
put_pair-requires c = rw c.if-v-eq2.true at c.requires

pub returns-then-v-eq2 : goal.returns-then-v-eq2
returns-then-v-eq2 c =
    let p = rw c.if-v-eq2.true at c.requires in
    rw (c.if-v-eq2.true, c.put_pair.ensures) (put_two c.args.b.now c.args.at c.args.x p.0 p.1)

pub put_pair-requires-3 : goal.put_pair-requires-3
put_pair-requires-3 c =
    let p = rw ((wide_of c.args.v).2 c.if-v-eq2.false) at c.requires in
    (omega (arith, p.0, c.put_pair-2.auto), omega (arith, p.1))

pub returns : goal.returns
returns c =
    let four = (wide_of c.args.v).2 c.if-v-eq2.false in
    let p = rw four at c.requires in
    let first = c.put_pair-2.ensures in
    let second = c.put_pair-3.ensures in
    rw four (put_both _ _ _ _ _ p.0 p.1 first second)
