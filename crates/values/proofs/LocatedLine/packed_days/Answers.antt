-- `values::LocatedLine::packed_days` meets its contract.
use Rattle.values.proofs.Readings.{pack_turn, bits_turn, bits_few, pack_first, pack_last}
use Rattle.std.proofs.Common.{◌<◌, ◌≤◌, ◌-◌, refl, arith}
use Rattle.values.proofs.LocatedLine.packed_days.Goals as goal

pub loop-d-init : goal.loop-d-init
loop-d-init c = (omega arith, (omega arith, λ ps loc. pack_first ps _ 7 refl))

pub overflow_mul-n : goal.overflow_mul-n
overflow_mul-n c = omega (arith, bits_few c.loop-d.n (c.loop-d.d - 1) c.loop-d.invariant.1.0)

pub overflow_add-n : goal.overflow_add-n
overflow_add-n c = omega (arith, bits_few c.loop-d.n (c.loop-d.d - 1) c.loop-d.invariant.1.0)

pub loop-d-preserved : goal.loop-d-preserved
loop-d-preserved c =
    let d = c.loop-d.d - 1 in
    let a = c.args.self.now in
    let some : 0 < d = omega arith in
    let week : d ≤ 7 = omega (arith, c.loop-d.auto.d) in
    (omega arith, (bits_turn _ _ d some week c.mark.ensures.1 c.loop-d.invariant.1.0, λ ps loc. pack_turn _ _ d some week a.line.now ps a.cells loc c.mark.ensures.0 (c.loop-d.invariant.1.1 ps loc)))

pub returns : goal.returns
returns c =
    (λ ps loc. pack_last ps _ _ (c.loop-d.d - 1) (omega arith) (c.loop-d.invariant.1.1 ps loc), omega (arith, bits_few c.loop-d.n (c.loop-d.d - 1) c.loop-d.invariant.1.0))
