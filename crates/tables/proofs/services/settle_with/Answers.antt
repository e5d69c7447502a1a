-- `tables::services::settle_with` meets its contract.
use Rattle.ordering.proofs.Laws.{kept_self, row_fits}
use Rattle.records.proofs.Readings.{referred}
use Rattle.tables.proofs.Settling.{named_start, settle_kept, settle_turn, named_end}
use mathlib.Core.Path.{refl}
use Prim.Native.Nat.{◌≤◌, ◌+◌, ◌*◌}
use native.Mathlib.Omega.{arith}
use lib.ListN.{length}
use Rattle.tables.proofs.services.settle_with.Goals as goal

pub loop-r-init : goal.loop-r-init
loop-r-init c = record {
  kept = kept_self _ _ _;
  ready = c.requires.ready;
  named = λ ids l. named_start _ _ ids _ _;
}

pub named_by-dated-requires : goal.named_by-dated-requires
named_by-dated-requires c = c.loop-r.invariant.ready

pub settle-requires : goal.settle-requires
settle-requires c =
    let s = c.requires.n_in_bounds in
    let below : c.loop-r.r ≤ c.args.n = omega (arith, c.loop-r-test.true) in
    let row = row_fits c.loop-r.r _ 8 _ below s.0 in
    (omega (arith, row, c.loop-r.invariant.kept.size, c.new-row.ensures), omega (arith, c.named_by-dated.ensures.upper_bound, s.1.1))

pub loop-r-preserved : goal.loop-r-preserved
loop-r-preserved c =
    let below : c.loop-r.r ≤ c.args.n = omega (arith, c.loop-r-test.true) in
    let above = c.loop-r.auto.r in
    let kept = c.loop-r.invariant.kept in
    let row : (c.loop-r.r + 1) * 8 ≤ length c.loop-r.t = rw kept.size (row_fits c.loop-r.r _ 8 _ below c.requires.n_in_bounds.0) in record {
      kept = settle_kept 8 _ _ (omega arith) above below _ _ _ (rw c.new-row.ensures at c.settle.ensures) _ kept;
      ready = c.named_by-dated.ensures.ready;
      named = λ ids lists.
          settle_turn 8 _ _ (omega arith) above below _ _ _ (rw c.new-row.ensures at c.settle.ensures) _ ids _ kept row (c.loop-r.invariant.named ids lists)
          (referred _ _ 4 _ ids _ _ _ lists (rw c.new-row.ensures at c.named_by-dated.ensures.first) refl);
    }

pub returns : goal.returns
returns c = record {
  kept_at = c.loop-r.invariant.kept;
  by_index = λ ids lists. named_end 8 _ _ c.loop-r.r ids _ _ (omega (arith, c.loop-r-test.false)) (omega (arith, c.loop-r.auto.r-end)) (c.loop-r.invariant.named ids lists);
}
