-- `tables::parents::settle_with` meets its contract.
use Rattle.records.proofs.Readings.{referred}
use Rattle.tables.proofs.Settling.{lists_as, kept_three, named_start, settle_kept, settle_ready, settle_turn, named_end}
use Rattle.ordering.proofs.Laws.{kept_self, room_row}
use mathlib.Core.Path.{refl}
use Prim.Native.Nat.{◌≤◌}
use native.Mathlib.Omega.{arith}
use Rattle.tables.proofs.parents.settle_with.Goals as goal

pub loop-r-init : goal.loop-r-init
loop-r-init c = record {
  kept = kept_self _ _ _;
  ready = c.requires.0;
  named = λ ids l. named_start _ _ ids _ _;
}

pub named_by-parent-requires : goal.named_by-parent-requires
named_by-parent-requires c = c.loop-r.invariant.ready

pub settle-requires : goal.settle-requires
settle-requires c =
    let below : c.loop-r.r ≤ c.args.n = omega (arith, c.loop-r-test.true) in
    let row = room_row c.loop-r.invariant.ready.arranged.room c.loop-r.r below in
    (omega (arith, row, c.new-row.ensures), omega (arith, c.named_by-parent.ensures.upper_bound, c.requires.1))

pub loop-r-preserved : goal.loop-r-preserved
loop-r-preserved c =
    let below : c.loop-r.r ≤ c.args.n = omega (arith, c.loop-r-test.true) in
    let above = c.loop-r.auto.r in
    let kept = c.loop-r.invariant.kept in
    let row = room_row c.loop-r.invariant.ready.arranged.room c.loop-r.r below in record {
      kept = settle_kept 7 _ _ (omega arith) above below _ _ _ (rw c.new-row.ensures at c.settle.ensures) _ kept;
      ready = settle_ready 7 _ _ (omega arith) above below c.loop-r.t _ _ (rw c.new-row.ensures at c.settle.ensures) _ _ c.named_by-parent.ensures.ready;
      named = λ ids lists.
          settle_turn 7 _ _ (omega arith) above below _ _ _ (rw c.new-row.ensures at c.settle.ensures) _ ids _ kept row (c.loop-r.invariant.named ids lists)
          (referred _ c.loop-r.t 7 _ ids _ _ _ (lists_as _ 7 _ _ c.loop-r.t ids kept.size (kept_three 7 _ _ c.loop-r.t (omega arith) kept) lists) (rw c.new-row.ensures at c.named_by-parent.ensures.first) refl);
    }

pub returns : goal.returns
returns c = record {
  kept_at = c.loop-r.invariant.kept;
  by_index = λ ids lists. named_end 7 _ _ c.loop-r.r ids _ _ (omega (arith, c.loop-r-test.false)) (omega (arith, c.loop-r.auto.r-end)) (c.loop-r.invariant.named ids lists);
}
