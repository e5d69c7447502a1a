-- `index_write::Ranks::cell_of` meets its contract.
use Rattle.ordering.proofs.Laws.{room_row}
use Rattle.index_write.proofs.Cells.{not_after, after}
use mathlib.Core.Path.{◌≡◌, sym, ◌∙◌}
use Prim.Native.Nat.{◌+◌, ◌/◌, ◌-◌}
use native.Mathlib.Omega.{arith}
use Rattle.index_write.proofs.Ranks.cell_of.Goals as goal

pub loop-lo-init : goal.loop-lo-init
loop-lo-init c = (omega arith, omega arith, λ k a b e. (a, b))

pub get-requires : goal.get-requires
get-requires c = (omega arith, room_row c.requires.room_at.0 _ (omega arith))

pub no_later-requires : goal.no_later-requires
no_later-requires c = (omega arith, c.requires.room_at.1, c.get.ensures.1)

pub loop-lo-preserved-then-no_later : goal.loop-lo-preserved-then-no_later
loop-lo-preserved-then-no_later c = (c.loop-lo.invariant.0, omega (arith, c.loop-lo.invariant.1), λ k a b e. ((c.loop-lo.invariant.2 k a b e).0, not_after c.args.self.now.bytes.now c.args.self.now.cells.now c.args.self.now.records c.args.x c.requires.sorted.0 k a b e (c.loop-lo.lo + (c.loop-lo.hi - c.loop-lo.lo) / 2) (omega arith) (omega arith) c.requires.sorted.1 (sym (c.no_later.ensures ∙ rw c.get.ensures.0) ∙ c.if-no_later.true)))

pub loop-lo-preserved : goal.loop-lo-preserved
loop-lo-preserved c = (omega arith, c.loop-lo.invariant.1, λ k a b e. (omega (arith, after c.args.self.now.bytes.now c.args.self.now.cells.now c.args.self.now.records c.args.x c.requires.sorted.0 k a b e (c.loop-lo.lo + (c.loop-lo.hi - c.loop-lo.lo) / 2) (omega arith) (omega arith) (sym (c.no_later.ensures ∙ rw c.get.ensures.0) ∙ c.if-no_later.false)), (c.loop-lo.invariant.2 k a b e).1))

pub returns : goal.returns
returns c =
    let p = c.requires.sorted.2 in
    let i = c.loop-lo.invariant.2 p.place p.low p.high p.is in
    let e : c.loop-lo.lo ≡ p.place = omega (arith, i.0, i.1, c.loop-lo-test.false) in
    (c.loop-lo.invariant.0, omega (arith, e, p.high), rw e p.is)
