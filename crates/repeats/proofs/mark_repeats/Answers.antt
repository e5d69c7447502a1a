-- `repeats::mark_repeats` meets its contract.
use Rattle.ordering.proofs.Laws.{room_row, room_less}
use Rattle.repeats.proofs.Laws.{walk_start, walk_on, walk_mark, walk_end}
use mathlib.Core.Path.{sym, ◌∙◌}
use Prim.Native.Nat.{◌+◌, ◌<◌}
use native.Mathlib.Omega.{arith}
use Rattle.repeats.proofs.mark_repeats.Goals as goal
use Rattle.repeats.proofs.mark_repeats.Goals.{then-is_repeat, else-is_repeat}

pub loop-k-init : goal.loop-k-init
loop-k-init c = walk_start _ _ _ _ _ _ c.requires.0 _ _

pub is_repeat-requires : goal.is_repeat-requires
is_repeat-requires c = (room_less c.loop-k-test.true c.requires.0.room, omega (arith, c.loop-k.invariant.low))

pub get-requires : goal.get-requires
get-requires c =
    let r = c.requires.0.room in
    (r.wide, room_row r _ (omega (arith, c.loop-k-test.true)))

pub mark-requires : goal.mark-requires
mark-requires c = c.requires.1

pub loop-k-preserved : goal.loop-k-preserved
loop-k-preserved c =
    let p = c.requires.0 in
    let h = c.loop-k-test.true in
    let e = c.is_repeat.ensures in
    elim c.if-is_repeat.branch [
      | then-is_repeat v ↦ rw v.m-is (walk_mark _ _ _ _ _ _ p _ _ _ c.loop-k.k c.loop-k.invariant h _ _ v.get.ensures.0 v.mark.ensures (sym v.if-is_repeat.true ∙ e))
      | else-is_repeat v ↦ rw v.m-is (walk_on _ _ _ _ _ _ p _ _ _ c.loop-k.k c.loop-k.invariant h (sym v.if-is_repeat.false ∙ e))
    ]

pub returns : goal.returns
returns c = walk_end _ _ _ _ _ _ c.requires.0 _ _ _ c.loop-k.k c.loop-k-test.false c.loop-k.invariant

pub returns-after-is_repeat : goal.returns-after-is_repeat
returns-after-is_repeat c =
    let p = c.requires.0 in
    let h = c.loop-k-test.true in
    let e = c.is_repeat.ensures in
    let last : c.args.n < c.loop-k.k + 1 = omega arith in
    elim c.if-is_repeat.branch [
      | then-is_repeat v ↦ rw v.m-is (walk_end _ _ _ _ _ _ p _ _ _ (c.loop-k.k + 1) last (walk_mark _ _ _ _ _ _ p _ _ _ c.loop-k.k c.loop-k.invariant h _ _ v.get.ensures.0 v.mark.ensures (sym v.if-is_repeat.true ∙ e)))
      | else-is_repeat v ↦ rw v.m-is (walk_end _ _ _ _ _ _ p _ _ _ (c.loop-k.k + 1) last (walk_on _ _ _ _ _ _ p _ _ _ c.loop-k.k c.loop-k.invariant h (sym v.if-is_repeat.false ∙ e)))
    ]
