-- `seeking::lower` meets its contract.
use Rattle.seeking.proofs.Laws.{halve_start, halve_up, halve_down, halve_end}
use Rattle.ordering.proofs.Laws.{room_less, room_count}
use mathlib.Core.Path.{sym, ◌∙◌}
use native.Mathlib.Omega.{arith}
use Rattle.seeking.proofs.lower.Goals as goal

pub overflow_add-hi : goal.overflow_add-hi
overflow_add-hi c = omega (arith, room_count c.requires.room)

pub loop-lo-init : goal.loop-lo-init
loop-lo-init c = halve_start _ _ _ _

pub is_before-requires : goal.is_before-requires
is_before-requires c = room_less (omega arith) c.requires.room

pub overflow_add-lo : goal.overflow_add-lo
overflow_add-lo c = omega (arith, room_count c.requires.room, c.loop-lo.invariant.high)

pub loop-lo-preserved-then-is_before : goal.loop-lo-preserved-then-is_before
loop-lo-preserved-then-is_before c = halve_up _ _ _ _ c.requires.sorted c.loop-lo.lo c.loop-lo.hi _ c.loop-lo.invariant (omega arith) (omega arith) (sym c.is_before.ensures ∙ c.if-is_before.true)

pub loop-lo-preserved : goal.loop-lo-preserved
loop-lo-preserved c = halve_down _ _ _ _ c.requires.sorted c.loop-lo.lo c.loop-lo.hi _ c.loop-lo.invariant (omega arith) (omega arith) (sym c.is_before.ensures ∙ c.if-is_before.false)

pub returns : goal.returns
returns c = halve_end _ _ _ _ c.loop-lo.lo c.loop-lo.hi c.loop-lo.invariant c.loop-lo-test.false
