-- `index_write::Ranks::has_repeat` meets its contract.
use Rattle.columns.proofs.Laws.{some_over, some_here, some_next}
use Rattle.ordering.proofs.Laws.{room_less}
use mathlib.Core.Path.{refl, sym, ◌∙◌}
use Prim.Native.Nat.{◌+◌}
use native.Mathlib.Omega.{arith}
use Rattle.index_write.proofs.Ranks.has_repeat.Goals as goal

pub loop-k-init : goal.loop-k-init
loop-k-init c = refl

pub is_repeat-requires : goal.is_repeat-requires
is_repeat-requires c = room_less {m = c.loop-k.k + 1} (omega arith) c.requires

pub returns-then-is_repeat : goal.returns-then-is_repeat
returns-then-is_repeat c = some_here _ _ _ _ c.loop-k.invariant c.loop-k-test.true (sym c.is_repeat.ensures ∙ c.if-is_repeat.true)

pub loop-k-preserved : goal.loop-k-preserved
loop-k-preserved c = some_next _ _ _ _ c.loop-k.invariant c.loop-k-test.true (sym c.is_repeat.ensures ∙ c.if-is_repeat.false)

pub returns : goal.returns
returns c = some_over _ _ _ _ c.loop-k.invariant c.loop-k-test.false
