-- `repeats::is_repeat` meets its contract.
use Rattle.ordering.proofs.Laws.{room_row}
use mathlib.Core.Path.{◌∙◌}
use Prim.Native.Nat.{◌-◌}
use native.Mathlib.Omega.{arith}
use Rattle.repeats.proofs.is_repeat.Goals as goal

pub get-x-requires : goal.get-x-requires
get-x-requires c = (c.requires.0.wide, room_row c.requires.0 (c.args.k - 1) (omega arith))

pub returns : goal.returns
returns c = c.is_alike.ensures ∙ rw (c.get-x.ensures.0, c.get-y.ensures.0)
