-- What the loop of `reading::order` keeps: what is left gives the same answer.
use Rattle.reading.specs.Wholes.{rules_from, whole_claims}
use Rattle.meaning.specs.Refusals.{speaks}
use mathlib.Core.Path.{◌≡◌}
use Prim.Native.Nat.{◌-◌}
use Rattle.reading.proofs.order.Given as goal

abbrev pub invariant-loop-k : goal.invariant-loop-k
invariant-loop-k l = speaks (rules_from l.k (4 - l.k) l.wholes) ≡ speaks (whole_claims l.wholes)
