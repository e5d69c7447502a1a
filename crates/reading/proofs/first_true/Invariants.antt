-- What the loop of `reading::first_true` keeps: what is left gives the same answer.
use Rattle.reading.specs.Wholes.{rule_marks, first_true}
use mathlib.Core.Path.{◌≡◌}
use Prim.Native.Nat.{◌+◌}
use lib.ListN.{drop}
use Rattle.reading.proofs.first_true.Given as goal

abbrev pub invariant-loop-f : goal.invariant-loop-f
invariant-loop-f l = first_true (l.f + 1) (rule_marks l.k (drop l.f l.fn.wholes)) ≡ first_true 1 (rule_marks l.k l.fn.wholes)
