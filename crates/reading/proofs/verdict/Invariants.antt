-- What the loop of `reading::verdict` keeps: what is left gives the same answer.
use Rattle.meaning.specs.Refusals.{in_files, speaks}
use Prim.Native.Nat.{◌+◌}
use mathlib.Core.Path.{◌≡◌}
use mathlib.Core.List.{map}
use lib.ListN.{drop}
use Rattle.reading.proofs.verdict.Given as goal

abbrev pub invariant-loop-i : goal.invariant-loop-i
invariant-loop-i l = speaks (in_files (l.i + 1) (drop l.i (map (λ x. x.now) l.fn.files))) ≡ speaks (in_files 1 (map (λ x. x.now) l.fn.files))
