-- What the loop of `reading::row_fault` keeps.
use Rattle.reading.specs.Tests.{first, value_tests_to}
use mathlib.Core.Path.{◌≡◌}
use Rattle.reading.proofs.row_fault.Given as goal

abbrev pub invariant-loop-k : goal.invariant-loop-k
invariant-loop-k l = l.fault ≡ first (value_tests_to l.slack l.known.file l.at l.l l.k)
