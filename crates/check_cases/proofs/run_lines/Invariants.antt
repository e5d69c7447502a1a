-- The bytes that are left.
use Rattle.std.proofs.Common.{length, ◌-◌, ◌≤◌}
use Rattle.check_cases.proofs.run_lines.Given as goal

abbrev pub invariant-loop-line : goal.invariant-loop-line
invariant-loop-line g l = l.at ≤ length l.s

abbrev pub decreases-loop-line : goal.decreases-loop-line
decreases-loop-line g l = length l.s - l.at
