-- The bytes that are left.
use Rattle.std.proofs.Common.{length, ◌-◌, ◌≤◌}
use Rattle.text_cases.proofs.file.Given as goal

abbrev pub invariant-loop-bounds : goal.invariant-loop-bounds
invariant-loop-bounds g l = l.at ≤ length l.s

abbrev pub decreases-loop-bounds : goal.decreases-loop-bounds
decreases-loop-bounds g l = length l.s - l.at
