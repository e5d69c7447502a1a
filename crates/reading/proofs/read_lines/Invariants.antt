-- What the loop of `reading::read_lines` keeps.
use Rattle.meaning.specs.Bytes.{lines_from}
use Rattle.meaning.specs.Refusals.{on_lines, speaks}
use mathlib.Core.Path.{◌≡◌}
use Prim.Native.Nat.{◌≤◌, ◌-◌, ◌+◌}
use lib.ListN.{length}
use Rattle.reading.proofs.read_lines.Given as goal

abbrev pub invariant-loop-line : goal.invariant-loop-line
invariant-loop-line l = (l.n ≤ l.at + 2) × (speaks (on_lines l.f l.c.at l.c.count l.n (lines_from l.s l.at)) ≡ speaks (on_lines l.f l.c.at l.c.count 2 (lines_from l.s l.from)))

abbrev pub decreases-loop-line : goal.decreases-loop-line
decreases-loop-line l = length l.s - l.at
