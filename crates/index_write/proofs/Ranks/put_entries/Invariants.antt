-- What the loop of `index_write::Ranks::put_entries` keeps.
use Rattle.meaning.specs.Bytes.{lines_from, lines_of}
use Rattle.index_write.specs.Writing.{Within, Entered}
use mathlib.Core.Path.{◌≡◌}
use Prim.Native.Nat.{◌+◌, ◌≤◌, ◌-◌}
use lib.ListN.{length, drop}
use Rattle.index_write.proofs.Ranks.put_entries.Given as goal

abbrev pub invariant-loop-line : goal.invariant-loop-line
invariant-loop-line l = ((1 ≤ l.r) × (l.r ≤ l.self.records + 1)) × (lines_from l.self.bytes.now l.here ≡ drop l.r (lines_of l.self.bytes.now)) × Within l.self.version l.self.records l.initial.b l.b × Entered l.self.version l.self.file l.self.bytes.now l.self.records l.r l.self.cells.now l.b

abbrev pub decreases-loop-line : goal.decreases-loop-line
decreases-loop-line l = length l.self.bytes.now - l.here
