-- What the loop of `values::LocatedLine::packed_days` keeps: the days behind d - 1 are packed.
use Rattle.meaning.specs.Columns.{row_of}
use Rattle.meaning.specs.Tables.{pack_from}
use Rattle.values.specs.Located.{Located}
use Rattle.std.proofs.Common.{◌≡◌, List, ℕ, ◌^◌, ◌≤◌, ◌<◌, ◌-◌}
use Rattle.values.proofs.LocatedLine.packed_days.Given as goal

abbrev pub invariant-loop-d : goal.invariant-loop-d
invariant-loop-d l = (1 ≤ l.d) × ((l.n < 2 ^ (7 - (l.d - 1))) × ((ps : List ℕ) → Located l.self.line.now ps l.self.cells → l.n ≡ pack_from (l.d - 1) (7 - (l.d - 1)) (row_of ps l.self.line.now)))
