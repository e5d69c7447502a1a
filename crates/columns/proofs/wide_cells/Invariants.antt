-- What the loop of `columns::wide_cells` keeps.
use Rattle.columns.proofs.Laws.{seen}
use Rattle.text.specs.Fields.{fields_from}
use Rattle.meaning.specs.Bytes.{fields}
use mathlib.Core.Path.{◌≡◌}
use Prim.Native.Nat.{◌≤◌, ◌-◌, ◌+◌}
use lib.ListN.{length, drop}
use Rattle.columns.proofs.wide_cells.Given as goal

abbrev pub invariant-loop-field : goal.invariant-loop-field
invariant-loop-field l =
    (l.c.at ≤ length l.l + 1) × (1 ≤ l.n) × (l.n ≤ l.c.at + 1) × (drop (l.n - 1) (fields l.l) ≡ fields_from l.l l.c.at)
    × (l.cells ≡ seen l.l l.n l.at)

abbrev pub decreases-loop-field : goal.decreases-loop-field
decreases-loop-field l = length l.l + 1 - l.c.at
