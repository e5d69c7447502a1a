-- What the loop of `columns::wide_names` keeps.
use Rattle.columns.proofs.Standings.{Met}
use Rattle.text.specs.Fields.{values_from}
use Rattle.meaning.specs.Bytes.{values}
use Rattle.columns.specs.Columns.{told}
use mathlib.Core.Path.{◌≡◌}
use Prim.Native.Nat.{ℕ, ◌≤◌, ◌-◌, ◌+◌}
use lib.ListN.{length}
use Rattle.columns.proofs.wide_names.Given as goal

abbrev pub invariant-loop-field : goal.invariant-loop-field
invariant-loop-field l = (l.c.at ≤ length l.h + 1) × (l.n ≤ l.c.at + 1) × (1 ≤ l.n) × ((a : ℕ) × (l.names.again ≡ told a) × Met l.f (values l.h) l.n (values_from l.h l.c.at) l.names.at a)

abbrev pub decreases-loop-field : goal.decreases-loop-field
decreases-loop-field l = length l.h + 1 - l.c.at
