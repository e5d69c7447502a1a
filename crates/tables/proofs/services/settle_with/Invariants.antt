-- What the loop of `tables::services::settle_with` keeps.
use Rattle.ordering.specs.Cells.{KeptAt}
use Rattle.memo.specs.Memo.{Ready}
use Rattle.records.specs.Refers.{Lists}
use Rattle.tables.specs.Walk.{Named}
use mathlib.Core.List.{List}
use Prim.Native.Nat.{ℕ}
use Rattle.tables.proofs.services.settle_with.Given as goal

abbrev pub invariant-loop-r : goal.invariant-loop-r
invariant-loop-r l = record {
  kept : KeptAt 7 8 l.n l.initial.t l.t;
  ready : Ready l.dates.file.now l.dates.table.now 4 l.dates.count l.memo;
  named : (ids : List (List ℕ)) → Lists l.dates.file.now l.dates.table.now 4 l.dates.count ids → Named 8 l.s l.r ids l.initial.t l.t;
}
