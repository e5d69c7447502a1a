-- What the loop of `tables::parents::settle_with` keeps.
use Rattle.ordering.specs.Cells.{KeptAt}
use Rattle.records.specs.Refers.{Lists}
use Rattle.tables.specs.Walk.{Named}
use Rattle.memo.specs.Memo.{Ready}
use mathlib.Core.List.{List}
use Prim.Native.Nat.{ℕ}
use Rattle.tables.proofs.parents.settle_with.Given as goal

abbrev pub invariant-loop-r : goal.invariant-loop-r
invariant-loop-r l = record {
  kept : KeptAt 6 7 l.n l.initial.t l.t;
  ready : Ready l.s l.t 7 l.n l.memo;
  named : (ids : List (List ℕ)) → Lists l.s l.initial.t 7 l.n ids → Named 7 l.s l.r ids l.initial.t l.t;
}
