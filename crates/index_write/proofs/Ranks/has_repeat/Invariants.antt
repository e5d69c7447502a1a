-- What the loop of `index_write::Ranks::has_repeat` keeps.
use Rattle.meaning.specs.Lists.{some}
use Rattle.ordering.specs.Cells.{cell_at}
use Rattle.ordering.specs.Ids.{alike}
use Rattle.ordering.specs.declared.By.TheVariants.{Field}
use mathlib.Core.Path.{◌≡◌}
use Prim.Native.Nat.{◌+◌, ◌-◌}
use Rattle.index_write.proofs.Ranks.has_repeat.Given as goal

abbrev pub invariant-loop-k : goal.invariant-loop-k
invariant-loop-k l = some (λ k. alike Field l.self.bytes.now l.self.cells.now 1 (cell_at 0 l.self.cells.now 1 k) (cell_at 0 l.self.cells.now 1 (k + 1))) l.k (l.self.records - l.k) ≡ some (λ k. alike Field l.self.bytes.now l.self.cells.now 1 (cell_at 0 l.self.cells.now 1 k) (cell_at 0 l.self.cells.now 1 (k + 1))) 1 (l.self.records - 1)
