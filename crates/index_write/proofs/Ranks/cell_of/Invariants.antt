-- What the loop of `index_write::Ranks::cell_of` keeps.
use Rattle.ordering.specs.Cells.{cell_at}
use mathlib.Core.Path.{◌≡◌}
use Prim.Native.Nat.{ℕ, ◌<◌, ◌≤◌, ◌-◌}
use Rattle.index_write.proofs.Ranks.cell_of.Given as goal

abbrev pub invariant-loop-lo : goal.invariant-loop-lo
invariant-loop-lo l = (0 < l.lo) × (l.hi ≤ l.self.records) × ((k : ℕ) → 0 < k → k ≤ l.self.records → cell_at 0 l.self.cells.now 1 k ≡ l.x → (l.lo ≤ k) × (k ≤ l.hi))

abbrev pub decreases-loop-lo : goal.decreases-loop-lo
decreases-loop-lo l = l.hi - l.lo
