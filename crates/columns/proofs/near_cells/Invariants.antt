-- What the loop of `columns::near_cells` keeps.
use Rattle.columns.specs.Columns.{field_by}
use Rattle.meaning.specs.Bytes.{bounds}
use mathlib.Core.Path.{◌≡◌}
use Prim.Native.Nat.{ℕ, ◌<◌}
use lib.ListN.{length, get_or}
use Rattle.columns.proofs.near_cells.Given as goal

abbrev pub invariant-loop-k : goal.invariant-loop-k
invariant-loop-k l = (length l.cells ≡ 10) × ((i : ℕ) → i < l.k → get_or l.cells i (bounds 0 0) ≡ field_by l.count l.starts (get_or l.fn.at i 0))
