-- What the loop of `tables::times::settle_times` keeps.
use Rattle.meaning.specs.Lists.{flat, laid}
use Rattle.meaning.specs.Bytes.{count_lf}
use Rattle.meaning.specs.Tables.{Feed}
use Rattle.ordering.specs.Cells.{KeptAt}
use Rattle.tables.specs.Walk.{written}
use Rattle.tables.proofs.Waits.{record_table}
use mathlib.Core.Path.{◌≡◌}
use mathlib.Core.List.{List}
use Prim.Native.Nat.{ℕ, ◌≤◌, ◌+◌, ◌*◌}
use lib.IntN.{ℤ}
use lib.ListN.{length, take}
use Rattle.tables.proofs.times.settle_times.Given as goal

abbrev pub invariant-loop-r : goal.invariant-loop-r
invariant-loop-r l = (w : Feed) (s : List ℕ) (lent : List ℤ) → l.n + 1 ≡ count_lf s → count_lf s * 8 ≤ length lent → KeptAt 7 8 l.n (written 5 w s lent) l.initial.t → l.t ≡ laid (flat (take l.r (record_table w s))) l.initial.t
