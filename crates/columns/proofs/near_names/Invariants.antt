-- What the loop of `columns::near_names` keeps.
use Rattle.columns.proofs.Standings.{Met}
use Rattle.meaning.specs.Bytes.{values}
use Rattle.columns.specs.Columns.{told}
use mathlib.Core.Path.{◌≡◌}
use Prim.Native.Nat.{ℕ, ◌-◌}
use lib.ListN.{drop}
use Rattle.columns.proofs.near_names.Given as goal

abbrev pub invariant-loop-n : goal.invariant-loop-n
invariant-loop-n l = (a : ℕ) × (l.names.again ≡ told a) × Met l.f (values l.h) l.n (drop (l.n - 1) (values l.h)) l.names.at a
