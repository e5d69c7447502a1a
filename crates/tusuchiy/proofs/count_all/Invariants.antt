-- What the loop of `tusuchiy::count_all` keeps.
use Prim.Native.Nat.{◌-◌, ◌≤◌}
use mathlib.Core.Path.{◌≡◌}
use mathlib.Core.List.{◌++◌, map}
use lib.ListN.{length, take, drop}
use Rattle.meaning.specs.Bytes.{count_lf}
use Rattle.tusuchiy.proofs.count_all.Given as goal

abbrev pub invariant-loop-i : goal.invariant-loop-i
invariant-loop-i l = (l.i ≤ 6) × ((length l.counts ≡ 6) × (take l.i l.counts ++ map count_lf (drop l.i (map (λ x. x.now) l.files)) ≡ map count_lf (map (λ x. x.now) l.files)))
