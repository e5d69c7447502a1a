-- What the loop of `tusuchiy::faults` keeps.
use Prim.Native.Nat.{◌+◌, ◌*◌, ◌-◌, ◌≤◌}
use mathlib.Core.Path.{◌≡◌}
use mathlib.Core.List.{map}
use lib.ListN.{drop}
use Rattle.meaning.specs.Refusals.{max_bytes}
use Rattle.listing.specs.Handing.{state, adding, SameList}
use Rattle.faults.specs.List.{faults_from}
use Rattle.faults.specs.Told.{quad, told}
use Rattle.tusuchiy.proofs.faults.Given as goal

abbrev pub invariant-loop-i : goal.invariant-loop-i
invariant-loop-i l =
    SameList l.initial.told l.told
    × ((l.i ≤ 6) × ((l.told.sink.total ≤ l.i * (max_bytes + 4))
    × (adding quad l.initial.told.from (faults_from (map (λ x. x.now) l.fn.files) (l.i + 1) (drop l.i (map (λ x. x.now) l.fn.files))) (state l.told.out.now l.told.sink) ≡ told (map (λ x. x.now) l.fn.files) l.initial.told.from l.initial.told.out.now)))
