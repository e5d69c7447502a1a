-- What the loop of `file_faults::list_later` keeps.
use mathlib.Core.Path.{◌≡◌}
use mathlib.Core.List.{List}
use Prim.Native.Nat.{ℕ, ◌+◌, ◌-◌, ◌≤◌}
use lib.ListN.{length}
use Rattle.listing.specs.Handing.{state, adding, SameList}
use Rattle.faults.specs.Told.{quad}
use Rattle.faults.specs.List.{texts_from, later_faults}
use Rattle.file_faults.specs.Walk.{Heads}
use Rattle.file_faults.proofs.list_later.Given as goal

abbrev pub invariant-loop-line : goal.invariant-loop-line
invariant-loop-line l =
    SameList l.initial.list l.list
    × (((h : List ℕ) → Heads l.f h l.header → adding quad l.initial.list.from (later_faults l.f h l.n (texts_from l.s l.at)) (state l.list.out.now l.list.sink) ≡ adding quad l.initial.list.from (later_faults l.f h 2 (texts_from l.s l.from)) (state l.initial.list.out.now l.initial.list.sink))
    × ((l.from ≤ l.at) × ((l.n ≤ l.at + 2) × ((l.at - l.from ≤ length l.s) × (l.list.sink.total ≤ l.initial.list.sink.total + (l.at - l.from))))))

abbrev pub decreases-loop-line : goal.decreases-loop-line
decreases-loop-line l = length l.s - l.at
