-- What the loop of `noting::note_line` keeps.
use Prim.Native.Nat.{◌+◌, ◌≤◌}
use mathlib.Core.Path.{◌≡◌}
use lib.ListN.{length}
use Rattle.meaning.specs.Refusals.{on_line}
use Rattle.listing.specs.Handing.{state, noting, SameList}
use Rattle.judging.specs.Judging.{tests_from}
use Rattle.noting.proofs.note_line.Given as goal

abbrev pub invariant-loop-i : goal.invariant-loop-i
invariant-loop-i l =
    SameList l.initial.list l.list
    × ((state l.list.out.now l.list.sink ≡ noting l.initial.list.from (on_line l.file l.line (tests_from l.numbers l.broken l.i)) (state l.initial.list.out.now l.initial.list.sink))
    × ((l.list.sink.total ≤ l.initial.list.sink.total + l.i) × (l.i ≤ length l.numbers)))
