-- What the loop of `rules::list_files` keeps.
use Prim.Native.Nat.{◌+◌, ◌*◌, ◌-◌, ◌≤◌}
use mathlib.Core.Path.{◌≡◌}
use mathlib.Core.List.{map}
use lib.ListN.{drop}
use Rattle.meaning.specs.Lists.{flat}
use Rattle.meaning.specs.Tables.{Feed}
use Rattle.meaning.specs.Refusals.{max_lines}
use Rattle.meaning.specs.Rules.{file_numbers, bindings, bindings_of}
use Rattle.lent.specs.Lent.{held}
use Rattle.listing.specs.Handing.{state, noting, SameList}
use Rattle.rules.specs.Tabled.{Tabled}
use Rattle.rules.proofs.Laws.{rule_sum}
use Rattle.rules.proofs.list_files.Given as goal

abbrev pub invariant-loop-f : goal.invariant-loop-f
invariant-loop-f l =
    SameList l.initial.list l.list
    × ((1 ≤ l.f) × ((l.f ≤ 7) × ((l.list.sink.total ≤ l.initial.list.sink.total + rule_sum (l.f - 1) * max_lines)
    × ((w : Feed) → Tabled w l.counts (held l.tables) l.marks
    → noting l.initial.list.from (flat (map (bindings_of l.fn.asked w) (drop (l.f - 1) file_numbers))) (state l.list.out.now l.list.sink) ≡ noting l.initial.list.from (bindings l.fn.asked w) (state l.initial.list.out.now l.initial.list.sink)))))
