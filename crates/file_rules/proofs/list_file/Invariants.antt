-- What the loop of `file_rules::list_file` keeps.
use mathlib.Core.Path.{◌≡◌}
use Prim.Native.Nat.{◌+◌, ◌*◌, ◌≤◌}
use lib.ListN.{take}
use Rattle.meaning.specs.declared.Profile.{Profile}
use Rattle.meaning.specs.declared.Profile.TheVariants.{Boards}
use Rattle.meaning.specs.Tables.{Feed}
use Rattle.listing.specs.Handing.{state, SameList}
use Rattle.file_rules.specs.Lines.{rule_numbers, rule_count, Ready}
use Rattle.file_rules.proofs.Walk.{Left}
use Rattle.file_rules.proofs.list_file.Given as goal

abbrev pub invariant-loop-i : goal.invariant-loop-i
invariant-loop-i l =
    SameList l.initial.list l.list
    × (((asked : Profile) → l.numbers ≡ take (rule_count asked l.f) (rule_numbers l.f) → (w : Feed) → Ready l.f l.n w l.t l.stops l.marks → Left asked l.initial.list.from l.f w l.i (state l.list.out.now l.list.sink) (state l.initial.list.out.now l.initial.list.sink))
    × ((l.i ≤ l.n) × (l.list.sink.total ≤ l.initial.list.sink.total + rule_count Boards l.f * l.i)))
