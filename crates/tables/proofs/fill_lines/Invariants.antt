-- What the loop of `tables::fill_lines` keeps.
use Rattle.meaning.specs.Lists.{flat, laid}
use Rattle.meaning.specs.Bytes.{count_lf, lines_from, lines_of}
use Rattle.meaning.specs.Tables.{Feed}
use Rattle.records.specs.Refers.{Refers, Sought}
use Rattle.tables.specs.Walk.{Settled, written_all}
use mathlib.Core.Path.{◌≡◌}
use mathlib.Core.List.{List}
use Prim.Native.Nat.{◌≤◌, ◌-◌}
use lib.ListN.{length, drop, take}
use lib.IntN.{ℤ}
use Rattle.tables.proofs.fill_lines.Given as goal

abbrev pub invariant-loop-line : goal.invariant-loop-line
invariant-loop-line l = ((1 ≤ l.r) × (l.r ≤ count_lf l.s)) × ((lines_from l.s l.here ≡ drop l.r (lines_of l.s)) × (((length l.t ≡ length l.initial.t) × ((length l.a_memo ≡ length l.initial.a_memo) × (length l.b_memo ≡ length l.initial.b_memo))) × (Sought l.f l.a l.a_memo l.b l.b_memo × ((w : Feed) (lent : List ℤ) → Refers l.f w l.a l.b → Settled l.f w l.s l.initial.t → l.initial.t ≡ laid (flat (take 1 (written_all l.f w l.s))) lent → l.t ≡ laid (flat (take l.r (written_all l.f w l.s))) lent))))

abbrev pub decreases-loop-line : goal.decreases-loop-line
decreases-loop-line l = length l.s - l.here
