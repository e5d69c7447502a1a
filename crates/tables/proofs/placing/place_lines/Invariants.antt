-- What the loop of `tables::placing::place_lines` keeps.
use Rattle.meaning.specs.Lists.{flat, laid}
use Rattle.meaning.specs.Bytes.{count_lf, lines_from, lines_of}
use Rattle.meaning.specs.Columns.{rows_of}
use Rattle.tables.specs.Walk.{placed_of}
use Rattle.tables.specs.Noting.{noted, note_mark, Telling}
use mathlib.Core.Path.{◌≡◌}
use mathlib.Core.List.{List, []}
use Prim.Native.Nat.{◌≤◌, ◌-◌}
use lib.ListN.{length, get_or, drop, take}
use lib.IntN.{ℤ}
use Rattle.tables.proofs.placing.place_lines.Given as goal

abbrev pub invariant-loop-line : goal.invariant-loop-line
invariant-loop-line l = ((1 ≤ l.r) × (l.r ≤ count_lf l.s)) × ((lines_from l.s l.here ≡ drop l.r (lines_of l.s)) × ((length l.t ≡ length l.initial.t) × (((lent : List ℤ) → l.initial.t ≡ laid (flat (take 1 (placed_of l.f l.s))) lent → l.t ≡ laid (flat (take l.r (placed_of l.f l.s))) lent) × Telling (λ i. noted l.f (get_or (rows_of l.f l.s) (i - 1) [])) (note_mark l.f) l.r l.initial.m l.m)))

abbrev pub decreases-loop-line : goal.decreases-loop-line
decreases-loop-line l = length l.s - l.here
