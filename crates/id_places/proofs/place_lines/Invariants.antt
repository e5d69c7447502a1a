-- What the loop of `id_places::place_lines` keeps.
use Rattle.meaning.specs.Bytes.{count_lf, lines_from, lines_of}
use Rattle.id_places.proofs.Walk.{Noted}
use mathlib.Core.Path.{◌≡◌}
use Prim.Native.Nat.{◌≤◌, ◌-◌}
use lib.ListN.{length, drop}
use Rattle.id_places.proofs.place_lines.Given as goal

abbrev pub invariant-loop-line : goal.invariant-loop-line
invariant-loop-line l = ((1 ≤ l.r) × (l.r ≤ count_lf l.s)) × (lines_from l.s l.here ≡ drop l.r (lines_of l.s)) × (length l.t ≡ length l.initial.t) × Noted l.p l.s l.r l.t

abbrev pub decreases-loop-line : goal.decreases-loop-line
decreases-loop-line l = length l.s - l.here
