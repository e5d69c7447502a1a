-- What the loop of `columns::field_start` keeps.
use Rattle.text.specs.Fields.{fields_from}
use Rattle.meaning.specs.Bytes.{fields}
use mathlib.Core.Path.{◌≡◌}
use Prim.Native.Nat.{◌≤◌, ◌<◌, ◌-◌, ◌+◌}
use lib.ListN.{length, drop}
use Rattle.columns.proofs.field_start.Given as goal

abbrev pub invariant-loop-field : goal.invariant-loop-field
invariant-loop-field l =
    (l.c.at ≤ length l.l + 1) × (1 ≤ l.n) × (l.n ≤ l.c.at + 1) × (drop (l.n - 1) (fields l.l) ≡ fields_from l.l l.c.at) × (l.p < l.n → l.p ≡ 0)

abbrev pub decreases-loop-field : goal.decreases-loop-field
decreases-loop-field l = length l.l + 1 - l.c.at
