-- What the loop of `text::undoubled_length` keeps.
use Rattle.meaning.specs.Bytes.{undouble}
use mathlib.Core.Bool.{true}
use mathlib.Core.Path.{◌≡◌}
use Prim.Native.Nat.{◌≤◌, ◌-◌, ◌+◌}
use lib.ListN.{length, drop}
use Rattle.text.proofs.undoubled_length.Given as goal

abbrev pub invariant-loop-i : goal.invariant-loop-i
invariant-loop-i l = (l.i ≤ length l.s + 1) × (l.n ≤ l.i) × (l.n + length (undouble true (drop l.i l.s)) ≡ length (undouble true l.s))

abbrev pub decreases-loop-i : goal.decreases-loop-i
decreases-loop-i l = length l.s + 1 - l.i
