-- What the loop of `text::count_block` keeps.
use Rattle.meaning.specs.Bytes.{count_lf}
use mathlib.Core.Path.{◌≡◌}
use Prim.Native.Nat.{◌≤◌, ◌+◌}
use lib.ListN.{length, drop}
use Rattle.text.proofs.count_block.Given as goal

abbrev pub invariant-loop-b : goal.invariant-loop-b
invariant-loop-b l = (l.b-index ≤ length l.s) × (length l.s ≤ 224) × (l.n + count_lf (drop l.b-index l.s) ≡ count_lf l.s)
