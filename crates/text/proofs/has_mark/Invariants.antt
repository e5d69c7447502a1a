-- What the loop of `text::has_mark` keeps.
use Rattle.text.specs.Fields.{is_mark}
use Rattle.meaning.specs.Lists.{any}
use mathlib.Core.Bool.{◌||◌}
use mathlib.Core.Path.{◌≡◌}
use Prim.Native.Nat.{◌≤◌}
use lib.ListN.{length, drop}
use Rattle.text.proofs.has_mark.Given as goal

abbrev pub invariant-loop-b : goal.invariant-loop-b
invariant-loop-b l = (l.b-index ≤ length l.s) × ((l.some || any is_mark (drop l.b-index l.s)) ≡ any is_mark l.s)
