-- What the loop of `characters::awaits_more` keeps.
use Rattle.characters.proofs.Laws.{Awaiting}
use Rattle.meaning.specs.Characters.{awaited_after}
use mathlib.Core.List.{[]}
use Prim.Native.Nat.{◌<◌, ◌-◌}
use lib.ListN.{length, drop}
use Rattle.characters.proofs.awaits_more.Given as goal

abbrev pub invariant-loop-i : goal.invariant-loop-i
invariant-loop-i l = (l.q < 9) × Awaiting l.l (awaited_after [] (drop l.at l.l)) l.q l.i

abbrev pub decreases-loop-i : goal.decreases-loop-i
decreases-loop-i l = length l.l - l.i
