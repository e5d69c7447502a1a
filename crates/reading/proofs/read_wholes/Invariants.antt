-- What the loop of `reading::read_wholes` keeps.
use Rattle.reading.specs.Wholes.{wholes_from, wholes_of}
use Prim.Native.Nat.{◌+◌}
use mathlib.Core.Path.{◌≡◌}
use mathlib.Core.List.{◌++◌, map}
use lib.ListN.{length, take, drop}
use Rattle.reading.proofs.read_wholes.Given as goal

abbrev pub invariant-loop-i : goal.invariant-loop-i
invariant-loop-i l =
    (length l.wholes ≡ 6) × (take l.i l.wholes ++ wholes_from (map (λ x. x.now) l.files) (l.i + 1) (drop l.i (map (λ x. x.now) l.files)) (drop l.i l.rooms) ≡ wholes_of (map (λ x. x.now) l.files) l.rooms)
