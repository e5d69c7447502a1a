-- Signed numbers through their bits.
use mathlib.Core.Path.{◌≡◌, ◌∙◌}
use mathlib.Core.Bool.{Bool}
use Prim.Native.Nat.{◌^◌, ◌<◌}
use lib.IntN.{ℤ}
use lib.Signed.{mag, lt_z}
use mir.Syntax.{w32}
use mir.Val.{SFits, to_z, of_z}
use mir.ValLaws.{to_z-of_z}

-- a signed number that a local, an element or a call handed on
pub kept : (z : ℤ) → mag z < 2 ^ 31 → to_z w32 (of_z w32 z) ≡ z
kept z h = to_z-of_z w32 z (record { sfits = h })

-- the same where the number is known
pub kept_is : (z y : ℤ) → mag z < 2 ^ 31 → z ≡ y → to_z w32 (of_z w32 z) ≡ y
kept_is z y h e = kept z h ∙ e

-- what a test on the bits tells of the numbers
pub less_is :
    (a b : ℤ) {r : Bool}
    → SFits w32 a
    → SFits w32 b
    → lt_z (to_z w32 (of_z w32 a)) (to_z w32 (of_z w32 b)) ≡ r
    → lt_z a b ≡ r
less_is a b f g e = rw (to_z-of_z w32 a f, to_z-of_z w32 b g) at e
