-- Laws of versions: what holds of both holds of the version of so many records.
use Prim.Native.Nat.{ℕ, ◌*◌, ◌^◌, ◌≤◌, ◌<◌}
use native.Mathlib.Nat.{mul-le-mul_left}
use native.Mathlib.Omega.{arith}
use mathlib.Core.Path.{◌≡◌, refl}
use mathlib.Core.Logic.{inl, inr}
use mathlib.Core.Bool.{Bool, true, false, cond, ◌||◌, Bool-set}
use mathlib.Core.HLevel.{is_prop→PathP}
use mathlib.Core.List.{List}
use lib.Dec.{eqb, ltb}
use borrow.Author.Tests.{ltb-true, ltb-false, eqb-true}
use Rattle.indexes.specs.declared.version.Version.{Version}
use Rattle.indexes.specs.Index.{number_at, version1, version2, version_of, other_version, rule41}
use Rattle.indexes.specs.Versions.{Known}

-- a version is told by its number and its width
pub one_version : (v w : Version) → v.number ≡ w.number → v.width ≡ w.width → v ≡ w
one_version v w p q = λ i. record { number = p i; width = q i; wide = is_prop→PathP (λ j. (eqb (q j) 2 || eqb (q j) 4) ≡ true) (λ j. Bool-set _ true) v.wide w.wide i }

-- what version 1 has up to 65,535 records, and version 2 above
pub of_two : (P : Version → Type 0) (n : ℕ) → (n ≤ 65535 → P version1) → (65535 < n → P version2) → P (version_of n)
unfolding version_of
of_two P n few many = go (ltb n 65536) refl
  where
    go : (t : Bool) → ltb n 65536 ≡ t → P (cond t version1 version2)
    go true e = few (omega (arith, ltb-true n 65536 e))
    go false e = many (omega (arith, ltb-false n 65536 e))

pub up_to : (n : ℕ) → n ≤ 65535 → version_of n ≡ version1
up_to n h = of_two (λ v. v ≡ version1) n (λ few. refl) (λ many. absurd (omega arith))

pub above : (n : ℕ) → 65535 < n → version_of n ≡ version2
above n h = of_two (λ v. v ≡ version2) n (λ few. absurd (omega arith)) (λ many. refl)

pub known_of : (n : ℕ) → Known (version_of n)
known_of n = of_two Known n (λ h. inl refl) (λ h. inr refl)

-- a number has two bytes or four
pub wide_of : (v : Version) → (2 ≤ v.width) × (v.width ≤ 4) × ((v.width ≡ 2 → ⊥) → v.width ≡ 4)
wide_of v = go (eqb v.width 2) refl v.wide
  where
    go : (t : Bool) → eqb v.width 2 ≡ t → (t || eqb v.width 4) ≡ true → (2 ≤ v.width) × (v.width ≤ 4) × ((v.width ≡ 2 → ⊥) → v.width ≡ 4)
    go true e h = let w : v.width ≡ 2 = eqb-true v.width 2 e in (omega arith, omega arith, λ z. absurd (z w))
    go false e h = let w : v.width ≡ 4 = eqb-true v.width 4 h in (omega arith, omega arith, λ z. w)

-- so many records have a number in its bytes
pub version_fits : (v : Version) (n : ℕ) → v ≡ version_of n → n < 2 ^ 32 → (n < 256 ^ v.width) × (v.number < 256)
version_fits v n e h = rw e (of_two (λ u. (n < 256 ^ u.width) × (u.number < 256)) n (λ few. (omega arith, omega arith)) (λ many. (h, omega arith)))

-- 41 is silent of both
pub known_silent : (v : Version) (b : List ℕ) → Known v → number_at 2 b 3 ≡ v.number → rule41 b ≡ false
unfolding rule41 other_version
known_silent v b (inl e) h = rw (h, e)
known_silent v b (inr e) h = rw (h, e)

-- the bytes of so many numbers are few
pub few_bytes : (v : Version) (n : ℕ) → n < 2 ^ 32 → n * v.width ≤ 2 ^ 34
few_bytes v n h = omega (arith, mul-le-mul_left {m = v.width} {n = 4} n (wide_of v).1, h)
