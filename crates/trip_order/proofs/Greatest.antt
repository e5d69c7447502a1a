-- The greatest of some numbers, 0 where there is none.
use Prim.Native.Nat.{ℕ, ◌≤◌, ◌<◌}
use native.Mathlib.Omega.{arith}
use mathlib.Core.Path.{◌≡◌, refl, ap}
use mathlib.Core.Bool.{Bool, true, false, cond}
use mathlib.Core.Logic.{◌⊎◌, inl, inr}
use lib.Dec.{ltb}
use borrow.Author.Tests.{ltb-true, ltb-false}
use Rattle.trip_order.specs.Cells.{larger, Reached, Greatest}

larger_left : (a b : ℕ) → a ≤ larger a b
larger_left a b = go (ltb a b) refl
  where
    go : (t : Bool) → ltb a b ≡ t → a ≤ cond t b a
    go true e = omega (arith, ltb-true a b e)
    go false e = omega arith

larger_right : (a b : ℕ) → b ≤ larger a b
larger_right a b = go (ltb a b) refl
  where
    go : (t : Bool) → ltb a b ≡ t → b ≤ cond t b a
    go true e = omega arith
    go false e = omega (arith, ltb-false a b e)

module _ (v : ℕ → ℕ) where
  pub top_as : {P Q : ℕ → Type 0} {m : ℕ} → ((a : ℕ) → P a → Q a) → ((a : ℕ) → Q a → P a) → Greatest P v m → Greatest Q v m
  top_as p q t = record {
    bound = λ a h. t.bound a (q a h);
    reached = λ h. let r = t.reached h in record { place = r.place; holds = p r.place r.holds; is = r.is };
  }

  pub top_none : {P : ℕ → Type 0} → ((a : ℕ) → P a → ⊥) → Greatest P v 0
  top_none none = record { bound = λ a h. absurd (none a h); reached = λ h. absurd (empty h) }
    where
      empty : 0 < 0 → ⊥
      empty h = omega arith

  pub top_one : {P : ℕ → Type 0} (a : ℕ) → P a → ((b : ℕ) → P b → b ≡ a) → Greatest P v (v a)
  top_one a h only = record { bound = λ b q. let e : v b ≡ v a = ap v (only b q) in omega arith; reached = λ l. record { place = a; holds = h; is = refl } }

  pub top_join : {P R Q : ℕ → Type 0} {m o : ℕ} → ((a : ℕ) → P a → Q a) → ((a : ℕ) → R a → Q a) → ((a : ℕ) → Q a → P a ⊎ R a)
      → Greatest P v m → Greatest R v o → Greatest Q v (larger m o)
  top_join {P} {R} {Q} {m} {o} p r q s t = record { bound = λ a h. up a (q a h); reached = down (ltb m o) }
    where
      up : (a : ℕ) → P a ⊎ R a → v a ≤ larger m o
      up a (inl h) = omega (arith, s.bound a h, larger_left m o)
      up a (inr h) = omega (arith, t.bound a h, larger_right m o)

      down : (b : Bool) → 0 < cond b o m → Reached Q v (cond b o m)
      down true h = let d = t.reached h in record { place = d.place; holds = r d.place d.holds; is = d.is }
      down false h = let d = s.reached h in record { place = d.place; holds = p d.place d.holds; is = d.is }
