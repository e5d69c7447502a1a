-- What a test that is computed over a table, or over the numbers below a bound, shows of each entry.
use Prim.Native.Nat.{ℕ, zero, suc, ◌<◌}
use native.Mathlib.Omega.{arith}
use native.Mathlib.Nat.{not-suc-le-zero}
use mathlib.Core.Path.{◌≡◌, refl}
use mathlib.Core.Bool.{Bool, true, false, ◌&&◌}
use mathlib.Core.Logic.{⊎_elim}
use mathlib.Core.List.Memᴰ
use mathlib.Core.List.{List, [], ◌∷◌, Memᴰ}
use lib.Dec.{T, eqb}
use lib.ListN.{get_or}
use borrow.Author.Tests.{eqb-true, eqb-false}

abbrev pub all {ℓ} : {A : Type ℓ} → (A → Bool) → List A → Bool
all P [] = true
all P (x ∷ r) = P x && all P r

pub and_left : (a b : Bool) → T (a && b) → T a
and_left true b t = tt
and_left false b t = t

pub and_right : (a b : Bool) → T (a && b) → T b
and_right true b t = t
and_right false b t = absurd t

pub is_true : (b : Bool) → T b → b ≡ true
is_true true t = refl
is_true false t = absurd t

-- what holds of each element of a table, and of the default, holds at each index
pub get_d_all {ℓ} : {A : Type ℓ} (P : A → Bool) (d : A) → T (P d) → (l : List A) → T (all P l) → (i : ℕ) → T (P (get_or l i d))
get_d_all P d k [] t i = k
get_d_all P d k (x ∷ r) t zero = and_left (P x) (all P r) t
get_d_all P d k (x ∷ r) t (suc i) = get_d_all P d k r (and_right (P x) (all P r) t) i

-- and of each element that stands in the table
pub mem_all : {A : Type 0} (P : A → Bool) (l : List A) → T (all P l) → (x : A) → Memᴰ x l → P x ≡ true
mem_all P [] t x m = absurd (Memᴰ.not-nil m)
mem_all P (y ∷ r) t x m =
    ⊎_elim (λ (e : x ≡ y). rw e (is_true (P y) (and_left (P y) (all P r) t))) (mem_all P r (and_right (P y) (all P r) t) x) (Memᴰ.cases_cons m)

-- a test computed for every number below a bound
abbrev pub all_below : ℕ → (ℕ → Bool) → Bool
all_below zero P = true
all_below (suc n) P = P n && all_below n P

pub below_all : (n : ℕ) (P : ℕ → Bool) → T (all_below n P) → (k : ℕ) → k < n → T (P k)
below_all zero P t k h = absurd (not-suc-le-zero h)
below_all (suc n) P t k h = go (eqb k n) refl (below_all n P (and_right (P n) (all_below n P) t) k)
  where
    go : (b : Bool) → eqb k n ≡ b → (k < n → T (P k)) → T (P k)
    go true e ih = let z : k ≡ n = eqb-true k n e in rw z (and_left (P n) (all_below n P) t)
    go false e ih = ih (let z : k ≡ n → ⊥ = eqb-false k n e in omega arith)
