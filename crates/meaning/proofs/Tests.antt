-- Laws of tests, and of some number that passes one.
use Prim.Native.Nat.{ℕ, zero, suc, ◌+◌, ◌≤◌, ◌<◌}
use native.Mathlib.Omega.{arith}
use native.Mathlib.Decide.{ℕ_discrete}
use mathlib.Core.Path.{◌≡◌, refl, sym, ◌∙◌}
use mathlib.Core.Bool.{Bool, true, false, cond, ◌||◌}
use mathlib.Core.Logic.{◌⊎◌, inl, inr}
use lib.Dec.{leb}
use borrow.Author.Tests.{leb-true, leb-false}
use Rattle.meaning.specs.Lists.{some}
use Rattle.meaning.proofs.ListLaws.{both}

-- two tests that hold together are one
pub agree : (a b : Bool) → (a ≡ true → b ≡ true) → (b ≡ true → a ≡ true) → a ≡ b
agree true b p q = sym (p refl)
agree false true p q = q refl
agree false false p q = refl

pub either : (a b : Bool) → (a || b) ≡ true → (a ≡ true) ⊎ (b ≡ true)
either true b e = inl refl
either false b e = inr e

pub or_neither : (a b : Bool) → (a || b) ≡ false → (a ≡ false) × (b ≡ false)
or_neither true b e = both true refl e
or_neither false b e = (refl, e)

pub or_left : (a b : Bool) → a ≡ true → (a || b) ≡ true
or_left a b e = rw e

pub or_right : (a b : Bool) → b ≡ true → (a || b) ≡ true
or_right true b e = refl
or_right false b e = e

-- what isn't false
pub not_none : (a : Bool) → (a ≡ false → ⊥) → a ≡ true
not_none true h = refl
not_none false h = absurd (h refl)

pub untrue : (a : Bool) → (a ≡ true → ⊥) → a ≡ false
untrue false h = refl
untrue true h = absurd (h refl)

-- some number of n, from k on, that passes
pub record Found (P : ℕ → Bool) (k n : ℕ) : Type 0 where
  pub place : ℕ
  pub low : k ≤ place
  pub high : place < k + n
  pub is : P place ≡ true

pub some_found : (P : ℕ → Bool) (k n : ℕ) → some P k n ≡ true → Found P k n
unfolding some
some_found P k zero e = both false e refl
some_found P k (suc n) e = go (P k) refl e (some_found P (k + 1) n)
  where
    go : (t : Bool) → P k ≡ t → cond t true (some P (k + 1) n) ≡ true → (some P (k + 1) n ≡ true → Found P (k + 1) n) → Found P k (suc n)
    go true q h ih = record { place = k; low = omega arith; high = omega arith; is = q }
    go false q h ih = let r = ih h in record { place = r.place; low = omega (arith, r.low); high = omega (arith, r.high); is = r.is }

-- a test that holds of none of n numbers from k on
pub some_none : (P : ℕ → Bool) (k n : ℕ) → some P k n ≡ false → (j : ℕ) → k ≤ j → j < k + n → P j ≡ false
unfolding some
some_none P k zero e j a b = absurd (omega arith)
some_none P k (suc n) e j a b = go (P k) refl e (some_none P (k + 1) n) (ℕ_discrete k j)
  where
    go : (t : Bool) → P k ≡ t → cond t true (some P (k + 1) n) ≡ false → (some P (k + 1) n ≡ false → (i : ℕ) → k + 1 ≤ i → i < k + 1 + n → P i ≡ false) → Dec (k ≡ j) → P j ≡ false
    go true q z rest d = let z' : ◌≡◌ {A = ℕ} 0 1 = cc in absurd (omega arith)
    go false q z rest (yes d) = rw (← d) q
    go false q z rest (no d) = rest z j (omega (arith, d)) (omega arith)

pub found_some : (P : ℕ → Bool) (k n j : ℕ) → k ≤ j → j < k + n → P j ≡ true → some P k n ≡ true
found_some P k n j a b e = not_none (some P k n) (λ q. both (P j) e (some_none P k n q j a b))

-- tests that agree on n numbers
pub some_as : (P Q : ℕ → Bool) (k n : ℕ) → ((j : ℕ) → k ≤ j → j < k + n → P j ≡ Q j) → some P k n ≡ some Q k n
unfolding some
some_as P Q k zero h = refl
some_as P Q k (suc n) h = rw (h k (omega arith) (omega arith), some_as P Q (k + 1) n (λ j a b. h j (omega arith) (omega arith)))

pub some_shift : (P : ℕ → Bool) (k n : ℕ) → some P (k + 1) n ≡ some (λ j. P (j + 1)) k n
unfolding some
some_shift P k zero = refl
some_shift P k (suc n) = rw (some_shift P (k + 1) n)

-- a test of lines 1 to n is a test of indexes below n
pub from_one : (P Q : ℕ → Bool) (n : ℕ) → ((j : ℕ) → j < n → P (j + 1) ≡ Q j) → some P 1 n ≡ some Q 0 n
from_one P Q n h = some_shift P 0 n ∙ some_as (λ j. P (j + 1)) Q 0 n (λ j a b. h j (omega arith))

-- below, level or over
pub data Standing (a b : ℕ) : Type 0 where
  below : a < b → Standing a b
  level : a ≡ b → Standing a b
  over : b < a → Standing a b

pub standing : (a b : ℕ) → Standing a b
standing a b = go (leb a b) refl (leb b a) refl
  where
    go : (t : Bool) → leb a b ≡ t → (u : Bool) → leb b a ≡ u → Standing a b
    go true p true q = level (omega (arith, leb-true a b p, leb-true b a q))
    go true p false q = below (leb-false b a q)
    go false p u q = over (leb-false a b p)
