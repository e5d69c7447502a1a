-- How many of lines 1 to n are of a trip.
use Prim.Native.Nat.{ℕ, zero, suc, ◌+◌, ◌≤◌, ◌<◌}
use native.Mathlib.Omega.{arith}
use mathlib.Core.Path.{◌≡◌, refl}
use mathlib.Core.Bool.{Bool, true, false, cond}
use Rattle.meaning.proofs.ListLaws.{both}
use Rattle.trip_order.specs.Lines.{count}
use Rattle.meaning.proofs.Tests.{untrue, Standing, below, level, over, standing}

pub count_none : (T : ℕ → Bool) (n : ℕ) → ((x : ℕ) → 0 < x → x ≤ n → T x ≡ false) → count T n ≡ 0
unfolding count
count_none T zero h = refl
count_none T (suc n) h = rw (h (suc n) (omega arith) (omega arith)) (count_none T n (λ x a b. h x a (omega arith)))

count_some : (T : ℕ → Bool) (n x : ℕ) → 0 < x → x ≤ n → T x ≡ true → 1 ≤ count T n
unfolding count
count_some T zero x a b e = absurd (omega arith)
count_some T (suc n) x a b e = go (T (suc n)) refl (standing x (suc n)) (count_some T n x a)
  where
    go : (t : Bool) → T (suc n) ≡ t → Standing x (suc n) → (x ≤ n → T x ≡ true → 1 ≤ count T n) → 1 ≤ cond t (count T n + 1) (count T n)
    go true q s ih = omega arith
    go false q (below h) ih = ih (omega arith) e
    go false q (level h) ih = both (T (suc n)) (rw (← h) e) q
    go false q (over h) ih = absurd (omega arith)

pub count_two : (T : ℕ → Bool) (n x y : ℕ) → 0 < x → x < y → y ≤ n → T x ≡ true → T y ≡ true → 2 ≤ count T n
unfolding count
count_two T zero x y a b c d e = absurd (omega arith)
count_two T (suc n) x y a b c d e = go (T (suc n)) refl (standing y (suc n)) (count_two T n x y a b)
  where
    go : (t : Bool) → T (suc n) ≡ t → Standing y (suc n) → (y ≤ n → T x ≡ true → T y ≡ true → 2 ≤ count T n) → 2 ≤ cond t (count T n + 1) (count T n)
    go true q s ih = omega (arith, count_some T n x a (omega arith) d)
    go false q (below h) ih = ih (omega arith) d e
    go false q (level h) ih = both (T (suc n)) (rw (← h) e) q
    go false q (over h) ih = absurd (omega arith)

pub count_one : (T : ℕ → Bool) (n y : ℕ) → ((x : ℕ) → 0 < x → x ≤ n → T x ≡ true → x ≡ y) → count T n ≤ 1
unfolding count
count_one T zero y h = omega arith
count_one T (suc n) y h = go (T (suc n)) refl (count_one T n y (λ x a b. h x a (omega arith)))
  where
    go : (t : Bool) → T (suc n) ≡ t → count T n ≤ 1 → cond t (count T n + 1) (count T n) ≤ 1
    go true q ih = omega (arith, count_none T n (λ x a b. untrue (T x) (λ e. clash x b (h x a (omega arith) e) (h (suc n) (omega arith) (omega arith) q))))
      where
        clash : (x : ℕ) → x ≤ n → x ≡ y → suc n ≡ y → ⊥
        clash x b p r = omega arith
    go false q ih = ih
