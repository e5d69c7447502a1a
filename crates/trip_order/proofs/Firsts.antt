-- The line that no other of its trip comes before.
use Prim.Native.Nat.{ℕ, ◌≤◌, ◌<◌}
use native.Mathlib.Omega.{arith}
use mathlib.Core.Path.{◌≡◌, sym}
use mathlib.Core.Bool.{Bool, true, false, not, ◌&&◌, ◌||◌}
use mathlib.Core.Logic.{◌⊎◌, inl, inr}
use lib.Dec.{eqb, ltb}
use borrow.Author.Tests.{lt-ltb, le-ltb, eq-eqb, ne_eqb, not-true}
use Rattle.meaning.specs.Lists.{some}
use Rattle.meaning.proofs.ListLaws.{both, and_both}
use Rattle.trip_order.specs.Lines.{Lines, ahead, beyond}
use Rattle.meaning.proofs.Tests.{agree, or_right, untrue, Found, some_found, found_some, Standing, below, level, over, standing}

-- ---- over any relation

module _ (R : ℕ → ℕ → Bool) (T Q : ℕ → Bool) (n y : ℕ) (low : 0 < y) (high : y ≤ n) (own : T y ≡ true)
    (best : (x : ℕ) → 0 < x → x ≤ n → T x ≡ true → (R x y ≡ false) × ((R y x ≡ true) ⊎ (x ≡ y))) where
  free : ℕ → Bool
  free x = T x && not (some (λ z. T z && R z x) 1 n)

  best_free : (T y && not (some (λ z. T z && R z y) 1 n)) ≡ true
  best_free = let e : some (λ z. T z && R z y) 1 n ≡ false = untrue (some (λ z. T z && R z y) 1 n) (λ q. none (some_found (λ z. T z && R z y) 1 n q)) in rw (own, e)
    where
      none : Found (λ z. T z && R z y) 1 n → ⊥
      none w =
          let b = and_both (T w.place) (R w.place y) w.is in
          both (R w.place y) b.1 (best w.place w.low (omega (arith, w.high)) b.0).0

  free_best : (x : ℕ) → 0 < x → x ≤ n → (T x && not (some (λ z. T z && R z x) 1 n)) ≡ true → x ≡ y
  free_best x a b e = let d = and_both (T x) (not (some (λ z. T z && R z x) 1 n)) e in go (best x a b d.0).1 (not-true (some (λ z. T z && R z x) 1 n) d.1)
    where
      go : (R y x ≡ true) ⊎ (x ≡ y) → some (λ z. T z && R z x) 1 n ≡ false → x ≡ y
      go (inl r) q = both (some (λ z. T z && R z x) 1 n) (found_some (λ z. T z && R z x) 1 n y low (omega arith) (rw (own, r))) q
      go (inr r) q = r

  pub best_only : some (λ x. (T x && not (some (λ z. T z && R z x) 1 n)) && Q x) 1 n ≡ Q y
  best_only = agree (some P 1 n) (Q y) there back
    where
      P : ℕ → Bool
      P x = (T x && not (some (λ z. T z && R z x) 1 n)) && Q x

      there : some P 1 n ≡ true → Q y ≡ true
      there e =
          let w = some_found P 1 n e in
          let b = and_both (T w.place && not (some (λ z. T z && R z w.place) 1 n)) (Q w.place) w.is in
          let i = free_best w.place w.low (omega (arith, w.high)) b.0 in
          rw i at b.1

      back : Q y ≡ true → some P 1 n ≡ true
      back e = found_some P 1 n y low (omega arith) (rw (best_free, e))

-- ---- by sequence, then by line

module _ (L : Lines) (y x : ℕ) where
  pub ahead_yes : L.seq y ≤ L.seq x → (L.seq y ≡ L.seq x → y < x) → ahead L y x ≡ true
  unfolding ahead
  ahead_yes h t = go (standing (L.seq y) (L.seq x))
    where
      go : Standing (L.seq y) (L.seq x) → (ltb (L.seq y) (L.seq x) || (eqb (L.seq y) (L.seq x) && ltb y x)) ≡ true
      go (below l) = rw (lt-ltb (L.seq y) (L.seq x) l)
      go (level e) = or_right (ltb (L.seq y) (L.seq x)) (eqb (L.seq y) (L.seq x) && ltb y x) (rw (eq-eqb (L.seq y) (L.seq x) e, lt-ltb y x (t e)))
      go (over l) = absurd (omega arith)

  pub ahead_no : L.seq x ≤ L.seq y → (L.seq y ≡ L.seq x → x ≤ y) → ahead L y x ≡ false
  unfolding ahead
  ahead_no h t = go (standing (L.seq y) (L.seq x))
    where
      go : Standing (L.seq y) (L.seq x) → (ltb (L.seq y) (L.seq x) || (eqb (L.seq y) (L.seq x) && ltb y x)) ≡ false
      go (below l) = absurd (omega arith)
      go (level e) = rw (le-ltb (L.seq y) (L.seq x) h, eq-eqb (L.seq y) (L.seq x) e, le-ltb y x (t e))
      go (over l) = rw (le-ltb (L.seq y) (L.seq x) h, ne_eqb (L.seq y) (L.seq x) (λ e. omega arith))

  pub beyond_yes : L.seq x ≤ L.seq y → (L.seq y ≡ L.seq x → y < x) → beyond L y x ≡ true
  unfolding beyond
  beyond_yes h t = go (standing (L.seq x) (L.seq y))
    where
      go : Standing (L.seq x) (L.seq y) → (ltb (L.seq x) (L.seq y) || (eqb (L.seq y) (L.seq x) && ltb y x)) ≡ true
      go (below l) = rw (lt-ltb (L.seq x) (L.seq y) l)
      go (level e) = or_right (ltb (L.seq x) (L.seq y)) (eqb (L.seq y) (L.seq x) && ltb y x) (rw (eq-eqb (L.seq y) (L.seq x) (sym e), lt-ltb y x (t (sym e))))
      go (over l) = absurd (omega arith)

  pub beyond_no : L.seq y ≤ L.seq x → (L.seq y ≡ L.seq x → x ≤ y) → beyond L y x ≡ false
  unfolding beyond
  beyond_no h t = go (standing (L.seq x) (L.seq y))
    where
      go : Standing (L.seq x) (L.seq y) → (ltb (L.seq x) (L.seq y) || (eqb (L.seq y) (L.seq x) && ltb y x)) ≡ false
      go (below l) = absurd (omega arith)
      go (level e) = rw (le-ltb (L.seq x) (L.seq y) h, eq-eqb (L.seq y) (L.seq x) (sym e), le-ltb y x (t (sym e)))
      go (over l) = rw (le-ltb (L.seq x) (L.seq y) h, ne_eqb (L.seq y) (L.seq x) (λ e. omega arith))
