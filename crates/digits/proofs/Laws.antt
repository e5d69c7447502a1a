-- Laws of runs of digits, over lists and numbers. Assumes nothing.
use Rattle.std.specs.Prelude.{Option, Some, None}
use Rattle.std.specs.Char.{is_ascii_digit}
use mathlib.Core.Path.{◌≡◌, refl, sym, ap, ◌∙◌}
use mathlib.Core.Bool.{Bool, true, false, cond, not, ◌||◌}
use mathlib.Core.List.{List, [], ◌∷◌, ◌++◌}
use Prim.Native.Nat.{ℕ, suc, ◌+◌, ◌-◌, ◌*◌, ◌/◌, ◌^◌, ◌≤◌, ◌<◌}
use native.Mathlib.Numerals.{add-one}
use native.Mathlib.Omega.{arith}
use native.Mathlib.Nat.{add-zero, zero-add, pow-succ', pow-le-pow_right, one-le-pow, mul_assoc, mul_left_comm, add-mul, mul_right_comm, mul-le-mul_right, lt_of_lt_of_le, zero-lt-suc, mul-one, mul-add-div_right, div-eq_of_lt, div-eq_of_eq-mul_right, div-div-eq-div-mul, mul-div-mul_right}
use lib.Pow.{pow-add}
use lib.Dec.{eqb, ltb}
use lib.ListN.{length, get_or, drop}
use borrow.Author.Tests.{ltb-true, ltb-false, eqb-true, eqb-false, lt-ltb, le-ltb, eq-eqb, ne_eqb}
use Rattle.meaning.specs.Forms.{is_digit, digits, sequence_text, with_number}
pub use Rattle.meaning.proofs.Digits.{none_is_no, digit_from, digit_small, digits_below, zero_below, sequence_digits, sequence_below}
use Rattle.text.proofs.Laws.{drop_next, drop_over}
use Rattle.digits.specs.Decimals.{decimals_of}

-- std's test of a digit is the forms' own
pub ascii_is : (b : ℕ) (r t : Bool) → r ≡ is_ascii_digit b → r ≡ t → is_digit b ≡ t
unfolding is_digit
ascii_is b r t e f = sym e ∙ f

-- one turn along a run of digits
module _ (s : List ℕ) (i n : ℕ) (k : Option ℕ) (more : i < length s) (inv : digits n (drop i s) ≡ k) where
  pub digits_stop : is_digit (get_or s i 0) ≡ false → None ≡ k
  unfolding digits
  digits_stop h = rw (drop_next s i more, h) at inv

  pub digits_turn : is_digit (get_or s i 0) ≡ true → digits (n * 10 + (get_or s i 0 - 48)) (drop (i + 1) s) ≡ k
  unfolding digits
  digits_turn h = rw (drop_next s i more, h) at inv

pub digits_end : (s : List ℕ) (i n : ℕ) (k : Option ℕ) → length s ≤ i → digits n (drop i s) ≡ k → Some n ≡ k
unfolding digits
digits_end s i n k h inv = rw (drop_over s i h) at inv

-- powers of ten
pub ten : (i : ℕ) → 10 ^ (i + 1) ≡ 10 * 10 ^ i
ten i = rw (add-one, pow-succ')

pub ten_up : (i j : ℕ) → i ≤ j → 10 ^ i ≤ 10 ^ j
ten_up i j h = pow-le-pow_right {n = 10} (zero-lt-suc 9) h

pub ten_turn : (i n d : ℕ) → n < 10 ^ i → d ≤ 9 → n * 10 + d < 10 ^ (i + 1)
ten_turn i n d h g = omega (arith, ten i)

pub ten_fits : (i n d : ℕ) → i < 9 → n < 10 ^ i → d ≤ 9 → n * 10 + d < 1000000000
ten_fits i n d h g k = lt_of_lt_of_le (ten_turn i n d g k) (ten_up (i + 1) 9 (omega arith))

-- one to nine digits
pub sequence_short : (l : List ℕ) → length l < 1 → None ≡ sequence_text l
unfolding sequence_text
sequence_short l h = rw (lt-ltb _ _ h)

pub filled : (l : List ℕ) → eqb (length l) 0 ≡ false → 1 ≤ length l
filled l e = omega (arith, eqb-false (length l) 0 e)

pub sequence_long : (l : List ℕ) → 9 < length l → None ≡ sequence_text l
unfolding sequence_text
sequence_long l h = rw (le-ltb (length l) 1 (omega arith), lt-ltb _ _ h)

pub sequence_is : (l : List ℕ) → 1 ≤ length l → length l ≤ 9 → digits 0 l ≡ sequence_text l
unfolding sequence_text
sequence_is l h g = rw (le-ltb _ _ h, le-ltb _ _ g)

pub sequence_fits : (v : ℕ) (l : List ℕ) → sequence_text l ≡ Some v → v < 1000000000
sequence_fits v l e = lt_of_lt_of_le (sequence_below v l e) (ten_up (length l) 9 (sequence_digits v l e).1)

-- the whole contract of `number`
pub numbered : (v : List ℕ) (r : Option ℕ) → r ≡ sequence_text v
    → (r ≡ sequence_text v) × ((n : ℕ) → r ≡ Some n → n < 10 ^ length v) × ((n : ℕ) → r ≡ Some n → n < 1000000000)
numbered v r e = (e, λ n q. sequence_below n v (sym e ∙ q), λ n q. sequence_fits n v (sym e ∙ q))

-- digits behind digits
pub digits_join : (n : ℕ) (a b : List ℕ) → digits n (a ++ b) ≡ with_number None (digits n a) (λ m. digits m b)
unfolding digits
digits_join n [] b = refl
digits_join n (x ∷ a) b = go (is_digit x) refl (digits_join (n * 10 + (x - 48)) a b)
  where
    go : (t : Bool) → is_digit x ≡ t
        → digits (n * 10 + (x - 48)) (a ++ b) ≡ with_number None (digits (n * 10 + (x - 48)) a) (λ m. digits m b)
        → digits n (x ∷ (a ++ b)) ≡ with_number None (digits n (x ∷ a)) (λ m. digits m b)
    go true d ih = rw d ih
    go false d ih = rw d

-- what stood before digits counts for ten to their number
pub digits_shift : (m p n : ℕ) (l : List ℕ) → digits (m * p + n) l ≡ with_number None (digits n l) (λ t. Some (m * (p * 10 ^ length l) + t))
unfolding digits
digits_shift m p n [] = rw (mul-one p)
digits_shift m p n (b ∷ r) = go (is_digit b) refl (digits_shift m (p * 10) (n * 10 + (b - 48)) r)
  where
    next : (m * p + n) * 10 + (b - 48) ≡ m * (p * 10) + (n * 10 + (b - 48))
    next = rw (← mul_assoc m p 10) (omega arith)

    go : (t : Bool) → is_digit b ≡ t
        → digits (m * (p * 10) + (n * 10 + (b - 48))) r ≡ with_number None (digits (n * 10 + (b - 48)) r) (λ t. Some (m * (p * 10 * 10 ^ length r) + t))
        → digits (m * p + n) (b ∷ r) ≡ with_number None (digits n (b ∷ r)) (λ t. Some (m * (p * 10 ^ suc (length r)) + t))
    go true d ih = rw (d, next, pow-succ' 10 (length r), ← mul_assoc p 10 (10 ^ length r)) ih
    go false d ih = rw d

pub digits_from : (w : ℕ) (l : List ℕ) → digits w l ≡ with_number None (digits 0 l) (λ t. Some (w * 10 ^ length l + t))
digits_from w l =
    let e : w * 1 + 0 ≡ w = omega arith in
    let q : 1 * 10 ^ length l ≡ 10 ^ length l = omega arith in
    rw (e, q) at (digits_shift w 1 0 l)

-- decimals as the code keeps them: the unit of the next digit, the ten-millionths so far, and whether one of them wasn't 0
unfoldable pub keeping : ℕ → ℕ → Bool → List ℕ → Option (ℕ × Bool)
keeping u n some [] = Some (n, some)
keeping u n some (b ∷ r) =
    let k = keeping (u / 10) (n + (b - 48) * u) (some || not (eqb b 48)) r in
    cond (is_digit b) k None

times : (k p u : ℕ) → 1000000 ≡ p * u → k * 1000000 ≡ p * (k * u)
times k p u e = ap (λ x. k * x) e ∙ mul_left_comm k p u

module _ (p t d : ℕ) (some : 0 < p) where
  -- a digit up to the seventh
  near : (u : ℕ) → 1000000 ≡ p * u → t * 10000000 / p + d * (1000000 / p) ≡ (t * 10 + d) * 10000000 / (10 * p)
  near u e =
      let a : 1000000 / p ≡ u = div-eq_of_eq-mul_right some e in
      let f : t * 10000000 ≡ p * (t * 10 * u) = omega (arith, times (t * 10) p u e) in
      let b : t * 10000000 / p ≡ t * 10 * u = div-eq_of_eq-mul_right some f in
      let g : (t * 10 + d) * 10000000 ≡ 10 * p * ((t * 10 + d) * u) =
      rw mul_assoc (omega (arith, times (t * 10 + d) p u e)) in
      let c : (t * 10 + d) * 10000000 / (10 * p) ≡ (t * 10 + d) * u = div-eq_of_eq-mul_right (omega arith) g in
      rw (a, b, c, add-mul)

  -- a digit past it
  far : (q : ℕ) → 0 < q → d ≤ 9 → p ≡ q * 10000000 → t * 10000000 / p + d * (1000000 / p) ≡ (t * 10 + d) * 10000000 / (10 * p)
  far q h s e =
      let a : 1000000 / p ≡ 0 = div-eq_of_lt (omega arith) in
      let b : t * 10000000 / p ≡ t / q = rw e (mul-div-mul_right {m = 10000000} t q (omega arith)) in
      let g : (t * 10 + d) / 10 ≡ t = omega arith in
      let c : (t * 10 + d) * 10000000 / (10 * p) ≡ t / q =
      rw (e, ← mul_assoc 10 q 10000000, mul-div-mul_right {m = 10000000} (t * 10 + d) (10 * q) (omega arith), ← div-div-eq-div-mul (t * 10 + d) 10 q, g) in
      rw (a, b, c) (omega arith)

-- a power of ten is not 0
pub ten_some : (i : ℕ) → 0 < 10 ^ i
ten_some i = one-le-pow i 10 (omega arith)

-- one more digit behind the point
kept_next : (i t d : ℕ) → d ≤ 9 → t * 10000000 / 10 ^ i + d * (1000000 / 10 ^ i) ≡ (t * 10 + d) * 10000000 / 10 ^ (i + 1)
kept_next i t d h = rw (ten i) (go (ltb i 7) refl)
  where
    go : (x : Bool) → ltb i 7 ≡ x → t * 10000000 / 10 ^ i + d * (1000000 / 10 ^ i) ≡ (t * 10 + d) * 10000000 / (10 * 10 ^ i)
    go true e =
        let k : i + (6 - i) ≡ 6 = omega (arith, ltb-true i 7 e) in
        near (10 ^ i) t d (ten_some i) (10 ^ (6 - i)) (sym (ap (λ j. 10 ^ j) k) ∙ pow-add 10 i (6 - i))
    go false e =
        let k : i ≡ i - 7 + 7 = omega (arith, ltb-false i 7 e) in
        far (10 ^ i) t d (ten_some i) (10 ^ (i - 7)) (ten_some (i - 7)) h (ap (λ j. 10 ^ j) k ∙ pow-add 10 (i - 7) 7)

unit_next : (i : ℕ) → 1000000 / 10 ^ i / 10 ≡ 1000000 / 10 ^ (i + 1)
unit_next i = div-div-eq-div-mul 1000000 (10 ^ i) 10 ∙ ap (λ x. 1000000 / x) (omega (arith, ten i))

some_next : (t b : ℕ) → 48 ≤ b → (not (eqb t 0) || not (eqb b 48)) ≡ not (eqb (t * 10 + (b - 48)) 0)
some_next t b h = go (eqb t 0) (eqb b 48) refl refl
  where
    go : (x y : Bool) → eqb t 0 ≡ x → eqb b 48 ≡ y → (not x || not y) ≡ not (eqb (t * 10 + (b - 48)) 0)
    go true true p q = rw (eq-eqb (t * 10 + (b - 48)) 0 (omega (arith, eqb-true t 0 p, eqb-true b 48 q)))
    go true false p q = rw (ne_eqb (t * 10 + (b - 48)) 0 (λ z. eqb-false b 48 q (omega arith)))
    go false y p q = rw (ne_eqb (t * 10 + (b - 48)) 0 (λ z. eqb-false t 0 p (omega arith)))

-- what the code keeps is what decimals write
pub keeping_is : (i t : ℕ) (l : List ℕ) → keeping (1000000 / 10 ^ i) (t * 10000000 / 10 ^ i) (not (eqb t 0)) l
    ≡ with_number None (digits t l) (λ m. Some (m * 10000000 / 10 ^ (i + length l), not (eqb m 0)))
unfolding keeping digits
keeping_is i t [] = rw (add-zero i)
keeping_is i t (b ∷ r) = go (is_digit b) refl (keeping_is (i + 1) (t * 10 + (b - 48)) r)
  where
    long : i + 1 + length r ≡ i + suc (length r)
    long = omega arith

    go : (x : Bool) → is_digit b ≡ x
        → keeping (1000000 / 10 ^ (i + 1)) ((t * 10 + (b - 48)) * 10000000 / 10 ^ (i + 1)) (not (eqb (t * 10 + (b - 48)) 0)) r
        ≡ with_number None (digits (t * 10 + (b - 48)) r) (λ m. Some (m * 10000000 / 10 ^ (i + 1 + length r), not (eqb m 0)))
        → keeping (1000000 / 10 ^ i) (t * 10000000 / 10 ^ i) (not (eqb t 0)) (b ∷ r)
        ≡ with_number None (digits t (b ∷ r)) (λ m. Some (m * 10000000 / 10 ^ (i + suc (length r)), not (eqb m 0)))
    go true d ih =
        rw (d, unit_next i, kept_next i t (b - 48) (digit_small b d), some_next t b (digit_from b d), ← long) ih
    go false d ih = rw d

pub decimals_start : (v : List ℕ) → keeping 1000000 0 false v ≡ decimals_of v
unfolding decimals_of
decimals_start v = keeping_is 0 0 v ∙ rw (zero-add (length v))

-- one turn along decimals
module _ (s : List ℕ) (i u n : ℕ) (t : Bool) (k : Option (ℕ × Bool)) (more : i < length s) (inv : keeping u n t (drop i s) ≡ k) where
  pub kept_stop : is_digit (get_or s i 0) ≡ false → None ≡ k
  unfolding keeping
  kept_stop h = rw (drop_next s i more, h) at inv

  pub kept_turn : is_digit (get_or s i 0) ≡ true → (x : Bool) → x ≡ (t || not (eqb (get_or s i 0) 48))
      → keeping (u / 10) (n + (get_or s i 0 - 48) * u) x (drop (i + 1) s) ≡ k
  unfolding keeping
  kept_turn h x e = rw e (rw (drop_next s i more, h) at inv)

pub kept_end : (s : List ℕ) (i u n : ℕ) (t : Bool) (k : Option (ℕ × Bool)) → length s ≤ i → keeping u n t (drop i s) ≡ k → Some (n, t) ≡ k
unfolding keeping
kept_end s i u n t k h inv = rw (drop_over s i h) at inv

-- ten of the next unit always have room
module _ (n u d : ℕ) (room : n + 10 * u ≤ 10000000) (small : n < 10000000) (digit : d ≤ 9) where
  pub unit_room : n + d * u + 10 * (u / 10) ≤ 10000000
  unit_room = omega (arith, mul-le-mul_right u digit)

  pub unit_small : n + d * u < 10000000
  unit_small = omega (arith, mul-le-mul_right u digit)

  pub unit_fits : d * u ≤ 10000000
  unit_fits = omega (arith, mul-le-mul_right u digit)

pub no_decimal : {A : Type 0} (n : ℕ) (t : Bool) → ◌≡◌ {A = Option (ℕ × Bool)} None (Some (n, t)) → A
no_decimal n t z = let w : ◌≡◌ {A = ℕ} 0 1 = cc in absurd (omega arith)

pub kept_is : (m n : ℕ) (x t : Bool) → m < 10000000 → ◌≡◌ {A = Option (ℕ × Bool)} (Some (m, x)) (Some (n, t)) → n < 10000000
kept_is m n x t h e =
    let p : ◌≡◌ {A = ℕ × Bool} (m, x) (n, t) = cc in
    let z : m ≡ n = ap (λ q. q.0) p in
    omega arith

-- a whole number before the point counts for itself
pub scale_whole : (w t q : ℕ) → 0 < q → (w * q + t) * 10000000 / q ≡ w * 10000000 + t * 10000000 / q
scale_whole w t q h =
    let e : (w * q + t) * 10000000 ≡ w * 10000000 * q + t * 10000000 = rw (mul_right_comm w 10000000 q) (omega arith) in
    rw e (mul-add-div_right h (w * 10000000) (t * 10000000))

-- a number with decimals against a limit: the whole number decides, and at the limit itself whether a decimal isn't 0
module _ (limit w t q : ℕ) (part : t < q) where
  pub under_limit : w < limit → w * q + t ≤ limit * q
  under_limit h =
      let k : w + 1 ≤ limit = omega arith in
      omega (arith, mul-le-mul_right q k, add-mul w 1 q)

  pub over_limit : limit < w → limit * q < w * q + t
  over_limit h =
      let k : limit + 1 ≤ w = omega arith in
      omega (arith, mul-le-mul_right q k, add-mul limit 1 q)

  pub at_limit : w ≡ limit → t ≡ 0 → w * q + t ≤ limit * q
  at_limit e f = rw (e, f) (omega arith)

  pub past_limit : w ≡ limit → (t ≡ 0 → ⊥) → limit * q < w * q + t
  past_limit e f = rw e (omega arith)
