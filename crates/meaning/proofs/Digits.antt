-- Laws of runs of digits: which bytes they are, what they write, and how large it can be.
use Rattle.std.specs.Prelude.{Some, None}
use Prim.Native.Nat.{ℕ, suc, ◌+◌, ◌-◌, ◌*◌, ◌^◌, ◌≤◌, ◌<◌}
use native.Mathlib.Omega.{arith}
use native.Mathlib.Nat.{add_assoc, add-mul, mul_assoc, mul-one, mul-le-mul_right, lt_of_lt_of_le, zero-lt-suc, pow-succ', pow-le-pow_right}
use mathlib.Core.Path.{◌≡◌, refl, sym, ap, ◌∙◌}
use mathlib.Core.Logic.{◌↔◌}
use mathlib.Core.Bool.{Bool, true, false, cond}
use mathlib.Core.List.Memᴰ
use mathlib.Core.List.{List, [], ◌∷◌}
use lib.Dec.{leb, ltb}
use lib.ListN.{length}
use borrow.Author.Tests.{leb-true, le-leb, ltb-false, le-ltb}
use Rattle.meaning.specs.Forms.{is_digit, digits, sequence_text}
use Rattle.meaning.specs.Promises.{Each}
use Rattle.meaning.specs.Limits.{Digits, numeral}
use Rattle.meaning.proofs.ListLaws.{both, and_both}
use Rattle.meaning.proofs.Laws.{each_cons}

-- NoNumber is no number
pub none_is_no : {A : Type 0} (v : ℕ) → None ≡ Some v → A
none_is_no v z = let w : ◌≡◌ {A = ℕ} 0 1 = cc in absurd (omega arith)

abbrev pub IsDigit : ℕ → Type 0
IsDigit b = (48 ≤ b) × (b ≤ 57)

pub digit_is : (b : ℕ) → is_digit b ≡ true ↔ IsDigit b
unfolding is_digit
digit_is b = (
  λ e. let h = and_both (leb 48 b) (leb b 57) e in (leb-true 48 b h.0, leb-true b 57 h.1),
  λ h. rw (le-leb 48 b h.0, le-leb b 57 h.1),
)

pub digit_from : (b : ℕ) → is_digit b ≡ true → 48 ≤ b
digit_from b e = ((digit_is b).0 e).0

pub digit_small : (b : ℕ) → is_digit b ≡ true → b - 48 ≤ 9
digit_small b e = omega (arith, ((digit_is b).0 e).1)

below_step : (v n d p : ℕ) → d ≤ 9 → v < (n * 10 + d + 1) * p → v < (n + 1) * (10 * p)
below_step v n d p h g =
    let k : n * 10 + d + 1 ≤ (n + 1) * 10 = omega arith in
    rw (← mul_assoc (n + 1) 10 p) (lt_of_lt_of_le g (mul-le-mul_right p k))

-- The one fact over the digit count: what digits write is below ten to their number, counted from what stood before.
pub digits_below : (n v : ℕ) (l : List ℕ) → digits n l ≡ Some v → v < (n + 1) * 10 ^ length l
unfolding digits
digits_below n v [] e = let z : n ≡ v = cc in rw mul-one (omega arith)
digits_below n v (b ∷ r) e = go (is_digit b) refl (digits_below (n * 10 + (b - 48)) v r)
  where
    go : (t : Bool) → is_digit b ≡ t → (digits (n * 10 + (b - 48)) r ≡ Some v → v < (n * 10 + (b - 48) + 1) * 10 ^ length r)
        → v < (n + 1) * 10 ^ suc (length r)
    go true d ih = rw (pow-succ' 10 (length r)) (below_step v n (b - 48) (10 ^ length r) (digit_small b d) (ih (rw d at e)))
    go false d ih = none_is_no v (rw d at e)

pub zero_below : (v : ℕ) (l : List ℕ) → digits 0 l ≡ Some v → v < 10 ^ length l
zero_below v l e = omega (arith, digits_below 0 v l e)

-- one to nine digits that write a number
pub sequence_digits : (v : ℕ) (l : List ℕ) → sequence_text l ≡ Some v → (1 ≤ length l) × (length l ≤ 9) × (digits 0 l ≡ Some v)
unfolding sequence_text
sequence_digits v l e = go (ltb (length l) 1) (ltb 9 (length l)) refl refl
  where
    go : (x y : Bool) → ltb (length l) 1 ≡ x → ltb 9 (length l) ≡ y → (1 ≤ length l) × (length l ≤ 9) × (digits 0 l ≡ Some v)
    go true y p q = none_is_no v (rw p at e)
    go false true p q = none_is_no v (rw (p, q) at e)
    go false false p q = (ltb-false _ _ p, ltb-false _ _ q, rw (p, q) at e)

pub sequence_below : (v : ℕ) (l : List ℕ) → sequence_text l ≡ Some v → v < 10 ^ length l
sequence_below v l e = zero_below v l (sequence_digits v l e).2

-- ---- both ways

shifted : (k d p q : ℕ) → (k * 10 + d) * p + q ≡ k * (10 * p) + (d * p + q)
shifted k d p q = rw (add-mul (k * 10) d p, mul_assoc k 10 p, add_assoc (k * (10 * p)) (d * p) q)

-- digits are read exactly where each byte is one, as the number that they write behind those before
pub digits_write : (l : List ℕ) (k n : ℕ) → digits k l ≡ Some n ↔ Each IsDigit l × (n ≡ k * 10 ^ length l + numeral l)
unfolding digits numeral
digits_write [] k n = (λ e. (λ b m. absurd (Memᴰ.not-nil m), (let z : k ≡ n = cc in sym z ∙ sym (last k))), λ h. ap Some (sym (h.1 ∙ last k)))
  where
    last : (j : ℕ) → j * 10 ^ 0 + 0 ≡ j
    last j = omega arith
digits_write (b ∷ l) k n = go (is_digit b) refl (digits_write l (k * 10 + (b - 48)) n)
  where
    step : (k * 10 + (b - 48)) * 10 ^ length l + numeral l ≡ k * 10 ^ suc (length l) + ((b - 48) * 10 ^ length l + numeral l)
    step = rw (pow-succ' 10 (length l)) (shifted k (b - 48) (10 ^ length l) (numeral l))

    go : (t : Bool) → is_digit b ≡ t
        → digits (k * 10 + (b - 48)) l ≡ Some n ↔ Each IsDigit l × (n ≡ (k * 10 + (b - 48)) * 10 ^ length l + numeral l)
        → cond t (digits (k * 10 + (b - 48)) l) None ≡ Some n ↔ Each IsDigit (b ∷ l) × (n ≡ k * 10 ^ suc (length l) + ((b - 48) * 10 ^ length l + numeral l))
    go true d ih = (
      λ e. let h = ih.0 e in (each_cons IsDigit b l ((digit_is b).0 d) h.0, h.1 ∙ step),
      λ h. ih.1 (λ x m. h.0 x (Memᴰ.tail m), h.1 ∙ sym step),
    )
    go false d ih = (λ e. none_is_no n e, λ h. both _ ((digit_is b).1 (h.0 b (Memᴰ.head refl))) d)

-- one to nine digits
pub sequence_text_lem : (l : List ℕ) (n : ℕ) → sequence_text l ≡ Some n ↔ Digits 1 9 l × (n ≡ numeral l)
unfolding sequence_text
sequence_text_lem l n = (there, back)
  where
    there : sequence_text l ≡ Some n → Digits 1 9 l × (n ≡ numeral l)
    there e =
        let h = sequence_digits n l e in
        let w = (digits_write l 0 n).0 h.2 in
        (record { least = h.0; most = h.1; each = w.0 }, omega (arith, w.1))

    back : Digits 1 9 l × (n ≡ numeral l) → sequence_text l ≡ Some n
    back h = rw (le-ltb (length l) 1 h.0.least, le-ltb 9 (length l) h.0.most) ((digits_write l 0 n).1 (h.0.each, omega (arith, h.1)))

-- what so many digits write is below ten to their number
pub numeral_below : (l : List ℕ) (m : ℕ) → Each IsDigit l → length l ≤ m → numeral l < 10 ^ m
numeral_below l m each few = lt_of_lt_of_le (zero_below (numeral l) l ((digits_write l 0 (numeral l)).1 (each, omega arith))) (pow-le-pow_right {n = 10} (zero-lt-suc 9) few)
