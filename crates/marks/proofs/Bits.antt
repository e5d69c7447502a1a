-- Laws: one bit of a number set, and the marks after it.
use Prim.Native.Nat.{ℕ, zero, suc, ◌+◌, ◌-◌, ◌*◌, ◌/◌, ◌%◌, ◌^◌, ◌<◌, ◌≤◌}
use mathlib.Core.Path.{◌≡◌, refl, ap, ◌∙◌}
use mathlib.Core.List.{List}
use mathlib.Core.Bool.{Bool, true, false}
use native.Mathlib.Omega.{arith}
use native.Mathlib.Nat.{div-eq_of_lt, mod-lt, zero-div}
use borrow.Author.Tests.{ltb-true, ltb-false, eqb-true, eqb-false, eq-eqb}
use lib.Bits.{bit_or, or_shr, or_mod, or_zero_r, shifted_even}
use lib.Dec.{eqb, ltb}
use lib.ListN.{length, get_or, set, length-set, replicate, get_or-eq_default}
use lib.Pow.{pow-add, pow-lt, shl-shr, shl_exact}
use lib.Seq.{get_or-set_same, get_or-set_other}
use Rattle.marks.specs.Marks.{marked, OneMore}

-- a number's bit c
abbrev bit : ℕ → ℕ → ℕ
bit v c = v / 2 ^ c % 2

-- ---- the number that has only bit b

one_here : (b : ℕ) → bit (1 * 2 ^ b) b ≡ 1
one_here b = ap (λ n. n % 2) (shl-shr 1 b)

one_below : (b c : ℕ) → c < b → bit (1 * 2 ^ b) c ≡ 0
one_below b c h =
    let e : b ≡ suc (b - (c + 1)) + c = omega arith in
    let k = suc (b - (c + 1)) in
    ap (λ n. 1 * 2 ^ n / 2 ^ c % 2) e
    ∙ ap (λ n. n / 2 ^ c % 2) (ap (λ n. 1 * n) (pow-add 2 k c) ∙ omega arith)
    ∙ ap (λ n. n % 2) (shl-shr (1 * 2 ^ k) c)
    ∙ shifted_even 1 (b - (c + 1))

one_above : (b c : ℕ) → b < c → bit (1 * 2 ^ b) c ≡ 0
one_above b c h =
    let l : 1 * 2 ^ b < 2 ^ c = omega (arith, pow-lt h) in ap (λ n. n % 2) (div-eq_of_lt l)

-- ---- a number with bit b set

-- as the code has it: 1 shifted, in 16 bits
abbrev set_bit : ℕ → ℕ → ℕ
set_bit v b = bit_or v (1 * 2 ^ b % 2 ^ 16)

module _ (v b : ℕ) (h : b < 16) where
  set_any : (c : ℕ) → bit (set_bit v b) c ≡ bit_or (bit v c) (bit (1 * 2 ^ b) c)
  set_any c =
      let one : 1 < 2 ^ 1 = omega arith in
      ap (λ n. bit (bit_or v n) c) (shl_exact 1 b 16 one (omega arith))
      ∙ ap (λ n. n % 2) (or_shr v (1 * 2 ^ b) c)
      ∙ or_mod (v / 2 ^ c) (1 * 2 ^ b / 2 ^ c) 1

  set_here : bit (set_bit v b) b ≡ 1
  set_here = set_any b ∙ ap (bit_or (bit v b)) (one_here b) ∙ go (bit v b) (mod-lt (v / 2 ^ b) (omega arith))
    where
      go : (d : ℕ) → d < 2 → bit_or d 1 ≡ 1
      go zero l = refl
      go (suc zero) l = refl
      go (suc (suc d)) l = absurd (omega arith)

  set_other : (c : ℕ) → (c ≡ b → ⊥) → bit (set_bit v b) c ≡ bit v c
  set_other c n = set_any c ∙ ap (bit_or (bit v c)) (go (ltb c b) refl) ∙ or_zero_r (bit v c)
    where
      go : (t : Bool) → ltb c b ≡ t → bit (1 * 2 ^ b) c ≡ 0
      go true e = one_below b c (ltb-true c b e)
      go false e = one_above b c (omega (arith, ltb-false c b e))

-- ---- marks

pub blank_zeros : (n b r : ℕ) → marked (replicate n 0) b r ≡ false
unfolding marked
blank_zeros n b r = rw (zeros n r, zero-div)
  where
    zeros : (n k : ℕ) → ◌≡◌ {A = ℕ} (get_or (replicate n 0) k 0) 0
    zeros zero k = refl
    zeros (suc n) zero = refl
    zeros (suc n) (suc k) = zeros n k

-- past its end nothing is marked
pub unmarked_past : (m : List ℕ) (b r : ℕ) → length m ≤ r → marked m b r ≡ false
unfolding marked
unmarked_past m b r h = rw (get_or-eq_default m 0 h, zero-div)

module _ (m : List ℕ) (b r : ℕ) where
  pub one_more : b < 16 → r < length m → OneMore m (set m r (set_bit (get_or m r 0) b)) b r
  unfolding marked
  one_more h inside = record {
    size = simp length-set;
    here = λ l. rw get_or-set_same (eq-eqb _ 1 (set_here (get_or m r 0) b h));
    other = λ c q n. go c q n (eqb q r) refl;
  }
    where
      go : (c q : ℕ) → (c ≡ b → q ≡ r → ⊥) → (t : Bool) → eqb q r ≡ t → eqb (bit (get_or (set m r (set_bit (get_or m r 0) b)) q 0) c) 1 ≡ eqb (bit (get_or m q 0) c) 1
      go c q n true e =
          let is : q ≡ r = eqb-true q r e in
          rw (is, get_or-set_same) (ap (λ d. eqb d 1) (set_other (get_or m r 0) b h c (λ k. n k is)))
      go c q n false e = rw (get_or-set_other m r q (set_bit (get_or m r 0) b) 0 (eqb-false q r e))

  pub none_more : length m ≤ r → OneMore m m b r
  none_more past = record { size = refl; here = λ l. absurd (omega arith); other = λ c q n. refl }
