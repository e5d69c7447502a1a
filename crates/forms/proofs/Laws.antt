-- Laws of value forms, over lists and numbers. Assumes nothing.
use Rattle.std.specs.Prelude.{Option, Some, None, MatchOption, unwrap_or}
use Rattle.std.specs.Bool.{then_some}
use Rattle.std.specs.List.{AllWithin, HoldsAt}
use Rattle.std.proofs.lemmas.Iterator.{index_from_first}
use mathlib.Core.Path.{◌≡◌, refl, sym, ap, subst, ◌∙◌}
use mathlib.Core.Bool.{Bool, true, false, cond, not, ◌&&◌}
use mathlib.Core.List.{List, [], ◌∷◌, ◌++◌}
use Prim.Native.Nat.{ℕ, zero, suc, ◌+◌, ◌-◌, ◌*◌, ◌/◌, ◌^◌, ◌≤◌, ◌<◌}
use native.Mathlib.Omega.{arith}
use native.Mathlib.Nat.{lt_of_lt_of_le, mul_left_comm, mul_assoc, mul-le-mul_right, div-le_of_le-mul}
use lib.Dec.{eqb, leb, ltb}
use lib.ListN.{length, get_or, take, drop, length-take, length-drop, get_or-eq_default}
use lib.Seq.{length-take-le, take-length}
use lib.IntN.{ℤ, pos, neg_ℤ, nat_abs, ◌-ℤ◌, +ℤ_idl}
use lib.Signed.{mag}
use mir.Syntax.{w32}
use mir.Val.{SFits, to_z, of_z, hbits}
use mir.Facts.{to_z_pos, to_z-of_z}
use borrow.Author.Tests.{ltb-true, ltb-false, leb-true, leb-false, eqb-true, eqb-false, le-leb, lt-leb, eq-eqb, ne_eqb}
use Rattle.meaning.specs.declared.Time.{Time}
use Rattle.meaning.specs.declared.Time.TheVariants.{Seconds, Untimed, NoTime}
use Rattle.meaning.specs.Lists.{same}
use Rattle.meaning.specs.Bytes.{content, value}
use Rattle.meaning.specs.Forms.{digits, with_number, sequence_text, clock_of, clock, time_text, is_day, date_text, no_mark, formed, to_point, pointed, whole_digits, tail_digits, signed, scaled, size_text, degrees_text, digit_text, route_type_text}
use Rattle.meaning.proofs.Times.{not_seconds, not_day}
use Rattle.meaning.proofs.Forms.{not_picked}
use Rattle.meaning.proofs.Coordinates.{not_degrees, point_within}
use Rattle.digits.specs.Decimals.{decimals_of}
use Rattle.text.proofs.Laws.{drop_over, same_no}
use Rattle.text.proofs.Values.{value_mark, value_clean}
use Rattle.digits.proofs.Laws.{sequence_is, sequence_below, sequence_fits, zero_below, ten_up, ten_some, digits_join, digits_from, scale_whole, under_limit, over_limit, at_limit, past_limit}
use Rattle.forms.specs.Bounds.{TimeFits, DateFits, DegreesFits, ChoiceFits, NumberFits}
use Rattle.forms.specs.Parts.{pointed_at, beyond, with_decimal, sized}

-- none either way is none
pub either : {A : Type 0} (t : Bool) (none : A) → cond t none none ≡ none
either true none = refl
either false none = refl

-- `then_some` as a choice
pub chosen : {A : Type 0} (b : Bool) (x : A) → then_some b x ≡ cond b (Some x) None
chosen true x = refl
chosen false x = refl

-- what is left of a list, as a part up to its end
pub take_rest : (v : List ℕ) (k : ℕ) → take (length v - k) (drop k v) ≡ drop k v
take_rest v k = rw (← length-drop k v) (take-length (drop k v))

-- behind the end stands nothing
pub no_rest : (v : List ℕ) (p : ℕ) → length v ≤ p → take (length v - p) (drop p v) ≡ drop (p + 1) v
no_rest v p h = take_rest v p ∙ drop_over v p h ∙ sym (drop_over v (p + 1) (omega arith))

-- two digits write less than a hundred
pub two_below : (l : List ℕ) (n : ℕ) → length l ≤ 2 → sequence_text l ≡ Some n → n < 100
two_below l n h e = lt_of_lt_of_le (sequence_below n l e) (ten_up (length l) 2 h)

pub take_two : (v : List ℕ) (k : ℕ) → k ≤ 2 → length (take k v) ≤ 2
take_two v k h = simp length-take (omega arith)

pub hours_below : (v : List ℕ) (k : ℕ) → k ≤ 2 → (n : ℕ) → sequence_text (take k v) ≡ Some n → n < 100
hours_below v k h n e = two_below (take k v) n (take_two v k h) e

pub clock_join : (v : List ℕ) (k : ℕ) (h m x : Option ℕ) (b : Bool) (r : Time) → h ≡ sequence_text (take k v)
    → m ≡ sequence_text (take (k + 3 - (k + 1)) (drop (k + 1) v)) → length v ≡ k + 6 → x ≡ sequence_text (take (length v - (k + 4)) (drop (k + 4) v))
    → b ≡ (eqb (get_or v k 0) 58 && eqb (get_or v (k + 3) 0) 58) → r ≡ clock_of b h m x → r ≡ clock k v
unfolding clock
clock_join v k h m x b r p q long t u w =
    let e : k + 3 - (k + 1) ≡ 2 = omega arith in
    let d : length v - (k + 4) ≡ 2 = omega arith in
    cc

-- what stands before the first point, by std's search for it
pub point_is : (v : List ℕ) (r : Option ℕ)
    → MatchOption r (AllWithin (λ x. x ≡ 46 → ⊥) v 0 (length v)) (λ i. (i < length v) × HoldsAt (λ x. x ≡ 46) v i × AllWithin (λ x. x ≡ 46 → ⊥) v 0 i)
    → to_point v ≡ unwrap_or r (length v)
unfolding to_point
point_is v r h =
    index_from_first to_point (λ x. x ≡ 46) (λ x. x ≡ 46 → ⊥) refl (λ x xs e. rw (eq-eqb x 46 e)) (λ x xs e. rw (ne_eqb x 46 e)) v r h

-- a size with its sign
pub zero_minus : (z : ℤ) → pos 0 -ℤ z ≡ neg_ℤ z
zero_minus z = +ℤ_idl (neg_ℤ z)

neg_fits : (m : ℕ) → m < 2147483648 → mag (neg_ℤ (pos m)) < 2 ^ hbits w32
neg_fits zero h = omega arith
neg_fits (suc m) h = omega arith

module _ (m : ℕ) (small : m < 2147483648) where
  pub plain_is : to_z w32 m ≡ pos m
  plain_is = to_z_pos w32 (omega arith)

  pub minus_fits : SFits w32 (pos 0 -ℤ to_z w32 m)
  minus_fits = record { sfits = rw (plain_is, zero_minus (pos m)) (neg_fits m small) }

  pub minus_is : to_z w32 (of_z w32 (pos 0 -ℤ to_z w32 m)) ≡ neg_ℤ (pos m)
  minus_is = to_z-of_z minus_fits ∙ ap (λ (z : ℤ). pos 0 -ℤ z) plain_is ∙ zero_minus (pos m)

pub within_limit : (limit w : ℕ) (some r : Bool) → r ≡ beyond limit w some → r ≡ false → w ≤ limit
unfolding beyond
within_limit limit w some r e f = go (eqb w limit) refl (sym e ∙ f)
  where
    go : (x : Bool) → eqb w limit ≡ x → cond x some (ltb limit w) ≡ false → w ≤ limit
    go true p q = omega (arith, eqb-true w limit p)
    go false p q = ltb-false limit w q

-- The range is tested over all digits, and then those past the seventh are dropped.
pub scaled_is : (limit w t d : ℕ) (below : Bool) → t < 10 ^ d
    → cond (beyond limit w (not (eqb t 0))) None (Some (signed below (w * 10000000 + t * 10000000 / 10 ^ d)))
    ≡ scaled limit below (w * 10 ^ d + t) d
unfolding scaled beyond
scaled_is limit w t d below h = rw (scale_whole w t (10 ^ d) (ten_some d)) (go (eqb w limit) (eqb t 0) (ltb limit w) refl refl refl)
  where
    z : Option ℤ
    z = Some (signed below (w * 10000000 + t * 10000000 / 10 ^ d))

    go : (x y u : Bool) → eqb w limit ≡ x → eqb t 0 ≡ y → ltb limit w ≡ u
        → cond (cond x (not y) u) None z ≡ cond (leb (w * 10 ^ d + t) (limit * 10 ^ d)) z None
    go true true u e f g = rw (le-leb _ _ (at_limit limit w t (10 ^ d) h (eqb-true _ _ e) (eqb-true _ _ f)))
    go true false u e f g = rw (lt-leb _ _ (past_limit limit w t (10 ^ d) h (eqb-true _ _ e) (eqb-false _ _ f)))
    go false y true e f g = rw (lt-leb _ _ (over_limit limit w t (10 ^ d) h (ltb-true _ _ g)))
    go false y false e f g =
        let n : w < limit = omega (arith, ltb-false limit w g, eqb-false w limit e) in
        rw (le-leb _ _ (under_limit limit w t (10 ^ d) h n))

-- whole degrees and decimals, read one after the other, are the digits read together
pub sized_is : (limit : ℕ) (below : Bool) (a b : List ℕ) → 1 ≤ length a → length a ≤ 9
    → sized limit below (sequence_text a) (decimals_of b) ≡ with_number None (digits 0 (a ++ b)) (λ n. scaled limit below n (length b))
unfolding sized decimals_of
sized_is limit below a b h g = rw (← sequence_is a h g, digits_join 0 a b) (whole (digits 0 a))
  where
    tail : (w : ℕ) (k : Option ℕ) → digits 0 b ≡ k
        → with_decimal (with_number None k (λ t. Some (t * 10000000 / 10 ^ length b, not (eqb t 0))))
        (λ n some. cond (beyond limit w some) None (Some (signed below (w * 10000000 + n))))
        ≡ with_number None (with_number None k (λ t. Some (w * 10 ^ length b + t))) (λ n. scaled limit below n (length b))
    tail w (Some t) e = scaled_is limit w t (length b) below (zero_below t b e)
    tail w None e = refl

    whole : (k : Option ℕ)
        → with_number None k
        (λ w. with_decimal (decimals_of b)
        (λ n some. cond (beyond limit w some) None (Some (signed below (w * 10000000 + n)))))
        ≡ with_number None (with_number None k (λ m. digits m b)) (λ n. scaled limit below n (length b))
    whole (Some w) = rw (digits_from w b) (tail w (digits 0 b) refl)
    whole None = refl

pub no_test : {A : Type 0} → false ≡ true → A
no_test z = let w : ◌≡◌ {A = ℕ} 0 1 = cc in absurd (omega arith)

pointed_small : (p n : ℕ) → pointed_at p n ≡ true → (1 ≤ p) × (p ≤ 3)
unfolding pointed_at
pointed_small p n e = go (leb 1 p) (leb p 3) refl refl
  where
    go : (x y : Bool) → leb 1 p ≡ x → leb p 3 ≡ y → (1 ≤ p) × (p ≤ 3)
    go true true f g = (leb-true 1 p f, leb-true p 3 g)
    go true false f g = no_test (rw (f, g) at e)
    go false y f g = no_test (rw f at e)

-- a text without sign, from its parts
module _ (limit : ℕ) (below : Bool) (v : List ℕ) (p : ℕ) (at : p ≡ to_point v) (t : Bool) (e : t ≡ pointed_at p (length v)) where
  is_pointed : t ≡ pointed v
  unfolding pointed_at pointed
  is_pointed = rw at at e

  pub size_no : t ≡ false → None ≡ size_text limit below v
  unfolding size_text
  size_no h =
      let k : pointed v ≡ false = sym is_pointed ∙ h in
      rw k

  pub size_yes : t ≡ true → (whole : Option ℕ) (tail : Option (ℕ × Bool)) (r : Option ℤ) → whole ≡ sequence_text (take p v)
      → tail ≡ decimals_of (drop (p + 1) v) → r ≡ sized limit below whole tail → r ≡ size_text limit below v
  unfolding size_text whole_digits tail_digits
  size_yes h whole tail r x y z =
      let k : pointed v ≡ true = sym is_pointed ∙ h in
      let small = pointed_small p (length v) (sym e ∙ h) in
      let long : length (take p v) ≡ p = length-take-le p v (rw (← at) at (point_within v)) in
      rw (z, x, y, k, ← at) (sized_is limit below (take p v) (drop (p + 1) v) (omega arith) (omega arith))

-- one digit from a to m
module _ (a m : ℕ) (v : List ℕ) where
  pub digit_long : (length v ≡ 1 → ⊥) → None ≡ digit_text a m v
  unfolding digit_text
  digit_long h = rw (ne_eqb _ _ h)

  pub digit_none : length v ≡ 1 → get_or v 0 0 < 48 → None ≡ digit_text a m v
  unfolding digit_text
  digit_none h g = rw (eq-eqb _ _ h, lt-leb (48 + a) (get_or v 0 0) (omega arith))

  pub digit_low : length v ≡ 1 → 48 ≤ get_or v 0 0 → get_or v 0 0 - 48 < a → None ≡ digit_text a m v
  unfolding digit_text
  digit_low h g e = rw (eq-eqb _ _ h, lt-leb (48 + a) (get_or v 0 0) (omega arith))

  module _ (one : length v ≡ 1) (digit : 48 ≤ get_or v 0 0) (low : a ≤ get_or v 0 0 - 48) where
    pub digit_high : m < get_or v 0 0 - 48 → None ≡ digit_text a m v
    unfolding digit_text
    digit_high f = rw (eq-eqb _ _ one, le-leb (48 + a) (get_or v 0 0) (omega arith), lt-leb (get_or v 0 0) (48 + m) (omega arith))

    pub digit_is : get_or v 0 0 - 48 ≤ m → (w : ℕ) → w ≡ get_or v 0 0 → Some (w - 48) ≡ digit_text a m v
    unfolding digit_text
    digit_is f w e = rw (e, eq-eqb _ _ one, le-leb (48 + a) (get_or v 0 0) (omega arith), le-leb (get_or v 0 0) (48 + m) (omega arith))

  pub digit_some : length v ≡ 1 → 48 ≤ get_or v 0 0 → (n : ℕ) → get_or v 0 0 - 48 ≡ n → then_some (leb a n && leb n m) n ≡ digit_text a m v
  digit_some one digit n e = go (leb a n) (leb n m) refl refl
    where
      go : (x y : Bool) → leb a n ≡ x → leb n m ≡ y → then_some (x && y) n ≡ digit_text a m v
      go true true f g =
          ap Some (sym e) ∙ digit_is one digit (omega (arith, leb-true a n f)) (omega (arith, leb-true n m g)) _ refl
      go true false f g = digit_high one digit (omega (arith, leb-true a n f)) (omega (arith, leb-false n m g))
      go false y f g = digit_low one digit (omega (arith, leb-false a n f))

-- texts of two bytes are compared with "11" and "12", and no others
pub route_digit : (v : List ℕ) → (length v ≡ 2 → ⊥) → digit_text 0 7 v ≡ route_type_text v
unfolding route_type_text
route_digit v h = rw (same_no v (49 ∷ 49 ∷ []) (λ e. h (ap length e)), same_no v (49 ∷ 50 ∷ []) (λ e. h (ap length e)))

-- two bytes, said one by one
pub route_two : (v : List ℕ) (b : ℕ) → length v ≡ 2 → get_or v 0 0 ≡ 49 → get_or v 1 0 ≡ b → v ≡ 49 ∷ b ∷ []
route_two [] b h e f = absurd (omega arith)
route_two (x ∷ []) b h e f = absurd (omega arith)
route_two (x ∷ y ∷ []) b h e f = rw (e, f)
route_two (x ∷ y ∷ z ∷ r) b h e f = absurd (omega arith)

pub route_eleven : (v : List ℕ) → 2 ≤ length v → length v < 3 → get_or v 0 0 ≡ 49 → get_or v 1 0 ≡ 49 → Some 11 ≡ route_type_text v
unfolding route_type_text same
route_eleven v h g e f = rw (route_two v 49 (omega arith) e f)

pub route_twelve : (v : List ℕ) → 2 ≤ length v → length v < 3 → get_or v 0 0 ≡ 49 → get_or v 1 0 ≡ 50 → Some 12 ≡ route_type_text v
unfolding route_type_text same
route_twelve v h g e f = rw (route_two v 50 (omega arith) e f)

-- .. and the other texts
pub route_first : (v : List ℕ) → (get_or v 0 0 ≡ 49 → ⊥) → digit_text 0 7 v ≡ route_type_text v
unfolding route_type_text
route_first v h = rw (same_no v (49 ∷ 49 ∷ []) (λ e. h (ap (λ l. get_or l 0 0) e)), same_no v (49 ∷ 50 ∷ []) (λ e. h (ap (λ l. get_or l 0 0) e)))

pub route_second : (v : List ℕ) → (get_or v 1 0 ≡ 49 → ⊥) → (get_or v 1 0 ≡ 50 → ⊥) → digit_text 0 7 v ≡ route_type_text v
unfolding route_type_text
route_second v h g = rw (same_no v (49 ∷ 49 ∷ []) (λ e. h (ap (λ l. get_or l 1 0) e)), same_no v (49 ∷ 50 ∷ []) (λ e. g (ap (λ l. get_or l 1 0) e)))

-- the sign
module _ (limit : ℕ) (v : List ℕ) (r : Option ℤ) where
  pub degrees_below : (b : ℕ) (l : List ℕ) → v ≡ b ∷ l → b ≡ 45 → r ≡ size_text limit true l → r ≡ degrees_text limit v
  unfolding degrees_text
  degrees_below b l f h e = rw (f, h) e

  pub degrees_plain : (b : ℕ) (l : List ℕ) → v ≡ b ∷ l → (b ≡ 45 → ⊥) → r ≡ size_text limit false v → r ≡ degrees_text limit v
  unfolding degrees_text
  degrees_plain b l f h e =
      let g : get_or v 0 0 ≡ b = ap (λ l. get_or l 0 0) f in
      rw (ne_eqb (get_or v 0 0) 45 (λ z. h (sym g ∙ z))) e

  pub degrees_empty : length v ≡ 0 → r ≡ size_text limit false v → r ≡ degrees_text limit v
  unfolding degrees_text
  degrees_empty h e =
      let k : length v ≤ 0 = omega arith in
      rw (ne_eqb (get_or v 0 0) 45 (λ z. omega (arith, get_or-eq_default v 0 k))) e

-- what each form's number keeps to
clock_fits : (colons : Bool) (h m x : Option ℕ) → ((n : ℕ) → h ≡ Some n → n < 100) → TimeFits (clock_of colons h m x)
unfolding clock_of
clock_fits true (Some a) (Some b) (Some e) p n q = go (ltb b 60) (ltb e 60) refl refl q
  where
    go : (x y : Bool) → ltb b 60 ≡ x → ltb e 60 ≡ y → cond x (cond y (Seconds (a * 3600 + b * 60 + e)) NoTime) NoTime ≡ Seconds n → n < 360000
    go true true f g z =
        let k : a * 3600 + b * 60 + e ≡ n = cc in
        omega (arith, p a refl, ltb-true b 60 f, ltb-true e 60 g)
    go true false f g z = not_seconds n z
    go false y f g z = not_seconds n z
clock_fits true (Some a) (Some b) None p n q = not_seconds n q
clock_fits true (Some a) None x p n q = not_seconds n q
clock_fits true None m x p n q = not_seconds n q
clock_fits false h m x p n q = not_seconds n q

pub time_fits : (v : List ℕ) → TimeFits (time_text v)
unfolding time_text clock
time_fits v = go (eqb (length v) 0) (eqb (length v) 7) (eqb (length v) 8)
  where
    go : (x y z : Bool) → TimeFits (cond x Untimed (cond y (clock 1 v) (cond z (clock 2 v) NoTime)))
    go true y z n e = let w : ◌≡◌ {A = ℕ} 0 1 = cc in absurd (omega arith)
    go false true z n e = clock_fits _ _ _ _ (hours_below v 1 (omega arith)) n e
    go false false true n e = clock_fits _ _ _ _ (hours_below v 2 (omega arith)) n e
    go false false false n e = not_seconds n e

pub date_fits : (v : List ℕ) → DateFits (date_text v)
unfolding date_text
date_fits v n e = go (eqb (length v) 8) (sequence_text v) refl refl e
  where
    last : (m : ℕ) (y : Bool) → m < 100000000 → cond y (Some m) None ≡ Some n → n < 100000000
    last m true h z = let k : m ≡ n = cc in omega arith
    last m false h z = not_day n z

    go : (x : Bool) (k : Option ℕ) → eqb (length v) 8 ≡ x → sequence_text v ≡ k
        → cond x (with_number None k (λ m. cond (is_day m) (Some m) None)) None ≡ Some n → n < 100000000
    go true (Some m) p q z =
        last m (is_day m) (lt_of_lt_of_le (sequence_below m v q) (ten_up (length v) 8 (omega (arith, eqb-true (length v) 8 p)))) z
    go true None p q z = not_day n z
    go false k p q z = not_day n z

pub number_fits : (v : List ℕ) → NumberFits (sequence_text v)
number_fits v n e = sequence_fits n v e

pub choice_fits : (a m : ℕ) (v : List ℕ) → ChoiceFits m (digit_text a m v)
unfolding digit_text
choice_fits a m v n e = go (eqb (length v) 1) (leb (48 + a) (get_or v 0 0)) (leb (get_or v 0 0) (48 + m)) refl e
  where
    go : (x y z : Bool) → leb (get_or v 0 0) (48 + m) ≡ z → cond (x && (y && z)) (Some (get_or v 0 0 - 48)) None ≡ Some n → n ≤ m
    go true true true p q =
        let k : get_or v 0 0 - 48 ≡ n = cc in
        omega (arith, leb-true (get_or v 0 0) (48 + m) p)
    go true true false p q = not_picked n q
    go true false z p q = not_picked n q
    go false y z p q = not_picked n q

pub route_fits : (v : List ℕ) → ChoiceFits 12 (route_type_text v)
unfolding route_type_text
route_fits v n e = go (same v (49 ∷ 49 ∷ [])) (same v (49 ∷ 50 ∷ [])) e
  where
    go : (x y : Bool) → cond x (Some 11) (cond y (Some 12) (digit_text 0 7 v)) ≡ Some n → n ≤ 12
    go true y q = let k : 11 ≡ n = cc in omega arith
    go false true q = let k : 12 ≡ n = cc in omega arith
    go false false q = omega (arith, choice_fits 0 7 v n q)

signed_size : (below : Bool) (m : ℕ) → nat_abs (signed below m) ≡ m
unfolding signed
signed_size true zero = refl
signed_size true (suc m) = refl
signed_size false m = refl

scaled_fits : (limit : ℕ) (below : Bool) (n d : ℕ) → DegreesFits limit (scaled limit below n d)
unfolding scaled
scaled_fits limit below n d z e = go (leb n (limit * 10 ^ d)) refl e
  where
    go : (x : Bool) → leb n (limit * 10 ^ d) ≡ x
        → cond x (Some (signed below (n * 10000000 / 10 ^ d))) None ≡ Some z → nat_abs z ≤ limit * 10000000
    go true p q =
        let k : signed below (n * 10000000 / 10 ^ d) ≡ z = cc in
        let h : n * 10000000 ≤ 10 ^ d * (limit * 10000000) =
        rw (mul_left_comm (10 ^ d) limit 10000000, ← mul_assoc limit (10 ^ d) 10000000) (mul-le-mul_right 10000000 (leb-true _ _ p)) in
        rw (← k, signed_size below) (div-le_of_le-mul (10 ^ d) h)
    go false p q = not_degrees z q

size_fits : (limit : ℕ) (below : Bool) (v : List ℕ) → DegreesFits limit (size_text limit below v)
unfolding size_text
size_fits limit below v = go (pointed v) (digits 0 (whole_digits v ++ tail_digits v))
  where
    go : (x : Bool) (k : Option ℕ)
        → DegreesFits limit (cond x (with_number None k (λ n. scaled limit below n (length (tail_digits v)))) None)
    go true (Some n) z q = scaled_fits limit below n (length (tail_digits v)) z q
    go true None z q = not_degrees z q
    go false k z q = not_degrees z q

pub degrees_fits : (limit : ℕ) (v : List ℕ) → DegreesFits limit (degrees_text limit v)
unfolding degrees_text
degrees_fits limit v = go (eqb (get_or v 0 0) 45)
  where
    go : (x : Bool) → DegreesFits limit (cond x (size_text limit true (drop 1 v)) (size_text limit false v))
    go true = size_fits limit true (drop 1 v)
    go false = size_fits limit false v

-- A form that has no mark in it, read in a raw field's content, is that form of its value: the one law on quotes for all forms.
module _ {A : Type 0} (none : A) (read : List ℕ → A) (marked : (w : List ℕ) → no_mark w ≡ false → read w ≡ none) where
  formed_raw : (raw : List ℕ) → formed none read (value raw) ≡ read (content raw)
  unfolding formed
  formed_raw raw = go (no_mark (content raw)) refl
    where
      go : (t : Bool) → no_mark (content raw) ≡ t → cond (no_mark (value raw)) (read (value raw)) none ≡ read (content raw)
      go true e = rw (value_mark raw, e, value_clean raw e)
      go false e = rw (value_mark raw, e, marked (content raw) e)

  -- with the bound that comes along
  pub raw_is :
      (P : A → Type 0) → ((w : List ℕ) → P (read w)) → (raw v : List ℕ) → v ≡ content raw → (r : A) → r ≡ read v
      → (r ≡ formed none read (value raw)) × P r
  raw_is P fits raw v e r x = (rw (formed_raw raw, ← e) x, subst P (sym x) (fits v))
