-- Laws of coordinates: which values they read, both ways.
use Rattle.std.specs.Prelude.{Option, Some, None}
use Prim.Native.Nat.{ℕ, suc, ◌+◌, ◌*◌, ◌/◌, ◌^◌, ◌≤◌, ◌<◌}
use native.Mathlib.Numerals.{add-one}
use native.Mathlib.Omega.{arith}
use mathlib.Core.Path.{◌≡◌, refl, sym, ap, ◌∙◌}
use mathlib.Core.Logic.{◌↔◌, ◌⊎◌, inl, inr}
use mathlib.Core.Bool.{Bool, true, false, cond, ◌&&◌, ◌||◌}
use mathlib.Core.List.Memᴰ
use mathlib.Core.List.{List, [], ◌∷◌, ◌++◌, append-nil}
use lib.IntN.{ℤ, pos, neg_ℤ}
use lib.ListN.{length, get_or, take, drop, length-append, length-drop, drop_of_length-le}
use lib.Seq.{split_at, length-take-le, take_all, take_at, drop-append-add}
use lib.Dec.{eqb, leb}
use borrow.Author.Tests.{eqb-true, ne_eqb, leb-true, le-leb}
use Rattle.meaning.specs.Forms.{no_mark, formed, digits, with_number, to_point, pointed, whole_digits, tail_digits, signed, scaled, size_text, degrees_text}
use Rattle.meaning.specs.Promises.{Each}
use Rattle.meaning.specs.Limits as S
use Rattle.meaning.specs.Limits.{Digits, numeral, Written, Size, Coordinate, plain, minus}
use Rattle.meaning.proofs.ListLaws.{and_both}
use Rattle.meaning.proofs.Laws.{each_append}
use Rattle.meaning.proofs.Tests.{either, or_left, or_right}
use Rattle.meaning.proofs.Digits.{IsDigit, digits_write}
use Rattle.meaning.proofs.Forms.{no_mark_cons, no_mark_join, digits_unmarked, reads, is_read}

-- ---- the point

pub point_within : (l : List ℕ) → to_point l ≤ length l
unfolding to_point
point_within [] = omega arith
point_within (b ∷ l) = go (eqb b 46) (point_within l)
  where
    go : (t : Bool) → to_point l ≤ length l → cond t 0 (to_point l + 1) ≤ suc (length l)
    go true h = omega arith
    go false h = omega arith

point_at : (l : List ℕ) → to_point l < length l → get_or l (to_point l) 0 ≡ 46
unfolding to_point
point_at [] h = absurd (omega arith)
point_at (b ∷ l) h = go (eqb b 46) refl h (point_at l)
  where
    go : (t : Bool) → eqb b 46 ≡ t → cond t 0 (to_point l + 1) < suc (length l) → (to_point l < length l → get_or l (to_point l) 0 ≡ 46) → get_or (b ∷ l) (cond t 0 (to_point l + 1)) 0 ≡ 46
    go true e g ih = eqb-true b 46 e
    go false e g ih = rw (add-one (to_point l)) (ih (omega arith))

-- digits have no point among them
no_point : (l r : List ℕ) → Each IsDigit l → to_point (l ++ r) ≡ length l + to_point r
unfolding to_point
no_point [] r h = omega arith
no_point (b ∷ l) r h = rw (ne_eqb b 46 (λ z. omega (arith, (h b (Memᴰ.head refl)).0))) (omega (arith, no_point l r (λ x m. h x (Memᴰ.tail m))))

-- ---- the digits around it

-- the parts of a value whose digits are counted right, and each a digit
written : (v : List ℕ) → pointed v ≡ true → Each IsDigit (whole_digits v) → Each IsDigit (tail_digits v) → Written v (whole_digits v) (tail_digits v)
unfolding pointed whole_digits tail_digits
written v e w d =
    let a = and_both (leb 1 (to_point v)) _ e in
    let b = and_both (leb (to_point v) 3) _ a.1 in
    go (leb-true _ _ a.0) (leb-true _ _ b.0) (either (leb (length v) (to_point v)) _ b.1)
  where
    p : ℕ
    p = to_point v

    whole_long : length (take p v) ≡ p
    whole_long = length-take-le p v (point_within v)

    go : 1 ≤ p → p ≤ 3 → (leb (length v) p ≡ true) ⊎ ((leb (p + 2) (length v) && leb (length v) (p + 21)) ≡ true) → Written v (take p v) (drop (p + 1) v)
    go low high (inl q) =
        let short : length v ≤ p = leb-true _ _ q in
        S.bare (sym (take_all p v short)) (drop_of_length-le v {i = p + 1} (omega arith)) (record { least = omega (arith, whole_long); most = omega (arith, whole_long); each = w })
    go low high (inr q) =
        let h = and_both (leb (p + 2) (length v)) _ q in
        let more : p + 2 ≤ length v = leb-true _ _ h.0 in
        let most : length v ≤ p + 21 = leb-true _ _ h.1 in
        S.pointed (split_at v p 0 (omega arith) ∙ rw (point_at v (omega arith), ← add-one p)) (record { least = omega (arith, whole_long); most = omega (arith, whole_long); each = w })
        (record { least = omega (arith, length-drop (p + 1) v); most = omega (arith, length-drop (p + 1) v); each = d })

-- and of a value that is written so
record Parts (v whole decimals : List ℕ) : Type 0 where
  counted : pointed v ≡ true
  whole_is : whole_digits v ≡ whole
  decimals_are : tail_digits v ≡ decimals
  first : IsDigit (get_or v 0 0)
  digits_each : Each IsDigit (whole ++ decimals)
  unmarked : no_mark v ≡ true

first_digit : (l r : List ℕ) → 1 ≤ length l → Each IsDigit l → IsDigit (get_or (l ++ r) 0 0)
first_digit [] r h d = absurd (omega arith)
first_digit (b ∷ l) r h d = d b (Memᴰ.head refl)

-- the digits before, and what follows them: nothing, or a point and more digits
parts_of : (v whole rest decimals : List ℕ) → v ≡ whole ++ rest → to_point rest ≡ 0 → Digits 1 3 whole → drop 1 rest ≡ decimals → Each IsDigit decimals
    → (length rest ≡ 0) ⊎ ((2 ≤ length rest) × (length rest ≤ 21)) → no_mark rest ≡ true → Parts v whole decimals
unfolding pointed whole_digits tail_digits
parts_of v whole rest decimals e none d tail t long clean = record {
  counted = rw (at, le-leb 1 (length whole) d.least, le-leb (length whole) 3 d.most) (counted long);
  whole_is = rw (at, e) (take_at whole rest (length whole) refl);
  decimals_are = rw (at, e) (drop-append-add whole rest 1 ∙ tail);
  first = rw e (first_digit whole rest d.least d.each);
  digits_each = each_append IsDigit whole decimals d.each t;
  unmarked = rw e (no_mark_join whole rest (digits_unmarked whole d.each) clean);
}
  where
    at : to_point v ≡ length whole
    at = rw e (omega (arith, no_point whole rest d.each))

    all : length v ≡ length whole + length rest
    all = rw e (length-append whole rest)

    counted : (length rest ≡ 0) ⊎ ((2 ≤ length rest) × (length rest ≤ 21)) → (leb (length v) (length whole) || (leb (length whole + 2) (length v) && leb (length v) (length whole + 21))) ≡ true
    counted (inl z) = or_left (leb (length v) (length whole)) _ (le-leb (length v) (length whole) (omega (arith, all)))
    counted (inr h) = or_right (leb (length v) (length whole)) _ (rw (le-leb (length whole + 2) (length v) (omega (arith, all, h.0)), le-leb (length v) (length whole + 21) (omega (arith, all, h.1))))

parts : (v whole decimals : List ℕ) → Written v whole decimals → Parts v whole decimals
unfolding to_point
parts v whole decimals (S.bare e z d) =
    parts_of v whole [] decimals (e ∙ sym (append-nil whole)) refl d (sym z) (rw z (λ b m. absurd (Memᴰ.not-nil m))) (inl refl) (unfold no_mark in refl)
parts v whole decimals (S.pointed e d t) =
    parts_of v whole (46 ∷ decimals) decimals e refl d refl t.each (inr (omega (arith, t.least), omega (arith, t.most)))
    (no_mark_cons 46 decimals (λ z. omega arith) (digits_unmarked decimals t.each))

-- ---- a size, and its sign

pub not_degrees : {A : Type 0} (z : ℤ) → None ≡ Some z → A
not_degrees z e = let w : ◌≡◌ {A = ℕ} 0 1 = cc in absurd (omega arith)

-- a size with its sign
record Sized (limit : ℕ) (below : Bool) (v : List ℕ) (z : ℤ) : Type 0 where
  number : ℕ
  size : Size limit v number
  is : z ≡ signed below number

size_read : (limit : ℕ) (below : Bool) (v : List ℕ) (z : ℤ) → size_text limit below v ≡ Some z → Sized limit below v z
unfolding size_text scaled
size_read limit below v z e = go (pointed v) refl (digits 0 (whole_digits v ++ tail_digits v)) refl e
  where
    d : ℕ
    d = length (tail_digits v)

    there : (m : ℕ) → pointed v ≡ true → digits 0 (whole_digits v ++ tail_digits v) ≡ Some m → (t : Bool) → leb m (limit * 10 ^ d) ≡ t
        → cond t (Some (signed below (m * 10000000 / 10 ^ d))) None ≡ Some z → Sized limit below v z
    there m p q true h e =
        let w = (digits_write (whole_digits v ++ tail_digits v) 0 m).0 q in
        let same : numeral (whole_digits v ++ tail_digits v) ≡ m = omega (arith, w.1) in
        record {
          number = m * 10000000 / 10 ^ d;
          size = record {
            whole = whole_digits v;
            decimals = tail_digits v;
            text = written v p (λ b k. w.0 b (Memᴰ.append_left (tail_digits v) k)) (λ b k. w.0 b (Memᴰ.append_right (whole_digits v) k));
            within = rw same (leb-true _ _ h);
            is = rw same;
          };
          is = cc;
        }
    there m p q false h e = not_degrees z e

    go : (a : Bool) → pointed v ≡ a → (s : Option ℕ) → digits 0 (whole_digits v ++ tail_digits v) ≡ s
        → cond a (with_number None s (λ n. cond (leb n (limit * 10 ^ d)) (Some (signed below (n * 10000000 / 10 ^ d))) None)) None ≡ Some z → Sized limit below v z
    go true p (Some m) q e = there m p q (leb m (limit * 10 ^ d)) refl e
    go true p None q e = not_degrees z e
    go false p s q e = not_degrees z e

size_of : (limit : ℕ) (below : Bool) (v : List ℕ) (n : ℕ) → Size limit v n → size_text limit below v ≡ Some (signed below n)
unfolding size_text scaled
size_of limit below v n s =
    let p = parts v s.whole s.decimals s.text in
    let w : digits 0 (s.whole ++ s.decimals) ≡ Some (numeral (s.whole ++ s.decimals)) = (digits_write _ 0 _).1 (p.digits_each, omega arith) in
    rw (p.counted, p.whole_is, p.decimals_are, w, le-leb _ _ s.within) (ap (λ (m : ℕ). Some (signed below m)) (sym s.is))

pub degrees_exactly : (limit : ℕ) (v : List ℕ) (z : ℤ) → formed None (degrees_text limit) v ≡ Some z ↔ Coordinate limit v z
unfolding degrees_text signed
degrees_exactly limit v z = (λ e. there v (eqb (get_or v 0 0) 45) refl (reads None (degrees_text limit) v (Some z) (not_degrees z) e), back)
  where
    there : (v : List ℕ) (t : Bool) → eqb (get_or v 0 0) 45 ≡ t → cond t (size_text limit true (drop 1 v)) (size_text limit false v) ≡ Some z → Coordinate limit v z
    there [] true q e = absurd (omega (arith, eqb-true 0 45 q))
    there (b ∷ l) true q e = let s = size_read limit true l z e in minus s.number l (ap (λ (x : ℕ). x ∷ l) (eqb-true b 45 q)) s.size s.is
    there l false q e = let s = size_read limit false l z e in plain s.number s.size s.is

    back : Coordinate limit v z → formed None (degrees_text limit) v ≡ Some z
    back (plain n s e) =
        let p = parts v s.whole s.decimals s.text in
        is_read None (degrees_text limit) v (Some z) p.unmarked
        (rw (ne_eqb (get_or v 0 0) 45 (λ q. omega (arith, p.first.0)), e) (size_of limit false v n s))
    back (minus n l q s e) =
        let p = parts l s.whole s.decimals s.text in
        rw (q, e) (is_read None (degrees_text limit) (45 ∷ l) (Some (neg_ℤ (pos n))) (no_mark_cons 45 l (λ q. omega arith) p.unmarked) (size_of limit true l n s))
