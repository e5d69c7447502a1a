-- Laws of forms: none has a mark in it; which values a sequence and a choice read.
use Rattle.std.specs.Prelude.{Some, None}
use Prim.Native.Nat.{ℕ, ◌+◌, ◌-◌, ◌≤◌}
use native.Mathlib.Omega.{arith}
use mathlib.Core.Path.{◌≡◌, refl, sym}
use mathlib.Core.Logic.{◌↔◌, ◌⊎◌, inl, inr}
use mathlib.Core.Bool.{Bool, true, false, cond, ◌&&◌}
use mathlib.Core.List.Memᴰ
use mathlib.Core.List.{List, [], ◌∷◌, ◌++◌}
use lib.Dec.{eqb, leb}
use lib.ListN.{length, get_or}
use borrow.Author.Tests.{eqb-true, ne_eqb, leb-true, le-leb}
use Rattle.meaning.specs.Lists.{ascii, same}
use Rattle.meaning.specs.Forms.{no_mark, formed, sequence_text, sequence_of, digit_text, route_type_text, route_type_of}
use Rattle.meaning.specs.Promises.{Each}
use Rattle.meaning.specs.Limits.{Digits, numeral, FromTo}
use Rattle.meaning.proofs.ListLaws.{and_both, same_equal}
use Rattle.meaning.proofs.Digits.{none_is_no, IsDigit, sequence_text_lem}

-- ---- no form has a mark in it

pub no_mark_cons : (b : ℕ) (l : List ℕ) → (b ≡ 34 → ⊥) → no_mark l ≡ true → no_mark (b ∷ l) ≡ true
unfolding no_mark
no_mark_cons b l h e = rw (ne_eqb b 34 h) e

pub no_mark_join : (l m : List ℕ) → no_mark l ≡ true → no_mark m ≡ true → no_mark (l ++ m) ≡ true
unfolding no_mark
no_mark_join [] m p q = q
no_mark_join (b ∷ l) m p q = go (eqb b 34) p (λ e. no_mark_join l m e q)
  where
    go : (t : Bool) → cond t false (no_mark l) ≡ true → (no_mark l ≡ true → no_mark (l ++ m) ≡ true) → cond t false (no_mark (l ++ m)) ≡ true
    go true e k = e
    go false e k = k e

pub digits_unmarked : (l : List ℕ) → Each IsDigit l → no_mark l ≡ true
digits_unmarked [] h = unfold no_mark in refl
digits_unmarked (b ∷ l) h = no_mark_cons b l (λ z. omega (arith, (h b (Memᴰ.head refl)).0)) (digits_unmarked l (λ x m. h x (Memᴰ.tail m)))

-- a form reads what its text does, and no value with a mark
module _ {A : Type 0} (none : A) (read : List ℕ → A) (v : List ℕ) (x : A) where
  pub reads : (none ≡ x → ⊥) → formed none read v ≡ x → read v ≡ x
  unfolding formed
  reads h e = go (no_mark v) e
    where
      go : (t : Bool) → cond t (read v) none ≡ x → read v ≡ x
      go true e = e
      go false e = absurd (h e)

  pub is_read : no_mark v ≡ true → read v ≡ x → formed none read v ≡ x
  unfolding formed
  is_read h e = rw h e

-- one to nine digits
pub sequence_exactly : (v : List ℕ) (n : ℕ) → sequence_of v ≡ Some n ↔ Digits 1 9 v × (n ≡ numeral v)
unfolding sequence_of
sequence_exactly v n = (
  λ e. (sequence_text_lem v n).0 (reads None sequence_text v (Some n) (none_is_no n) e),
  λ h. is_read None sequence_text v (Some n) (digits_unmarked v h.0.each) ((sequence_text_lem v n).1 h),
)

-- ---- choices

-- a value of one byte
pub single : (v : List ℕ) → length v ≡ 1 → v ≡ get_or v 0 0 ∷ []
single [] e = absurd (omega arith)
single (b ∷ []) e = refl
single (b ∷ c ∷ r) e = absurd (omega arith)

pub not_picked : {A : Type 0} (n : ℕ) → None ≡ Some n → A
not_picked n e = let z : ◌≡◌ {A = ℕ} 0 1 = cc in absurd (omega arith)

-- one digit from a to m
digit_text_lem : (a m : ℕ) (v : List ℕ) (n : ℕ) → digit_text a m v ≡ Some n ↔ FromTo a m v n
unfolding digit_text
digit_text_lem a m v n = (λ e. there (go (test v) (get_or v 0 0 - 48) e), back)
  where
    test : List ℕ → Bool
    test w = eqb (length w) 1 && (leb (48 + a) (get_or w 0 0) && leb (get_or w 0 0) (48 + m))

    go : (d : Bool) (b : ℕ) → cond d (Some b) None ≡ Some n → (d ≡ true) × (b ≡ n)
    go true b e = (refl, cc)
    go false b e = not_picked n e

    there : (test v ≡ true) × (get_or v 0 0 - 48 ≡ n) → FromTo a m v n
    there t =
        let h = and_both (eqb (length v) 1) (leb (48 + a) (get_or v 0 0) && leb (get_or v 0 0) (48 + m)) t.0 in
        let g = and_both (leb (48 + a) (get_or v 0 0)) (leb (get_or v 0 0) (48 + m)) h.1 in
        let low : 48 + a ≤ get_or v 0 0 = leb-true (48 + a) _ g.0 in
        let high : get_or v 0 0 ≤ 48 + m = leb-true _ (48 + m) g.1 in
        let less : get_or v 0 0 - 48 ≡ n = t.1 in
        let is : 48 + n ≡ get_or v 0 0 = omega arith in
        ((omega arith, omega arith), rw is (single v (eqb-true _ 1 h.0)))

    back : FromTo a m v n → digit_text a m v ≡ Some n
    back h =
        let low : a ≤ n = h.0.0 in
        let high : n ≤ m = h.0.1 in
        let less : 48 + n - 48 ≡ n = omega arith in
        rw (h.1, le-leb (48 + a) (48 + n) (omega arith), le-leb (48 + n) (48 + m) (omega arith), less)

-- and it is no mark
digit_unmarked : (n : ℕ) → no_mark ((48 + n) ∷ []) ≡ true
unfolding no_mark
digit_unmarked n = rw (ne_eqb (48 + n) 34 (λ z. omega arith))

pub digit_picked : (a m : ℕ) (v : List ℕ) (n : ℕ) → formed None (digit_text a m) v ≡ Some n ↔ FromTo a m v n
digit_picked a m v n = (
  λ e. (digit_text_lem a m v n).0 (reads None (digit_text a m) v (Some n) (not_picked n) e),
  λ h. is_read None (digit_text a m) v (Some n) (rw h.1 (digit_unmarked n)) ((digit_text_lem a m v n).1 h),
)

-- one byte is no longer text
one_byte : (b : ℕ) (w : List ℕ) → 2 ≤ length w → same (b ∷ []) w ≡ false
unfolding same
one_byte b [] h = absurd (omega arith)
one_byte b (c ∷ []) h = absurd (omega arith)
one_byte b (c ∷ d ∷ w) h = go (eqb b c)
  where
    go : (t : Bool) → cond t false false ≡ false
    go true = refl
    go false = refl

-- route_type 0 to 7, 11, 12
abbrev RouteType : List ℕ → ℕ → Type 0
RouteType v n = FromTo 0 7 v n ⊎ (((n ≡ 11) × (v ≡ ascii "11")) ⊎ ((n ≡ 12) × (v ≡ ascii "12")))

pub route_exactly : (v : List ℕ) (n : ℕ) → route_type_of v ≡ Some n ↔ RouteType v n
unfolding route_type_of route_type_text
route_exactly v n = (λ e. there (same v (ascii "11")) refl (same v (ascii "12")) refl (reads None route_type_text v (Some n) (not_picked n) e), back)
  where
    there : (a : Bool) → same v (ascii "11") ≡ a → (b : Bool) → same v (ascii "12") ≡ b → cond a (Some 11) (cond b (Some 12) (digit_text 0 7 v)) ≡ Some n → RouteType v n
    there true p b q e = inr (inl ((let z : 11 ≡ n = cc in sym z), same_equal v (ascii "11") p))
    there false p true q e = inr (inr ((let z : 12 ≡ n = cc in sym z), same_equal v (ascii "12") q))
    there false p false q e = inl ((digit_text_lem 0 7 v n).0 e)

    back : RouteType v n → route_type_of v ≡ Some n
    back (inl h) = is_read None route_type_text v (Some n) (rw h.1 (digit_unmarked n)) (rw (longer (ascii "11") (omega arith), longer (ascii "12") (omega arith)) ((digit_text_lem 0 7 v n).1 h))
      where
        longer : (w : List ℕ) → 2 ≤ length w → same v w ≡ false
        longer w g = rw h.1 (one_byte (48 + n) w g)
    back (inr (inl (e, h))) = rw (e, h) (unfold formed no_mark same in refl)
    back (inr (inr (e, h))) = rw (e, h) (unfold formed no_mark same in refl)
