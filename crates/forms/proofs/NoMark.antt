-- No form has a quotation mark in it: each text reader answers none on a text with one. Assumes nothing.
use Rattle.std.specs.Prelude.{Option, Some, None}
use mathlib.Core.Path.{◌≡◌, refl, sym, ap, ◌∙◌}
use mathlib.Core.Bool.{Bool, true, false, cond, ◌&&◌}
use mathlib.Core.List.{List, [], ◌∷◌, ◌++◌}
use Prim.Native.Nat.{ℕ, zero, suc, ◌+◌, ◌-◌, ◌*◌, ◌<◌}
use native.Mathlib.Numerals.{add-one}
use native.Mathlib.Omega.{arith}
use lib.Dec.{eqb, ltb}
use lib.ListN.{length, get_or, take, drop}
use lib.Seq.{drop-drop}
use borrow.Author.Tests.{eqb-true, lt-leb}
use Rattle.meaning.specs.declared.Time.TheVariants.{Untimed, NoTime}
use Rattle.meaning.specs.Lists.{same}
use Rattle.meaning.specs.Forms.{no_mark, is_digit, digits, sequence_text, clock_of, clock, time_text, date_text, to_point, pointed, whole_digits, tail_digits, size_text, degrees_text, digit_text, route_type_text}
use Rattle.text.proofs.Laws.{drop_next, drop_over, same_no}
use Rattle.digits.proofs.Laws.{none_is_no}
use Rattle.forms.proofs.Laws.{either, no_test, digit_long, digit_none}

-- The one fact on digits: a run with a mark in it writes no number.
digits_marked : (n : ℕ) (l : List ℕ) → no_mark l ≡ false → digits n l ≡ None
unfolding digits no_mark is_digit
digits_marked n [] h = no_test (sym h)
digits_marked n (b ∷ r) h = go (eqb b 34) refl (digits_marked (n * 10 + (b - 48)) r)
  where
    go : (t : Bool) → eqb b 34 ≡ t → (no_mark r ≡ false → digits (n * 10 + (b - 48)) r ≡ None)
        → digits n (b ∷ r) ≡ None
    go true e ih = rw (lt-leb 48 b (omega (arith, eqb-true b 34 e)))
    go false e ih = rw (ih (rw e at h)) (either (is_digit b) None)

pub sequence_marked : (v : List ℕ) → no_mark v ≡ false → sequence_text v ≡ None
unfolding sequence_text
sequence_marked v h = rw (digits_marked 0 v h, either {A = Option ℕ} (ltb 9 (length v)) None) (either {A = Option ℕ} (ltb (length v) 1) None)

-- so one to nine digits have none
sequence_clean : (v : List ℕ) (n : ℕ) → sequence_text v ≡ Some n → no_mark v ≡ true
sequence_clean v n e = go (no_mark v) refl
  where
    go : (t : Bool) → no_mark v ≡ t → t ≡ true
    go true h = refl
    go false h = none_is_no n (sym (sequence_marked v h) ∙ e)

pub date_marked : (v : List ℕ) → no_mark v ≡ false → date_text v ≡ None
unfolding date_text
date_marked v h = rw (sequence_marked v h) (either (eqb (length v) 8) None)

-- a text has no mark where its two parts have none
clean_join : (k : ℕ) (v : List ℕ) → no_mark (take k v) ≡ true → no_mark (drop k v) ≡ true → no_mark v ≡ true
unfolding no_mark
clean_join zero v p q = q
clean_join (suc k) [] p q = refl
clean_join (suc k) (b ∷ r) p q = go (eqb b 34) refl (clean_join k r)
  where
    go : (t : Bool) → eqb b 34 ≡ t → (no_mark (take k r) ≡ true → no_mark (drop k r) ≡ true → no_mark r ≡ true) → no_mark (b ∷ r) ≡ true
    go true e ih = rw e (rw e at p)
    go false e ih = rw e (ih (rw e at p) q)

-- a colon is no mark
clean_colon : (v : List ℕ) (k j : ℕ) → k + 1 ≡ j → k < length v → get_or v k 0 ≡ 58 → no_mark (drop j v) ≡ true → no_mark (drop k v) ≡ true
unfolding no_mark
clean_colon v k j n h e q = rw (drop_next v k h, e, n) q

-- two bytes without a mark, and none behind them
clean_two : (v : List ℕ) (k j : ℕ) → k + 2 ≡ j → no_mark (take 2 (drop k v)) ≡ true → no_mark (drop j v) ≡ true → no_mark (drop k v) ≡ true
clean_two v k j n p q = clean_join 2 (drop k v) p (rw (drop-drop 2 k v, n) q)

-- behind the end stands none
clean_end : (v : List ℕ) (k : ℕ) → length v ≡ k → no_mark (drop k v) ≡ true
unfolding no_mark
clean_end v k h = rw (drop_over v k (omega arith))

clock_marked : (k : ℕ) (v : List ℕ) → length v ≡ k + 6 → no_mark v ≡ false → clock k v ≡ NoTime
unfolding clock clock_of
clock_marked k v long h = go _ _ _ _ _ refl refl refl refl refl
  where
    go :
        (x y : Bool) (a b e : Option ℕ)
        → eqb (get_or v k 0) 58 ≡ x
        → eqb (get_or v (k + 3) 0) 58 ≡ y
        → sequence_text (take k v) ≡ a
        → sequence_text (take 2 (drop (k + 1) v)) ≡ b
        → sequence_text (take 2 (drop (k + 4) v)) ≡ e
        → clock_of (x && y) a b e ≡ NoTime
    go true true (Some a) (Some b) (Some e) p q r s t =
        let six : no_mark (drop (k + 6) v) ≡ true = clean_end v (k + 6) long in
        let four : no_mark (drop (k + 4) v) ≡ true = clean_two v (k + 4) (k + 6) (omega arith) (sequence_clean _ e t) six in
        let three : no_mark (drop (k + 3) v) ≡ true = clean_colon v (k + 3) (k + 4) (omega arith) (omega arith) (eqb-true _ _ q) four in
        let one : no_mark (drop (k + 1) v) ≡ true = clean_two v (k + 1) (k + 3) (omega arith) (sequence_clean _ b s) three in
        let all : no_mark (drop k v) ≡ true = clean_colon v k (k + 1) refl (omega arith) (eqb-true _ _ p) one in
        no_test (sym h ∙ clean_join k v (sequence_clean _ a r) all)
    go true true (Some a) (Some b) None p q r s t = refl
    go true true (Some a) None e p q r s t = refl
    go true true None b e p q r s t = refl
    go true false a b e p q r s t = refl
    go false y a b e p q r s t = refl

pub time_marked : (v : List ℕ) → no_mark v ≡ false → time_text v ≡ NoTime
unfolding time_text
time_marked v h = go (eqb (length v) 0) (eqb (length v) 7) (eqb (length v) 8) refl refl refl
  where
    go : (x y z : Bool) → eqb (length v) 0 ≡ x → eqb (length v) 7 ≡ y → eqb (length v) 8 ≡ z
        → cond x Untimed (cond y (clock 1 v) (cond z (clock 2 v) NoTime)) ≡ NoTime
    go true y z p q r = no_test (sym h ∙ clean_end v 0 (eqb-true _ _ p))
    go false true z p q r = clock_marked 1 v (eqb-true _ _ q) h
    go false false true p q r = clock_marked 2 v (eqb-true _ _ r) h
    go false false false p q r = refl

-- the point is no mark
point_marked : (v : List ℕ) → no_mark (whole_digits v ++ tail_digits v) ≡ no_mark v
unfolding no_mark whole_digits tail_digits to_point
point_marked [] = refl
point_marked (b ∷ r) = go (eqb b 46) refl (point_marked r)
  where
    go : (t : Bool) → eqb b 46 ≡ t → no_mark (take (to_point r) r ++ drop (to_point r + 1) r) ≡ no_mark r
        → no_mark (take (cond t 0 (to_point r + 1)) (b ∷ r) ++ drop (cond t 0 (to_point r + 1) + 1) (b ∷ r)) ≡ no_mark (b ∷ r)
    go true e ih = rw (eqb-true b 46 e)
    go false e ih = rw (add-one (to_point r + 1), add-one (to_point r), rw (add-one (to_point r)) at ih)

size_marked : (limit : ℕ) (below : Bool) (v : List ℕ) → no_mark v ≡ false → size_text limit below v ≡ None
unfolding size_text
size_marked limit below v h = rw (digits_marked 0 (whole_digits v ++ tail_digits v) (point_marked v ∙ h)) (either (pointed v) None)

pub degrees_marked : (limit : ℕ) (v : List ℕ) → no_mark v ≡ false → degrees_text limit v ≡ None
unfolding degrees_text no_mark
degrees_marked limit [] h = no_test (sym h)
degrees_marked limit (b ∷ r) h = go (eqb b 45) refl
  where
    go : (t : Bool) → eqb b 45 ≡ t → cond t (size_text limit true r) (size_text limit false (b ∷ r)) ≡ None
    go true e = size_marked limit true r (rw (eqb-true b 45 e) at h)
    go false e = size_marked limit false (b ∷ r) h

pub digit_marked : (a m : ℕ) (v : List ℕ) → no_mark v ≡ false → digit_text a m v ≡ None
unfolding no_mark
digit_marked a m [] h = no_test (sym h)
digit_marked a m (b ∷ c ∷ r) h = sym (digit_long a m (b ∷ c ∷ r) (λ e. omega arith))
digit_marked a m (b ∷ []) h = go (eqb b 34) refl
  where
    go : (t : Bool) → eqb b 34 ≡ t → digit_text a m (b ∷ []) ≡ None
    go true e = sym (digit_none a m (b ∷ []) refl (omega (arith, eqb-true b 34 e)))
    go false e = no_test (sym (rw e at h))

-- a text with a mark is no text without
marked_other : (v w : List ℕ) → no_mark w ≡ true → no_mark v ≡ false → same v w ≡ false
marked_other v w c h = same_no v w (λ e. no_test (sym h ∙ ap no_mark e ∙ c))

pub route_marked : (v : List ℕ) → no_mark v ≡ false → route_type_text v ≡ None
unfolding route_type_text no_mark
route_marked v h = rw (marked_other v (49 ∷ 49 ∷ []) refl h, marked_other v (49 ∷ 50 ∷ []) refl h) (digit_marked 0 7 v h)
