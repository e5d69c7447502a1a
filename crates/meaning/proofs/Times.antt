-- Laws of times and dates: which values each reads, both ways.
use Rattle.std.specs.Prelude.{Option, Some, None}
use Prim.Native.Nat.{ℕ, ◌+◌, ◌*◌, ◌/◌, ◌%◌, ◌≤◌, ◌<◌}
use native.Mathlib.Numerals.{add-one}
use native.Mathlib.Omega.{arith}
use native.Mathlib.Decide.{ℕ_discrete}
use native.Mathlib.Nat.{zero-lt-suc, div-lt_iff_lt-mul}
use mathlib.Core.Path.{◌≡◌, refl, sym, ap, ◌∙◌}
use mathlib.Core.Logic.{◌↔◌, ◌⊎◌, inl, inr}
use mathlib.Core.Bool.{Bool, true, false, cond, not}
use mathlib.Core.List.{List, [], ◌∷◌, ◌++◌, map}
use lib.ListN.{length, get_or, take, drop, length-drop}
use lib.Seq.{split_at, get_or-drop, drop-drop, length-take-le, take_all}
use lib.Dec.{eqb, leb, ltb}
use borrow.Author.Tests.{eqb-true, eqb-false, eq-eqb, ne_eqb, ltb-true, lt-ltb, leb-true, le-leb, not-true}
use Rattle.meaning.specs.declared.Time.TheVariants.{Seconds, Untimed, NoTime}
use Rattle.meaning.specs.Forms.{no_mark, formed, sequence_text, with_number, clock_of, clock, time_text, time_of, leap, month_days, days_in, is_day, date_text, date_of}
use Rattle.meaning.specs.Promises.{Each}
use Rattle.meaning.specs.Limits.{Digits, numeral, Clock, TrueDate}
use Rattle.meaning.proofs.ListLaws.{and_both, nothing}
use Rattle.meaning.proofs.Tests.{either, or_right}
use Rattle.meaning.proofs.Digits.{IsDigit, sequence_text_lem, numeral_below}
use Rattle.meaning.proofs.Forms.{no_mark_cons, no_mark_join, digits_unmarked, reads, is_read, single}

-- ---- times

-- NoTime and Untimed are no seconds
pub not_seconds : {A : Type 0} (n : ℕ) → NoTime ≡ Seconds n → A
not_seconds n e = let z : ◌≡◌ {A = ℕ} 0 1 = cc in absurd (omega arith)

-- what a clock between colons reads
record Read (colons : Bool) (h m x : Option ℕ) (n : ℕ) : Type 0 where
  hour : ℕ
  minute : ℕ
  second : ℕ
  between : colons ≡ true
  hour_is : h ≡ Some hour
  minute_is : m ≡ Some minute
  second_is : x ≡ Some second
  minute_most : minute ≤ 59
  second_most : second ≤ 59
  sum : n ≡ hour * 3600 + minute * 60 + second

clock_read : (colons : Bool) (h m x : Option ℕ) (n : ℕ) → clock_of colons h m x ≡ Seconds n → Read colons h m x n
unfolding clock_of
clock_read true (Some a) (Some b) (Some c) n e = go (ltb b 60) refl (ltb c 60) refl e
  where
    go : (s : Bool) → ltb b 60 ≡ s → (t : Bool) → ltb c 60 ≡ t → cond s (cond t (Seconds (a * 3600 + b * 60 + c)) NoTime) NoTime ≡ Seconds n → Read true (Some a) (Some b) (Some c) n
    go true p true q e =
        let least : b < 60 = ltb-true b 60 p in
        let last : c < 60 = ltb-true c 60 q in
        record { hour = a; minute = b; second = c; between = refl; hour_is = refl; minute_is = refl; second_is = refl; minute_most = omega arith; second_most = omega arith; sum = cc }
    go true p false q e = not_seconds n e
    go false p t q e = not_seconds n e
clock_read true (Some a) (Some b) None n e = not_seconds n e
clock_read true (Some a) None x n e = not_seconds n e
clock_read true None m x n e = not_seconds n e
clock_read false h m x n e = not_seconds n e

-- where colons stand behind k bytes and behind two more, the bytes between them
clock_split : (k : ℕ) (v : List ℕ) → length v ≡ k + 6 → get_or v k 0 ≡ 58 → get_or v (k + 3) 0 ≡ 58
    → v ≡ take k v ++ (58 ∷ (take 2 (drop (k + 1) v) ++ (58 ∷ take 2 (drop (k + 4) v))))
clock_split k v long first second = split_at v k 0 (omega arith) ∙ rw (first, ← add-one k) (ap (λ (r : List ℕ). take k v ++ (58 ∷ r)) middle)
  where
    w : List ℕ
    w = drop (k + 1) v

    x : List ℕ
    x = drop (k + 4) v

    second_is : get_or w 2 0 ≡ 58
    second_is = let j : k + 1 + 2 ≡ k + 3 = omega arith in get_or-drop (k + 1) v 2 0 ∙ rw j second

    rest : drop 3 w ≡ take 2 x
    rest = let j : k + 1 + 3 ≡ k + 4 = omega arith in drop-drop 3 (k + 1) v ∙ rw j (sym (take_all 2 x (omega (arith, length-drop (k + 4) v))))

    middle : w ≡ take 2 w ++ (58 ∷ take 2 x)
    middle = split_at w 2 0 (omega (arith, length-drop (k + 1) v)) ∙ rw (second_is, rest)

two : (l : List ℕ) → length l ≡ 2 → l ≡ get_or l 0 0 ∷ get_or l 1 0 ∷ []
two [] e = absurd (omega arith)
two (a ∷ []) e = absurd (omega arith)
two (a ∷ b ∷ []) e = refl
two (a ∷ b ∷ c ∷ l) e = absurd (omega arith)

clock_joined : (h m x : List ℕ) → (length h ≡ 1) ⊎ (length h ≡ 2) → length m ≡ 2 → length x ≡ 2
    → time_text (h ++ (58 ∷ (m ++ (58 ∷ x)))) ≡ clock_of true (sequence_text h) (sequence_text m) (sequence_text x)
unfolding time_text clock
clock_joined h m x (inl a) b c = rw (single h a, two m b, two x c)
clock_joined h m x (inr a) b c = rw (two h a, two m b, two x c)

pub time_exactly : (v : List ℕ) (n : ℕ) → time_of v ≡ Seconds n ↔ Clock v n
unfolding time_of time_text clock clock_of
time_exactly v n = (λ e. there (reads NoTime time_text v (Seconds n) (not_seconds n) e), back)
  where
    -- k hour digits
    at : (k : ℕ) → 1 ≤ k → k ≤ 2 → length v ≡ k + 6 → clock k v ≡ Seconds n → Clock v n
    at k low high long e =
        let r = clock_read _ _ _ _ n e in
        let colons = and_both (eqb (get_or v k 0) 58) (eqb (get_or v (k + 3) 0) 58) r.between in
        let h = (sequence_text_lem (take k v) r.hour).0 r.hour_is in
        let m = (sequence_text_lem (take 2 (drop (k + 1) v)) r.minute).0 r.minute_is in
        let x = (sequence_text_lem (take 2 (drop (k + 4) v)) r.second).0 r.second_is in
        let hs : length (take k v) ≡ k = length-take-le k v (omega arith) in
        let ms : length (take 2 (drop (k + 1) v)) ≡ 2 = length-take-le 2 (drop (k + 1) v) (omega (arith, length-drop (k + 1) v)) in
        let xs : length (take 2 (drop (k + 4) v)) ≡ 2 = length-take-le 2 (drop (k + 4) v) (omega (arith, length-drop (k + 4) v)) in
        record {
          hours = take k v;
          minutes = take 2 (drop (k + 1) v);
          seconds = take 2 (drop (k + 4) v);
          text = clock_split k v long (eqb-true _ 58 colons.0) (eqb-true _ 58 colons.1);
          one_or_two = record { least = omega arith; most = omega arith; each = h.0.each };
          MM = record { least = omega arith; most = omega arith; each = m.0.each };
          SS = record { least = omega arith; most = omega arith; each = x.0.each };
          to_59 = (omega (arith, m.1, r.minute_most), omega (arith, x.1, r.second_most));
          is = omega (arith, h.1, m.1, x.1, r.sum);
        }

    there : time_text v ≡ Seconds n → Clock v n
    there e = go (eqb (length v) 0) (eqb (length v) 7) refl (eqb (length v) 8) refl e
      where
        go : (a b : Bool) → eqb (length v) 7 ≡ b → (c : Bool) → eqb (length v) 8 ≡ c → cond a Untimed (cond b (clock 1 v) (cond c (clock 2 v) NoTime)) ≡ Seconds n → Clock v n
        go true b p c q e = let z : ◌≡◌ {A = ℕ} 0 1 = cc in absurd (omega arith)
        go false true p c q e = at 1 (omega arith) (omega arith) (eqb-true (length v) 7 p) e
        go false false p true q e = at 2 (omega arith) (omega arith) (eqb-true (length v) 8 q) e
        go false false p false q e = not_seconds n e

    back : Clock v n → time_of v ≡ Seconds n
    back c = is_read NoTime time_text v (Seconds n) (rw c.text unmarked) (ap time_text c.text ∙ clock_joined _ _ _ hs (exactly c.MM) (exactly c.SS) ∙ sums)
      where
        exactly : {l : List ℕ} → Digits 2 2 l → length l ≡ 2
        exactly d = omega (arith, d.least, d.most)

        hs : (length c.hours ≡ 1) ⊎ (length c.hours ≡ 2)
        hs = go (ℕ_discrete (length c.hours) 1)
          where
            go : Dec (length c.hours ≡ 1) → (length c.hours ≡ 1) ⊎ (length c.hours ≡ 2)
            go (yes e) = inl e
            go (no e) = inr (omega (arith, e, c.one_or_two.least, c.one_or_two.most))

        unmarked : no_mark (c.hours ++ (58 ∷ (c.minutes ++ (58 ∷ c.seconds)))) ≡ true
        unmarked =
            no_mark_join c.hours _ (digits_unmarked _ c.one_or_two.each)
            (no_mark_cons 58 _ (λ z. omega arith)
            (no_mark_join c.minutes _ (digits_unmarked _ c.MM.each)
            (no_mark_cons 58 _ (λ z. omega arith) (digits_unmarked _ c.SS.each))))

        number : (l : List ℕ) → 1 ≤ length l → length l ≤ 9 → Each IsDigit l → sequence_text l ≡ Some (numeral l)
        number l low high each = (sequence_text_lem l (numeral l)).1 (record { least = low; most = high; each = each }, refl)

        sums : clock_of true (sequence_text c.hours) (sequence_text c.minutes) (sequence_text c.seconds) ≡ Seconds n
        sums =
            rw (number c.hours c.one_or_two.least (omega (arith, c.one_or_two.most)) c.one_or_two.each, number c.minutes (omega (arith, c.MM.least)) (omega (arith, c.MM.most)) c.MM.each, number c.seconds (omega (arith, c.SS.least)) (omega (arith, c.SS.most)) c.SS.each, lt-ltb (numeral c.minutes) 60 (omega (arith, c.to_59.0)), lt-ltb (numeral c.seconds) 60 (omega (arith, c.to_59.1)))
            (ap Seconds (sym c.is))

-- a clock never reads as empty
clock_not_untimed : (colons : Bool) (h m x : Option ℕ) → clock_of colons h m x ≡ Untimed → ⊥
unfolding clock_of
clock_not_untimed true (Some a) (Some b) (Some c) e = go (ltb b 60) (ltb c 60) e
  where
    go : (s t : Bool) → cond s (cond t (Seconds (a * 3600 + b * 60 + c)) NoTime) NoTime ≡ Untimed → ⊥
    go true true e = let z : ◌≡◌ {A = ℕ} 0 1 = cc in omega arith
    go true false e = let z : ◌≡◌ {A = ℕ} 0 1 = cc in omega arith
    go false t e = let z : ◌≡◌ {A = ℕ} 0 1 = cc in omega arith
clock_not_untimed true (Some a) (Some b) None e = let z : ◌≡◌ {A = ℕ} 0 1 = cc in omega arith
clock_not_untimed true (Some a) None x e = let z : ◌≡◌ {A = ℕ} 0 1 = cc in omega arith
clock_not_untimed true None m x e = let z : ◌≡◌ {A = ℕ} 0 1 = cc in omega arith
clock_not_untimed false h m x e = let z : ◌≡◌ {A = ℕ} 0 1 = cc in omega arith

pub untimed_exactly : (v : List ℕ) → time_of v ≡ Untimed ↔ v ≡ []
unfolding time_of time_text clock
untimed_exactly v = (λ e. go (eqb (length v) 0) refl (eqb (length v) 7) (eqb (length v) 8) (reads NoTime time_text v Untimed (λ q. let z : ◌≡◌ {A = ℕ} 0 1 = cc in omega arith) e), λ e. rw e (unfold formed no_mark in refl))
  where
    go : (a : Bool) → eqb (length v) 0 ≡ a → (b c : Bool) → cond a Untimed (cond b (clock 1 v) (cond c (clock 2 v) NoTime)) ≡ Untimed → v ≡ []
    go true p b c e = nothing v (omega (arith, eqb-true (length v) 0 p))
    go false p true c e = absurd (clock_not_untimed _ _ _ _ e)
    go false p false true e = absurd (clock_not_untimed _ _ _ _ e)
    go false p false false e = let z : ◌≡◌ {A = ℕ} 0 1 = cc in absurd (omega arith)

pub most_seconds : (v : List ℕ) (n : ℕ) → time_of v ≡ Seconds n → n ≤ 359999
most_seconds v n e =
    let c = (time_exactly v n).0 e in
    let h : numeral c.hours < 100 = numeral_below c.hours 2 c.one_or_two.each c.one_or_two.most in
    omega (arith, c.is, c.to_59.0, c.to_59.1)

-- ---- dates

pub not_day : {A : Type 0} (n : ℕ) → None ≡ Some n → A
not_day n e = let z : ◌≡◌ {A = ℕ} 0 1 = cc in absurd (omega arith)

-- year, month and day of a true date
record IsDay (n : ℕ) : Type 0 where
  year : 1 ≤ n / 10000
  month : (1 ≤ n / 100 % 100) × (n / 100 % 100 ≤ 12)
  day : (1 ≤ n % 100) × (n % 100 ≤ days_in (n / 10000) (n / 100 % 100))

day_is : (n : ℕ) → is_day n ≡ true ↔ IsDay n
unfolding is_day
day_is n = (there, λ d. rw (le-leb _ _ d.year, le-leb _ _ d.month.0, le-leb _ _ d.month.1, le-leb _ _ d.day.0, le-leb _ _ d.day.1))
  where
    there : is_day n ≡ true → IsDay n
    there e =
        let a = and_both (leb 1 (n / 10000)) _ e in
        let b = and_both (leb 1 (n / 100 % 100)) _ a.1 in
        let c = and_both (leb (n / 100 % 100) 12) _ b.1 in
        let d = and_both (leb 1 (n % 100)) _ c.1 in
        record { year = leb-true _ _ a.0; month = (leb-true _ _ b.0, leb-true _ _ c.0); day = (leb-true _ _ d.0, leb-true _ _ d.1) }

pub date_exactly : (v : List ℕ) (n : ℕ) → date_of v ≡ Some n ↔ TrueDate v n
unfolding date_of date_text
date_exactly v n = (λ e. go (eqb (length v) 8) refl (sequence_text v) refl (reads None date_text v (Some n) (not_day n) e), back)
  where
    there : (m : ℕ) → length v ≡ 8 → sequence_text v ≡ Some m → (t : Bool) → is_day m ≡ t → cond t (Some m) None ≡ Some n → TrueDate v n
    there m long q true d e =
        let s = (sequence_text_lem v m).0 q in
        let day = (day_is m).0 d in
        let same : m ≡ n = cc in
        let small : m < 10000 * 10000 = rw s.1 (numeral_below v 8 s.0.each (omega arith)) in
        let year : m / 10000 < 10000 = (div-lt_iff_lt-mul (zero-lt-suc 9999)).1 small in
        record {
          eight = record { least = omega arith; most = omega arith; each = s.0.each };
          is = sym same ∙ s.1;
          year = rw (← same) (day.year, omega arith);
          month = rw (← same) day.month;
          day = rw (← same) day.day;
        }
    there m long q false d e = not_day n e

    go : (a : Bool) → eqb (length v) 8 ≡ a → (s : Option ℕ) → sequence_text v ≡ s → cond a (with_number None s (λ m. cond (is_day m) (Some m) None)) None ≡ Some n → TrueDate v n
    go true p (Some m) q e = there m (eqb-true (length v) 8 p) q (is_day m) refl e
    go true p None q e = not_day n e
    go false p s q e = not_day n e

    back : TrueDate v n → date_of v ≡ Some n
    back d =
        let s : sequence_text v ≡ Some n = (sequence_text_lem v n).1 (record { least = omega (arith, d.eight.least); most = omega (arith, d.eight.most); each = d.eight.each }, d.is) in
        let long : length v ≡ 8 = omega (arith, d.eight.least, d.eight.most) in
        let day : is_day n ≡ true = (day_is n).1 (record { year = d.year.0; month = d.month; day = d.day }) in
        is_read None date_text v (Some n) (digits_unmarked v d.eight.each) (rw (eq-eqb (length v) 8 long, s, day))

pub leap_exactly : (y : ℕ) → leap y ≡ true ↔ (y % 4 ≡ 0) × ((y % 100 ≡ 0 → ⊥) ⊎ (y % 400 ≡ 0))
unfolding leap
leap_exactly y = (there, back)
  where
    there : leap y ≡ true → (y % 4 ≡ 0) × ((y % 100 ≡ 0 → ⊥) ⊎ (y % 400 ≡ 0))
    there e =
        let h = and_both (eqb (y % 4) 0) _ e in
        (eqb-true _ 0 h.0, go (either (not (eqb (y % 100) 0)) _ h.1))
      where
        go : (not (eqb (y % 100) 0) ≡ true) ⊎ (eqb (y % 400) 0 ≡ true) → (y % 100 ≡ 0 → ⊥) ⊎ (y % 400 ≡ 0)
        go (inl q) = inl (eqb-false _ 0 (not-true _ q))
        go (inr q) = inr (eqb-true _ 0 q)

    back : (y % 4 ≡ 0) × ((y % 100 ≡ 0 → ⊥) ⊎ (y % 400 ≡ 0)) → leap y ≡ true
    back (h, inl q) = rw (eq-eqb (y % 4) 0 h, ne_eqb (y % 100) 0 q)
    back (h, inr q) = rw (eq-eqb (y % 4) 0 h, eq-eqb (y % 400) 0 q) (or_right (not (eqb (y % 100) 0)) true refl)

pub months : (y : ℕ) → map (days_in y) (1 ∷ 2 ∷ 3 ∷ 4 ∷ 5 ∷ 6 ∷ 7 ∷ 8 ∷ 9 ∷ 10 ∷ 11 ∷ 12 ∷ []) ≡ 31 ∷ cond (leap y) 29 28 ∷ 31 ∷ 30 ∷ 31 ∷ 30 ∷ 31 ∷ 31 ∷ 30 ∷ 31 ∷ 30 ∷ 31 ∷ []
unfolding days_in month_days
months y = refl
