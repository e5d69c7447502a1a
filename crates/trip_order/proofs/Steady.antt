-- The order of the file: where one walk says so, trips stand together and rise in it.
use Prim.Native.Nat.{ℕ, zero, suc, ◌+◌, ◌-◌, ◌≤◌, ◌<◌}
use native.Mathlib.Omega.{arith}
use native.Mathlib.Numerals.{add-one}
use mathlib.Core.Path.{◌≡◌, refl, sym, ap, ◌∙◌}
use mathlib.Core.List.{List}
use mathlib.Core.Bool.{Bool, true, false, cond, not, ◌&&◌, ◌||◌}
use mathlib.Core.Logic.{◌⊎◌, inl, inr}
use lib.Dec.{eqb, ltb, leb}
use lib.ListN.{length}
use borrow.Author.Tests.{ltb-true, lt-ltb, eq-eqb, ne_eqb, leb-true, le-leb, not-true}
use Rattle.meaning.specs.Lists.{some}
use Rattle.meaning.proofs.ListLaws.{both, and_both}
use Rattle.meaning.proofs.Tests.{some_none, agree, either, or_left, or_right, untrue, Found, some_found, found_some}
use Rattle.marks.specs.Marks.{marked, OneMore, met_mark}
use Rattle.ordering.proofs.Laws.{Alike, yes, no, alike}
use Rattle.trip_order.specs.Lines.{Lines, Trips}
use Rattle.trip_order.specs.Cells.{Grouped}
use Rattle.trip_order.specs.Steady.{goes_on, steady, Met}
use Rattle.trip_order.proofs.Groups.{linked_is, before_links, no_fall}

-- ---- the test and the order

module _ (L : Lines) (trips : Trips L) where
  -- one line more
  module _ (i : ℕ) (g : Grouped L (λ x. x) i) (e : goes_on L i ≡ true) where
    -- the new line goes on with a trip and doesn't fall, or no line is of its trip
    which : ((0 < i) × ((L.same i (i + 1) ≡ true) × (L.seq i ≤ L.seq (i + 1)))) ⊎ ((j : ℕ) → 0 < j → j ≤ i → L.same j (i + 1) ≡ true → ⊥)
    unfolding goes_on
    which = go (ltb 0 i && L.same i (i + 1)) refl e
      where
        go : (b : Bool) → (ltb 0 i && L.same i (i + 1)) ≡ b → cond b (leb (L.seq i) (L.seq (i + 1))) (not (some (λ j. L.same j (i + 1)) 1 i)) ≡ true
            → ((0 < i) × ((L.same i (i + 1) ≡ true) × (L.seq i ≤ L.seq (i + 1)))) ⊎ ((j : ℕ) → 0 < j → j ≤ i → L.same j (i + 1) ≡ true → ⊥)
        go true p q = let b = and_both (ltb 0 i) (L.same i (i + 1)) p in inl (ltb-true 0 i b.0, (b.1, leb-true (L.seq i) (L.seq (i + 1)) q))
        go false p q = inr (λ j x y s. both (L.same j (i + 1)) s (some_none (λ j. L.same j (i + 1)) 1 i (not-true (some (λ j. L.same j (i + 1)) 1 i) q) j x (omega arith)))

    -- a line of the new line's trip: the new line goes on with it
    onto : (a : ℕ) → 0 < a → a ≤ i → L.same a (i + 1) ≡ true → (L.same a i ≡ true) × (L.seq i ≤ L.seq (i + 1))
    onto a x y s = go which
      where
        go : ((0 < i) × ((L.same i (i + 1) ≡ true) × (L.seq i ≤ L.seq (i + 1)))) ⊎ ((j : ℕ) → 0 < j → j ≤ i → L.same j (i + 1) ≡ true → ⊥) → (L.same a i ≡ true) × (L.seq i ≤ L.seq (i + 1))
        go (inl h) = (trips.join a (i + 1) i s (trips.turn i (i + 1) h.1.0), h.1.1)
        go (inr h) = absurd (h a x y s)

    grouped_more : Grouped L (λ x. x) (i + 1)
    grouped_more = record {
      together = λ a b c x y z u s. mid a b c x y z u s (alike c (i + 1)) (alike b (i + 1));
      rising = λ a b x y z s. up a b x y z s (alike b (i + 1));
      tied = λ a b x y z s q. y;
    }
      where
        mid : (a b c : ℕ) → 0 < a → a ≤ b → b ≤ c → c ≤ i + 1 → L.same a c ≡ true → Alike c (i + 1) → Alike b (i + 1) → L.same a b ≡ true
        mid a b c x y z u s (no p) q = g.together a b c x y z (omega (arith, p)) s
        mid a b c x y z u s (yes p) (yes q) = let r : c ≡ b = p ∙ sym q in rw r at s
        mid a b c x y z u s (yes p) (no q) = g.together a b i x y (omega (arith, q)) (omega arith) (onto a x (omega (arith, q)) (rw p at s)).0

        up : (a b : ℕ) → 0 < a → a < b → b ≤ i + 1 → L.same a b ≡ true → Alike b (i + 1) → L.seq a ≤ L.seq b
        up a b x y z s (no p) = g.rising a b x y (omega (arith, p)) s
        up a b x y z s (yes p) =
            let o = onto a x (omega arith) (rw p at s) in
            let f : L.seq a ≤ L.seq i = no_fall L trips (λ x. x) i g a i x (omega arith) (omega arith) o.0 in
            rw p (omega (arith, o.1))

  pub steady_grouped : (n : ℕ) → steady L n ≡ true → Grouped L (λ i. i) n
  unfolding steady
  steady_grouped zero e = record {
    together = λ a b c x y z u s. absurd (none a c x (omega arith) u);
    rising = λ a b x y z s. absurd (none a b x (omega arith) z);
    tied = λ a b x y z s q. y;
  }
    where
      none : (a c : ℕ) → 0 < a → a ≤ c → c ≤ 0 → ⊥
      none a c x y z = omega arith
  steady_grouped (suc n) e =
      let b = and_both (goes_on L n) (steady L n) e in
      rw (← add-one n) (grouped_more n (steady_grouped n b.1) b.0)

  -- and the other way: the test finds every such file
  grouped_goes : (n i : ℕ) → i < n → Grouped L (λ x. x) n → goes_on L i ≡ true
  unfolding goes_on
  grouped_goes n i l g = go (ltb 0 i && L.same i (i + 1)) refl
    where
      fresh : (ltb 0 i && L.same i (i + 1)) ≡ false → Found (λ j. L.same j (i + 1)) 1 i → ⊥
      fresh q w =
          let p = before_links L trips (λ x. x) n g w.place (i + 1) w.low (omega (arith, w.high)) (omega arith) w.is in
          let r = linked_is L (λ x. x) (i + 1) p.1 in
          let z : i + 1 - 1 ≡ i = omega arith in
          let s : L.same i (i + 1) ≡ true = rw z at r.1 in
          both (ltb 0 i && L.same i (i + 1)) (rw (lt-ltb 0 i (omega (arith, r.0)), s)) q

      go : (b : Bool) → (ltb 0 i && L.same i (i + 1)) ≡ b → cond b (leb (L.seq i) (L.seq (i + 1))) (not (some (λ j. L.same j (i + 1)) 1 i)) ≡ true
      go true q = let b = and_both (ltb 0 i) (L.same i (i + 1)) q in le-leb (L.seq i) (L.seq (i + 1)) (g.rising i (i + 1) (ltb-true 0 i b.0) (omega arith) (omega arith) b.1)
      go false q = let z : some (λ j. L.same j (i + 1)) 1 i ≡ false = untrue (some (λ j. L.same j (i + 1)) 1 i) (λ e. fresh q (some_found (λ j. L.same j (i + 1)) 1 i e)) in rw z

  pub grouped_steady : (n m : ℕ) → m ≤ n → Grouped L (λ x. x) n → steady L m ≡ true
  unfolding steady
  grouped_steady n zero l g = refl
  grouped_steady n (suc m) l g = rw (grouped_goes n m l g, grouped_steady n m (omega arith) g)

-- ---- the trips met so far

some_last : (P : ℕ → Bool) (i : ℕ) → some P 1 (i + 1) ≡ (P (i + 1) || some P 1 i)
some_last P i = agree (some P 1 (i + 1)) (P (i + 1) || some P 1 i) there back
  where
    there : some P 1 (i + 1) ≡ true → (P (i + 1) || some P 1 i) ≡ true
    there e = let w = some_found P 1 (i + 1) e in go w.place w.low w.high w.is (alike w.place (i + 1))
      where
        go : (j : ℕ) → 1 ≤ j → j < 1 + (i + 1) → P j ≡ true → Alike j (i + 1) → (P (i + 1) || some P 1 i) ≡ true
        go j x y q (yes p) = or_left (P (i + 1)) (some P 1 i) (rw p at q)
        go j x y q (no p) = or_right (P (i + 1)) (some P 1 i) (found_some P 1 i j x (omega (arith, p)) q)

    back : (P (i + 1) || some P 1 i) ≡ true → some P 1 (i + 1) ≡ true
    back e = go (either (P (i + 1)) (some P 1 i) e)
      where
        go : (P (i + 1) ≡ true) ⊎ (some P 1 i ≡ true) → some P 1 (i + 1) ≡ true
        go (inl q) = found_some P 1 (i + 1) (i + 1) (omega arith) (omega arith) q
        go (inr q) = let w = some_found P 1 i q in found_some P 1 (i + 1) w.place w.low (omega (arith, w.high)) w.is

some_same : (P Q : ℕ → Bool) (n : ℕ) → ((j : ℕ) → 0 < j → j ≤ n → P j ≡ Q j) → some P 1 n ≡ some Q 1 n
some_same P Q n h =
    agree (some P 1 n) (some Q 1 n)
    (λ e. let w = some_found P 1 n e in found_some Q 1 n w.place w.low w.high (sym (h w.place w.low (omega (arith, w.high))) ∙ w.is))
    (λ e. let w = some_found Q 1 n e in found_some P 1 n w.place w.low w.high (h w.place w.low (omega (arith, w.high)) ∙ w.is))

pub met_none : (trip : ℕ → ℕ) (m : List ℕ) → ((r : ℕ) → marked m met_mark r ≡ false) → Met trip m 0
unfolding some
met_none trip m blank r l = blank r

-- line i + 1 met
pub met_more : (trip : ℕ → ℕ) (m m' : List ℕ) (i : ℕ) → OneMore m m' met_mark (trip (i + 1)) → Met trip m i → Met trip m' (i + 1)
met_more trip m m' i one s r l = rw (some_last (λ j. eqb (trip j) r) i) (go (alike (trip (i + 1)) r) (rw one.size at l))
  where
    go : Alike (trip (i + 1)) r → r < length m → marked m' met_mark r ≡ (eqb (trip (i + 1)) r || some (λ j. eqb (trip j) r) 1 i)
    go (yes e) k = rw (eq-eqb (trip (i + 1)) r e, ← e) (one.here (rw e k))
    go (no e) k = rw (ne_eqb (trip (i + 1)) r e) (one.other met_mark r (λ b z. e (sym z)) ∙ s r k)

-- what the marks say of the next line
pub met_goes : (L : Lines) (trip : ℕ → ℕ) (m : List ℕ) (i : ℕ) → Met trip m i → trip (i + 1) < length m
    → ((j : ℕ) → 0 < j → j ≤ i → L.same j (i + 1) ≡ eqb (trip j) (trip (i + 1)))
    → goes_on L i ≡ cond (ltb 0 i && eqb (trip i) (trip (i + 1))) (leb (L.seq i) (L.seq (i + 1))) (not (marked m met_mark (trip (i + 1))))
unfolding goes_on
met_goes L trip m i s l key = rw (prior, some_same (λ j. L.same j (i + 1)) (λ j. eqb (trip j) (trip (i + 1))) i key, ← s (trip (i + 1)) l)
  where
    prior : (ltb 0 i && L.same i (i + 1)) ≡ (ltb 0 i && eqb (trip i) (trip (i + 1)))
    prior = go (ltb 0 i) refl
      where
        go : (b : Bool) → ltb 0 i ≡ b → (b && L.same i (i + 1)) ≡ (b && eqb (trip i) (trip (i + 1)))
        go true e = key i (ltb-true 0 i e) (omega arith)
        go false e = refl

-- ---- one line more

pub steady_step : (L : Lines) (k : ℕ) → steady L (k + 1) ≡ (goes_on L k && steady L k)
unfolding steady
steady_step L k = ap (steady L) (add-one k)

pub steady_less : (L : Lines) (i m : ℕ) → steady L (i + m) ≡ true → steady L i ≡ true
steady_less L i zero e = let z : i + 0 ≡ i = omega arith in rw z at e
steady_less L i (suc m) e =
    let next : i + suc m ≡ i + m + 1 = omega arith in
    steady_less L i m (and_both (goes_on L (i + m)) (steady L (i + m)) (sym (steady_step L (i + m)) ∙ (rw next at e))).1
