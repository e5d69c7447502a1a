-- Marks told one after the other: of lines, cell by cell, and of trips, group by group.
use Prim.Native.Nat.{ℕ, ◌+◌, ◌≤◌, ◌<◌}
use native.Mathlib.Omega.{arith}
use mathlib.Core.Path.{◌≡◌, refl, sym, ap, ◌∙◌}
use mathlib.Core.List.{List}
use mathlib.Core.Bool.{Bool, true, false, ◌||◌}
use lib.Dec.{eqb}
use lib.ListN.{length}
use borrow.Author.Tests.{eqb-true, eq-eqb}
use Rattle.meaning.specs.Lists.{some}
use Rattle.meaning.proofs.ListLaws.{both}
use Rattle.meaning.proofs.Tests.{some_none, Found, some_found}
use Rattle.marks.specs.Marks.{marked, MarkedIf}
use Rattle.ordering.specs.Ids.{Whole, Apart}
use Rattle.ordering.proofs.Laws.{Alike, yes, no, alike}
use Rattle.trip_order.specs.Lines.{Lines, Trips}
use Rattle.trip_order.specs.Cells.{Grouped, ends}
use Rattle.trip_order.proofs.Ends.{past_end, end_of}
use Rattle.trip_walk.specs.Told.{ToldTwo}

-- ---- two marks

or_none : (p q : Bool) → q ≡ false → (p || q) ≡ p
or_none true q e = refl
or_none false q e = e

pub told_both : (m u v : List ℕ) (b c r : ℕ) (p q : Bool) → b < c → MarkedIf p m u b r → MarkedIf q u v c r → ToldTwo m v b p c q r
told_both m u v b c r p q l d e = record {
  size = e.size ∙ d.size;
  first = λ h z. e.other b r (λ i j k. differ i) ∙ d.here h ∙ or_none p _ z;
  second = λ h z. e.here (rw d.size h) ∙ or_none q _ (d.other c r (λ i j k. differ (sym i)) ∙ z);
  other = λ k x i j. e.other k x (λ y z t. j y z) ∙ d.other k x (λ y z t. i y z);
}
  where
    differ : b ≡ c → ⊥
    differ i = omega arith

-- ---- lines

-- mark b says P of the lines in the cells below k, and is not set for the others
pub record Lined (f : ℕ → ℕ) (n k : ℕ) (b : ℕ) (P : ℕ → Bool) (m : List ℕ) : Type 0 where
  pub told : (a : ℕ) → 0 < a → a < k → a ≤ n → marked m b (f a) ≡ P (f a)
  pub rest : (a : ℕ) → k ≤ a → a ≤ n → marked m b (f a) ≡ false

module _ (f : ℕ → ℕ) (n : ℕ) (b : ℕ) (P : ℕ → Bool) where
  pub lined_none : (m : List ℕ) → ((r : ℕ) → marked m b r ≡ false) → Lined f n 1 b P m
  lined_none m blank = record { told = λ a u v w. absurd (none a u v); rest = λ a u v. blank (f a) }
    where
      none : (a : ℕ) → 0 < a → a < 1 → ⊥
      none a u v = omega arith

  -- another mark changes
  pub lined_as : (k : ℕ) (m m' : List ℕ) → ((r : ℕ) → marked m' b r ≡ marked m b r) → Lined f n k b P m → Lined f n k b P m'
  lined_as k m m' e d = record { told = λ a u v w. e (f a) ∙ d.told a u v w; rest = λ a u v. e (f a) ∙ d.rest a u v }

  pub lined_more : Apart f n → (k : ℕ) (m m' : List ℕ) → 0 < k → k ≤ n → (marked m b (f k) ≡ false → marked m' b (f k) ≡ P (f k))
      → ((r : ℕ) → (r ≡ f k → ⊥) → marked m' b r ≡ marked m b r) → Lined f n k b P m → Lined f n (k + 1) b P m'
  unfolding Apart
  lined_more apart k m m' low high here other d = record {
    told = λ a u v w. go a u v w (alike a k);
    rest = λ a u v. other (f a) (λ e. apart k a low (omega arith) v (sym e)) ∙ d.rest a (omega arith) v;
  }
    where
      go : (a : ℕ) → 0 < a → a < k + 1 → a ≤ n → Alike a k → marked m' b (f a) ≡ P (f a)
      go a u v w (yes e) = rw e (here (d.rest k (omega arith) high))
      go a u v w (no e) = let l : a < k = omega (arith, e) in other (f a) (λ z. apart a k u l high z) ∙ d.told a u l w

  pub lined_all : Whole f n → (k : ℕ) (m : List ℕ) → n < k → Lined f n k b P m → (x : ℕ) → 0 < x → x ≤ n → marked m b x ≡ P x
  lined_all whole k m l d x a c = let p = whole.each x a c in rw p.is at (d.told p.place p.low (omega (arith, p.high)) p.high)

-- ---- trips

-- mark b says Q of the trips whose groups end in the cells up to d, and is not set for the others
pub record Ended (L : Lines) (trip f : ℕ → ℕ) (n d : ℕ) (b : ℕ) (Q : ℕ → Bool) (m : List ℕ) : Type 0 where
  pub told : (a : ℕ) → 0 < a → a ≤ d → a ≤ n → ends L f n a ≡ true → 0 < trip (f a) → trip (f a) < length m → marked m b (trip (f a)) ≡ Q (trip (f a))
  pub rest : (r : ℕ) → 0 < r → ((a : ℕ) → 0 < a → a ≤ d → a ≤ n → ends L f n a ≡ true → trip (f a) ≡ r → ⊥) → marked m b r ≡ false

module _ (L : Lines) (trips : Trips L) (trip f : ℕ → ℕ) (n : ℕ) (g : Grouped L f n)
    (key : (x y : ℕ) → 0 < trip y → L.same x y ≡ eqb (trip x) (trip y)) (b : ℕ) (Q : ℕ → Bool) where
  pub ended_none : (m : List ℕ) → ((r : ℕ) → marked m b r ≡ false) → Ended L trip f n 0 b Q m
  ended_none m blank = record { told = λ a u v w. absurd (none a u v); rest = λ r u v. blank r }
    where
      none : (a : ℕ) → 0 < a → a ≤ 0 → ⊥
      none a u v = omega arith

  -- another mark changes
  pub ended_as : (d : ℕ) (m m' : List ℕ) → length m' ≡ length m → ((r : ℕ) → marked m' b r ≡ marked m b r) → Ended L trip f n d b Q m → Ended L trip f n d b Q m'
  ended_as d m m' size e v = record {
    told = λ a u w x y z l. e (trip (f a)) ∙ v.told a u w x y z (rw size at l);
    rest = λ r u w. e r ∙ v.rest r u w;
  }

  -- the group goes on
  pub ended_on : (d : ℕ) (m : List ℕ) → ends L f n (d + 1) ≡ false → Ended L trip f n d b Q m → Ended L trip f n (d + 1) b Q m
  ended_on d m no_end v = record {
    told = λ a u w x y z l. v.told a u (before a w y) x y z l;
    rest = λ r u w. v.rest r u (λ a x y z i. w a x (up a y) z i);
  }
    where
      before : (a : ℕ) → a ≤ d + 1 → ends L f n a ≡ true → a ≤ d
      before a w y = go (alike a (d + 1))
        where
          go : Alike a (d + 1) → a ≤ d
          go (yes e) = both (ends L f n (d + 1)) (rw e at y) no_end
          go (no e) = omega (arith, e)

      up : (a : ℕ) → a ≤ d → a ≤ d + 1
      up a y = omega arith

  one_trip_lem : (x y : ℕ) → 0 < trip y → trip x ≡ trip y → L.same x y ≡ true
  one_trip_lem x y h e = key x y h ∙ eq-eqb (trip x) (trip y) e

  -- it ends, and its trip is told of
  pub ended_more : (d : ℕ) (m m' : List ℕ) → d + 1 ≤ n → ends L f n (d + 1) ≡ true → length m' ≡ length m
      → (0 < trip (f (d + 1)) → trip (f (d + 1)) < length m → marked m b (trip (f (d + 1))) ≡ false → marked m' b (trip (f (d + 1))) ≡ Q (trip (f (d + 1))))
      → ((r : ℕ) → (r ≡ trip (f (d + 1)) → ⊥) → marked m' b r ≡ marked m b r) → Ended L trip f n d b Q m → Ended L trip f n (d + 1) b Q m'
  ended_more d m m' high end size here other v = record {
    told = λ a u w x y z l. go a u w x y z (rw size at l) (alike a (d + 1));
    rest = λ r u w. other r (λ e. w (d + 1) (omega arith) (omega arith) high end (sym e)) ∙ v.rest r u (λ a x y z i. w a x (omega arith) z i);
  }
    where
      -- no group before is of this trip
      apart : (a : ℕ) → 0 < a → a ≤ d → ends L f n a ≡ true → 0 < trip (f a) → trip (f a) ≡ trip (f (d + 1)) → ⊥
      apart a u w y z e = past_end L trips f n g a u y (d + 1) (omega arith) high (one_trip_lem (f (d + 1)) (f a) z (sym e))

      go : (a : ℕ) → 0 < a → a ≤ d + 1 → a ≤ n → ends L f n a ≡ true → 0 < trip (f a) → trip (f a) < length m → Alike a (d + 1) → marked m' b (trip (f a)) ≡ Q (trip (f a))
      go a u w x y z l (yes e) =
          let z' : 0 < trip (f (d + 1)) = rw e at z in
          rw e (here z' (rw e at l) (v.rest (trip (f (d + 1))) z' (λ c i j h k q. apart c i j k (rw q z') q)))
      go a u w x y z l (no e) =
          let h : a ≤ d = omega (arith, e) in
          other (trip (f a)) (λ q. apart a u h y z q) ∙ v.told a u h x y z l

  -- all groups have ended: each trip is told of, one with no line by no mark
  pub ended_all : Whole f n → ((x y : ℕ) → L.same x y ≡ true → trip x ≡ trip y) → (m : List ℕ) → Ended L trip f n n b Q m
      → ((r : ℕ) → ((y : ℕ) → 0 < y → y ≤ n → eqb (trip y) r ≡ false) → Q r ≡ false) → (r : ℕ) → 0 < r → r < length m → marked m b r ≡ Q r
  ended_all whole one m v none r low high = go (some (λ y. eqb (trip y) r) 1 n) refl
    where
      there : Found (λ y. eqb (trip y) r) 1 n → marked m b r ≡ Q r
      there w =
          let p = whole.each w.place w.low (omega (arith, w.high)) in
          let e = end_of L trips f n g n p.place (omega arith) p.low p.high in
          let i : trip w.place ≡ r = eqb-true (trip w.place) r w.is in
          let j : trip (f e.place) ≡ r = sym (one (f p.place) (f e.place) e.trip) ∙ ap trip p.is ∙ i in
          rw j at (v.told e.place (omega (arith, p.low, e.low)) e.high e.high e.is (rw j low) (rw j high))

      go : (t : Bool) → some (λ y. eqb (trip y) r) 1 n ≡ t → marked m b r ≡ Q r
      go true e = there (some_found (λ y. eqb (trip y) r) 1 n e)
      go false e =
          let out : (y : ℕ) → 0 < y → y ≤ n → eqb (trip y) r ≡ false = λ y a c. some_none (λ y. eqb (trip y) r) 1 n e y a (omega arith) in
          v.rest r low (λ a u w x y q. let i = whole.within a u x in both (eqb (trip (f a)) r) (eq-eqb (trip (f a)) r q) (out (f a) i.0 i.1)) ∙ sym (none r out)
