-- Trip order is not file order: each sentence of document 02's E2 holds of every outcome.
use Prim.Native.Nat.{ℕ, zero, suc, ◌+◌, ◌-◌, ◌≤◌, ◌<◌}
use native.Mathlib.Omega.{arith}
use native.Mathlib.Nat.{add-sub_cancel}
use native.Mathlib.Decide.{ℕ_discrete}
use mathlib.Core.Path.{◌≡◌, refl, sym, ◌∙◌}
use mathlib.Core.Logic.{◌↔◌, ◌⊎◌, inl, inr}
use mathlib.Core.Bool.{Bool, true, false, cond, not, ◌&&◌, ◌||◌}
use mathlib.Core.List.Memᴰ
use mathlib.Core.List.{List, [], Memᴰ}
use lib.IntN.{ℤ}
use lib.ListN.{length, get_or, take, length-map}
use lib.Seq.{get_or-take, length-take-le}
use lib.Dec.{eqb, ltb, leb}
use borrow.Author.Tests.{eqb-true, eq-eqb, ltb-true, ltb-false, lt-ltb, le-ltb, leb-true, leb-false, le-leb, not-true}
use Rattle.meaning.specs.declared.Time.{Time}
use Rattle.meaning.specs.declared.Time.TheVariants.{Seconds, Untimed, NoTime}
use Rattle.meaning.specs.declared.Place.{Place}
use Rattle.meaning.specs.declared.Profile.{Profile}
use Rattle.meaning.specs.declared.Profile.TheVariants.{Plain, Boards}
use Rattle.meaning.specs.Lists.{same, any, some, stands}
use Rattle.meaning.specs.Columns.{Row}
use Rattle.meaning.specs.Forms.{time_of}
use Rattle.meaning.specs.Tables.{Feed, feed_of, rows_in, trip_ids, trip_id, time_trip, arrival_time, departure_time}
use Rattle.meaning.specs.Refusals.{Test, test}
use Rattle.meaning.specs.Rules.{rule20, given, arrives, departs, timed, untimed, sequence, sequence_at, is_of, rule28, outruns, rule29, first_of_trip, ties_before, is_first, is_last, some_untimed, open_ended, rule31, added_rules, trip_rules, time_rules, record_count, rules_of}
use Rattle.meaning.specs.Findings.{finding, findings_of, answer_numbers}
use Rattle.meaning.specs.Outcome.{outcome}
use Rattle.meaning.specs.Promises.{says_accepted}
use Rattle.meaning.specs.TripOrder.{Timed, time_at, LineOf, SequenceAgain, Outrun, FirstLine, LastLine, trip_at, OpenEnded, OnLine, JustOne, TripOrder}
use Rattle.meaning.proofs.ListLaws.{both, and_both, and_second, same_equal, same_self}
use Rattle.meaning.proofs.Laws.{get_d_map_in, place_of}
use Rattle.meaning.proofs.Tests.{either, or_left, or_right, or_neither, not_none, untrue, some_found, some_none, found_some}
use Rattle.meaning.proofs.References.{any_yes, any_no}
use Rattle.meaning.proofs.TheList.{listed_exactly}
use Rattle.meaning.proofs.Pages.{accepted_exactly}

-- ---- a rule's findings

-- a test by its number, broken
is_broken : ℕ → Test → Bool
is_broken r t = eqb t.number r && t.broken

broken_any : (r : ℕ) (ts : List Test) → Memᴰ (test r true) ts → any (is_broken r) ts ≡ true
unfolding is_broken
broken_any r ts m =
    let p = place_of ts (test 0 false) (test r true) m in
    any_yes (is_broken r) (test 0 false) ts p.index p.inside (rw (p.here, eq-eqb r r refl))

-- the findings of a rule stand on the lines that have a property, where the rule is among those of its file once and means that property
module _ (asked : Profile) (w : Feed) (f r : ℕ) (rule : ℕ → Bool) (P : ℕ → Type 0)
    (once : (i : ℕ) → any (is_broken r) (rules_of asked w f i) ≡ cond (rule i) true false)
    (among : (i : ℕ) → Memᴰ (test r (rule i)) (rules_of asked w f i))
    (means : (i : ℕ) → i < record_count w f → rule i ≡ true ↔ P i) where
  on_line_lem : (n : ℕ) → Memᴰ (finding f n r) (findings_of asked w) ↔ OnLine (record_count w f) n P
  on_line_lem n = (there, back)
    where
      sure : (t : Bool) → cond t true false ≡ true → t ≡ true
      sure true e = refl
      sure false e = e

      there : Memᴰ (finding f n r) (findings_of asked w) → OnLine (record_count w f) n P
      there m =
          let b = (listed_exactly asked w f n r).0 m in
          record {
            from = b.from;
            to = b.to;
            has = (means (n - 2) (omega (arith, b.from, b.to))).0 (sure (rule (n - 2)) (sym (once (n - 2)) ∙ broken_any r _ b.rule));
          }

      back : OnLine (record_count w f) n P → Memᴰ (finding f n r) (findings_of asked w)
      back o =
          (listed_exactly asked w f n r).1 (record {
            from = o.from;
            to = o.to;
            rule = rw ((means (n - 2) (omega (arith, o.from, o.to))).1 o.has) at (among (n - 2));
          })

-- ---- rules 28 and 29

timed_exactly : (r : Row) → timed r ≡ true ↔ Timed r
unfolding timed
timed_exactly r = (there (time_of (arrival_time r)) refl (time_of (departure_time r)) refl, λ t. rw (t.arrives, t.departs))
  where
    there : (a : Time) → time_of (arrival_time r) ≡ a → (d : Time) → time_of (departure_time r) ≡ d → (given a && given d) ≡ true → Timed r
    there (Seconds m) p (Seconds n) q e = record { arrival = m; arrives = p; departure = n; departs = q }
    there (Seconds m) p Untimed q e = both false e refl
    there (Seconds m) p NoTime q e = both false e refl
    there Untimed p d q e = both false e refl
    there NoTime p d q e = both false e refl

arrival_is : (r : Row) (t : Timed r) → arrives r ≡ t.arrival
unfolding arrives
arrival_is r t = rw t.arrives

departure_is : (r : Row) (t : Timed r) → departs r ≡ t.departure
unfolding departs
departure_is r t = rw t.departs

module _ (w : Feed) where
  of_exactly : (v : List ℕ) (i : ℕ) → is_of w v i ≡ true ↔ time_trip (time_at w i) ≡ v
  unfolding is_of
  of_exactly v i = (λ e. same_equal _ v e, λ e. rw e (same_self v))

  again_exactly : (i : ℕ) → i < length w.stop_times → rule28 w i ≡ true ↔ SequenceAgain w i
  unfolding rule28 sequence_at
  again_exactly i h = (there, back)
    where
      v : List ℕ
      v = time_trip (time_at w i)

      P : ℕ → Bool
      P j = is_of w v j && eqb (sequence_at w j) (sequence_at w i)

      there : some P 0 i ≡ true → SequenceAgain w i
      there e =
          let k = some_found P 0 i e in
          let b = and_both (is_of w v k.place) _ k.is in
          record { line = k.place; earlier = omega (arith, k.high); of = record { inside = omega (arith, k.high); trip = (of_exactly v k.place).0 b.0 }; equal = eqb-true _ _ b.1 }

      back : SequenceAgain w i → some P 0 i ≡ true
      back a = found_some P 0 i a.line (omega arith) (omega (arith, a.earlier)) (rw ((of_exactly v a.line).1 a.of.trip) (eq-eqb _ _ a.equal))

  outrun_exactly : (i : ℕ) → rule29 w i ≡ true ↔ Outrun w i
  unfolding rule29 outruns sequence_at
  outrun_exactly i = (there, back)
    where
      v : List ℕ
      v = time_trip (time_at w i)

      P : ℕ → Bool
      P j = is_of w v j && outruns w j i

      there : (timed (time_at w i) && some P 0 (length w.stop_times)) ≡ true → Outrun w i
      there e =
          let t = and_both (timed (time_at w i)) _ e in
          let k = some_found P 0 (length w.stop_times) t.1 in
          let j = k.place in
          let a = and_both (is_of w v j) _ k.is in
          let b = and_both (timed (time_at w j)) _ a.1 in
          let c = and_both (ltb (sequence (time_at w j)) (sequence (time_at w i))) _ b.1 in
          let this = (timed_exactly (time_at w i)).0 t.0 in
          let other = (timed_exactly (time_at w j)).0 b.0 in
          let late : arrives (time_at w i) < departs (time_at w j) = ltb-true _ _ c.1 in
          record {
            this = this;
            line = j;
            of = record { inside = omega (arith, k.high); trip = (of_exactly v j).0 a.0 };
            smaller = ltb-true _ _ c.0;
            other = other;
            after = rw (arrival_is _ this, departure_is _ other) at late;
          }

      back : Outrun w i → (timed (time_at w i) && some P 0 (length w.stop_times)) ≡ true
      back o =
          let j = o.line in
          let late : arrives (time_at w i) < departs (time_at w j) = rw (arrival_is _ o.this, departure_is _ o.other) o.after in
          let here : P j ≡ true = rw ((of_exactly v j).1 o.of.trip, (timed_exactly (time_at w j)).1 o.other, lt-ltb _ _ o.smaller) (lt-ltb _ _ late) in
          rw ((timed_exactly (time_at w i)).1 o.this) (found_some P 0 (length w.stop_times) j (omega arith) (omega (arith, o.of.inside)) here)

-- ---- the first and the last line of a trip

-- of the indexes below a bound that pass a test, the best by an order and, among equals, the earliest
record Best (C : ℕ → Bool) (le : ℕ → ℕ → Bool) (n : ℕ) : Type 0 where
  which : ℕ
  inside : which < n
  passes : C which ≡ true
  best : (j : ℕ) → j < n → C j ≡ true → le which j ≡ true
  earliest : (j : ℕ) → j < n → C j ≡ true → le j which ≡ true → which ≤ j

module _ (C : ℕ → Bool) (le : ℕ → ℕ → Bool)
    (total : (i j : ℕ) → le i j ≡ false → le j i ≡ true)
    (trans : (i j k : ℕ) → le i j ≡ true → le j k ≡ true → le i k ≡ true) where
  own : (i : ℕ) → le i i ≡ true
  own i = not_none (le i i) (λ e. both (le i i) (total i i e) e)

  -- one index more
  best_next : (n : ℕ) → C n ≡ true → Best C le n → Best C le (suc n)
  best_next n c b = go (le b.which n) refl
    where
      k : ℕ
      k = b.which

      go : (t : Bool) → le k n ≡ t → Best C le (suc n)
      go true e = record { which = k; inside = omega (arith, b.inside); passes = b.passes; best = λ j h q. best j h q (ℕ_discrete j n); earliest = λ j h q u. early j h q u (ℕ_discrete j n) }
        where
          best : (j : ℕ) → j < suc n → C j ≡ true → Dec (j ≡ n) → le k j ≡ true
          best j h q (yes z) = rw z e
          best j h q (no z) = b.best j (omega (arith, z)) q

          early : (j : ℕ) → j < suc n → C j ≡ true → le j k ≡ true → Dec (j ≡ n) → k ≤ j
          early j h q u (yes z) = omega (arith, b.inside)
          early j h q u (no z) = b.earliest j (omega (arith, z)) q u
      go false e = record { which = n; inside = omega arith; passes = c; best = λ j h q. best j h q (ℕ_discrete j n); earliest = λ j h q u. early j h q u (ℕ_discrete j n) }
        where
          over : le n k ≡ true
          over = total k n e

          best : (j : ℕ) → j < suc n → C j ≡ true → Dec (j ≡ n) → le n j ≡ true
          best j h q (yes z) = rw z (own n)
          best j h q (no z) = trans n k j over (b.best j (omega (arith, z)) q)

          early : (j : ℕ) → j < suc n → C j ≡ true → le j n ≡ true → Dec (j ≡ n) → n ≤ j
          early j h q u (yes z) = omega arith
          early j h q u (no z) = both (le k n) (trans k j n (b.best j (omega (arith, z)) q) u) e

  -- the only one
  best_first : (n : ℕ) → C n ≡ true → ((j : ℕ) → j < n → C j ≡ false) → Best C le (suc n)
  best_first n c none = record { which = n; inside = omega arith; passes = c; best = λ j h q. best j h q (ℕ_discrete j n); earliest = λ j h q u. early j h q (ℕ_discrete j n) }
    where
      best : (j : ℕ) → j < suc n → C j ≡ true → Dec (j ≡ n) → le n j ≡ true
      best j h q (yes z) = rw z (own n)
      best j h q (no z) = both (C j) q (none j (omega (arith, z)))

      early : (j : ℕ) → j < suc n → C j ≡ true → Dec (j ≡ n) → n ≤ j
      early j h q (yes z) = omega arith
      early j h q (no z) = both (C j) q (none j (omega (arith, z)))

  -- there is one, or none passes
  searched : (n : ℕ) → Best C le n ⊎ ((j : ℕ) → j < n → C j ≡ false)
  searched zero = inr (λ j h. absurd (omega arith))
  searched (suc n) = go (searched n) (C n) refl
    where
      go : Best C le n ⊎ ((j : ℕ) → j < n → C j ≡ false) → (t : Bool) → C n ≡ t → Best C le (suc n) ⊎ ((j : ℕ) → j < suc n → C j ≡ false)
      go (inl b) true c = inl (best_next n c b)
      go (inl b) false c = inl (record { which = b.which; inside = omega (arith, b.inside); passes = b.passes; best = λ j h q. b.best j (below j h q) q; earliest = λ j h q u. b.earliest j (below j h q) q u })
        where
          below : (j : ℕ) → j < suc n → C j ≡ true → j < n
          below j h q = let z : j ≡ n → ⊥ = λ z. both (C n) (rw z at q) c in omega arith
      go (inr none) true c = inl (best_first n c none)
      go (inr none) false c = inr (λ j h. all j h (ℕ_discrete j n))
        where
          all : (j : ℕ) → j < suc n → Dec (j ≡ n) → C j ≡ false
          all j h (yes z) = rw z c
          all j h (no z) = none j (omega (arith, z))

  one_best : (n i : ℕ) → i < n → C i ≡ true → Best C le n
  one_best n i h c = go (searched n)
    where
      go : Best C le n ⊎ ((j : ℕ) → j < n → C j ≡ false) → Best C le n
      go (inl b) = b
      go (inr none) = both (C i) c (none i h)

module _ (w : Feed) (v : List ℕ) where
  abbrev count : ℕ
  count = length w.stop_times

  abbrev seq : ℕ → ℕ
  seq j = sequence (time_at w j)

  line_of : (j : ℕ) → j < count → is_of w v j ≡ true → LineOf w v j
  line_of j h e = record { inside = h; trip = (of_exactly w v j).0 e }

  is_of_lem : (j : ℕ) → LineOf w v j → is_of w v j ≡ true
  is_of_lem j l = (of_exactly w v j).1 l.trip

  one_first : (i : ℕ) → LineOf w v i → JustOne (FirstLine w v)
  one_first i l = record { which = b.which; is = is; only = only }
    where
      b : Best (is_of w v) (λ j k. leb (seq j) (seq k)) count
      b = one_best (is_of w v) (λ j k. leb (seq j) (seq k))
          (λ j k e. le-leb (seq k) (seq j) (omega (arith, leb-false (seq j) (seq k) e)))
          (λ j k m p q. le-leb (seq j) (seq m) (omega (arith, leb-true (seq j) (seq k) p, leb-true (seq k) (seq m) q)))
          count i l.inside (is_of_lem i l)

      is : FirstLine w v b.which
      is = record {
        of = line_of b.which b.inside b.passes;
        smallest = λ j m. leb-true _ _ (b.best j m.inside (is_of_lem j m));
        earliest = λ j m e. b.earliest j m.inside (is_of_lem j m) (le-leb (seq j) (seq b.which) (omega arith));
      }

      only : (j : ℕ) → FirstLine w v j → j ≡ b.which
      only j f =
          let level : seq j ≡ seq b.which = omega (arith, f.smallest b.which is.of, is.smallest j f.of) in
          omega (arith, f.earliest b.which is.of (sym level), is.earliest j f.of level)

  one_last : (i : ℕ) → LineOf w v i → JustOne (LastLine w v)
  one_last i l = record { which = b.which; is = is; only = only }
    where
      b : Best (is_of w v) (λ j k. leb (seq k) (seq j)) count
      b = one_best (is_of w v) (λ j k. leb (seq k) (seq j))
          (λ j k e. le-leb (seq j) (seq k) (omega (arith, leb-false (seq k) (seq j) e)))
          (λ j k m p q. le-leb (seq m) (seq j) (omega (arith, leb-true (seq k) (seq j) p, leb-true (seq m) (seq k) q)))
          count i l.inside (is_of_lem i l)

      is : LastLine w v b.which
      is = record {
        of = line_of b.which b.inside b.passes;
        largest = λ j m. leb-true _ _ (b.best j m.inside (is_of_lem j m));
        earliest = λ j m e. b.earliest j m.inside (is_of_lem j m) (le-leb (seq b.which) (seq j) (omega arith));
      }

      only : (j : ℕ) → LastLine w v j → j ≡ b.which
      only j f =
          let level : seq j ≡ seq b.which = omega (arith, f.largest b.which is.of, is.largest j f.of) in
          omega (arith, f.earliest b.which is.of (sym level), is.earliest j f.of level)

  -- what `is_first` and `is_last` say: no line of the trip comes further out, or ties before
  no_further : (further : ℕ → Bool) (i : ℕ) → some (λ j. is_of w v j && (further j || ties_before w j i)) 0 count ≡ false ↔ ((j : ℕ) → LineOf w v j → (further j ≡ false) × (seq j ≡ seq i → i ≤ j))
  unfolding ties_before sequence_at
  no_further further i = (there, back)
    where
      P : ℕ → Bool
      P j = is_of w v j && (further j || (eqb (seq j) (seq i) && ltb j i))

      there : some P 0 count ≡ false → (j : ℕ) → LineOf w v j → (further j ≡ false) × (seq j ≡ seq i → i ≤ j)
      there e j l =
          let none = and_second _ _ (some_none P 0 count e j (omega arith) (omega (arith, l.inside))) (is_of_lem j l) in
          let g = or_neither (further j) _ none in
          (g.0, λ z. ltb-false j i (and_second (eqb (seq j) (seq i)) _ g.1 (eq-eqb _ _ z)))

      back : ((j : ℕ) → LineOf w v j → (further j ≡ false) × (seq j ≡ seq i → i ≤ j)) → some P 0 count ≡ false
      back h = untrue (some P 0 count) (λ e. let k = some_found P 0 count e in let b = and_both (is_of w v k.place) _ k.is in clash k.place (line_of k.place (omega (arith, k.high)) b.0) (either (further k.place) _ b.1))
        where
          clash : (j : ℕ) → LineOf w v j → (further j ≡ true) ⊎ ((eqb (seq j) (seq i) && ltb j i) ≡ true) → ⊥
          clash j l (inl q) = both (further j) q (h j l).0
          clash j l (inr q) =
              let b = and_both (eqb (seq j) (seq i)) (ltb j i) q in
              omega (arith, ltb-true j i b.1, (h j l).1 (eqb-true _ _ b.0))

  first_exactly : (i : ℕ) → i < count → is_first w v i ≡ true ↔ FirstLine w v i
  unfolding is_first sequence_at
  first_exactly i h = (there, back)
    where
      none : some (λ j. is_of w v j && (ltb (seq j) (seq i) || ties_before w j i)) 0 count ≡ false ↔ ((j : ℕ) → LineOf w v j → (ltb (seq j) (seq i) ≡ false) × (seq j ≡ seq i → i ≤ j))
      none = no_further (λ j. ltb (seq j) (seq i)) i

      there : is_first w v i ≡ true → FirstLine w v i
      there e =
          let b = and_both (is_of w v i) _ e in
          let g = none.0 (not-true _ b.1) in
          record { of = line_of i h b.0; smallest = λ j l. ltb-false _ _ (g j l).0; earliest = λ j l. (g j l).1 }

      back : FirstLine w v i → is_first w v i ≡ true
      back f = rw (is_of_lem i f.of, none.1 (λ j l. (le-ltb _ _ (f.smallest j l), f.earliest j l)))

  last_exactly : (i : ℕ) → i < count → is_last w v i ≡ true ↔ LastLine w v i
  unfolding is_last sequence_at
  last_exactly i h = (there, back)
    where
      none : some (λ j. is_of w v j && (ltb (seq i) (seq j) || ties_before w j i)) 0 count ≡ false ↔ ((j : ℕ) → LineOf w v j → (ltb (seq i) (seq j) ≡ false) × (seq j ≡ seq i → i ≤ j))
      none = no_further (λ j. ltb (seq i) (seq j)) i

      there : is_last w v i ≡ true → LastLine w v i
      there e =
          let b = and_both (is_of w v i) _ e in
          let g = none.0 (not-true _ b.1) in
          record { of = line_of i h b.0; largest = λ j l. ltb-false _ _ (g j l).0; earliest = λ j l. (g j l).1 }

      back : LastLine w v i → is_last w v i ≡ true
      back f = rw (is_of_lem i f.of, none.1 (λ j l. (le-ltb _ _ (f.largest j l), f.earliest j l)))

-- ---- rule 31

-- some line of which a test holds, as it says, isn't timed
record UntimedLine (w : Feed) (P : ℕ → Type 0) : Type 0 where
  line : ℕ
  inside : line < length w.stop_times
  is : P line
  is_untimed : Timed (time_at w line) → ⊥

untimed_some : (w : Feed) (test : ℕ → Bool) (P : ℕ → Type 0) → ((j : ℕ) → j < length w.stop_times → test j ≡ true ↔ P j) → some_untimed w test ≡ true ↔ UntimedLine w P
unfolding some_untimed untimed
untimed_some w test P means = (there, back)
  where
    Q : ℕ → Bool
    Q j = test j && not (timed (time_at w j))

    there : some Q 0 (length w.stop_times) ≡ true → UntimedLine w P
    there e =
        let k = some_found Q 0 (length w.stop_times) e in
        let h : k.place < length w.stop_times = omega (arith, k.high) in
        let b = and_both (test k.place) _ k.is in
        record { line = k.place; inside = h; is = (means k.place h).0 b.0; is_untimed = λ t. both _ ((timed_exactly _).1 t) (not-true _ b.1) }

    back : UntimedLine w P → some Q 0 (length w.stop_times) ≡ true
    back u = found_some Q 0 (length w.stop_times) u.line (omega arith) (omega (arith, u.inside)) (rw ((means u.line u.inside).1 u.is, untrue _ (λ e. u.is_untimed ((timed_exactly _).0 e))))

module _ (w : Feed) (i : ℕ) (h : i < length w.trips) where
  trip_at_lem : (j : ℕ) → j < length w.trips → get_or (trip_ids w) j [] ≡ trip_at w j
  unfolding trip_ids
  trip_at_lem j g = get_d_map_in trip_id w.trips j [] [] g

  -- the first line of its trip_id
  first_of_id : first_of_trip w i ≡ true ↔ ((j : ℕ) → j < i → trip_at w j ≡ trip_at w i → ⊥)
  unfolding first_of_trip rule20 stands
  first_of_id = (there, back)
    where
      front : length (take i (trip_ids w)) ≡ i
      front = length-take-le i (trip_ids w) (omega (arith, ids))
        where
          ids : length (trip_ids w) ≡ length w.trips
          ids = unfold trip_ids in length-map w.trips trip_id

      at : (j : ℕ) → j < i → get_or (take i (trip_ids w)) j [] ≡ trip_at w j
      at j g = get_or-take i (trip_ids w) j [] g ∙ trip_at_lem j (omega arith)

      Q : List ℕ → Bool
      Q u = same u (get_or (trip_ids w) i [])

      there : not (any Q (take i (trip_ids w))) ≡ true → (j : ℕ) → j < i → trip_at w j ≡ trip_at w i → ⊥
      there e j g z = both (any Q (take i (trip_ids w))) (any_yes Q [] (take i (trip_ids w)) j (omega (arith, front)) (rw (at j g, trip_at_lem i h, z) (same_self (trip_at w i)))) (not-true _ e)

      back : ((j : ℕ) → j < i → trip_at w j ≡ trip_at w i → ⊥) → not (any Q (take i (trip_ids w))) ≡ true
      back f = rw (any_no Q [] (take i (trip_ids w)) (λ j g. untrue _ (λ e. f j (omega (arith, front)) (sym (at j (omega (arith, front))) ∙ same_equal _ _ e ∙ trip_at_lem i h))))

  open_exactly : rule31 w i ≡ true ↔ OpenEnded w i
  unfolding rule31 open_ended
  open_exactly = (there, back)
    where
      v : List ℕ
      v = trip_at w i

      starts : some_untimed w (is_first w v) ≡ true ↔ UntimedLine w (FirstLine w v)
      starts = untimed_some w (is_first w v) (FirstLine w v) (first_exactly w v)

      ends : some_untimed w (is_last w v) ≡ true ↔ UntimedLine w (LastLine w v)
      ends = untimed_some w (is_last w v) (LastLine w v) (last_exactly w v)

      there : rule31 w i ≡ true → OpenEnded w i
      there e =
          let b = and_both (first_of_trip w i) _ e in
          go (first_of_id.0 b.0) (either (some_untimed w (is_first w v)) _ b.1)
        where
          go : ((j : ℕ) → j < i → trip_at w j ≡ v → ⊥) → (some_untimed w (is_first w v) ≡ true) ⊎ (some_untimed w (is_last w v) ≡ true) → OpenEnded w i
          go f (inl q) = let u = starts.0 q in record { first_of_id = f; line = u.line; end = inl u.is; untimed = u.is_untimed }
          go f (inr q) = let u = ends.0 q in record { first_of_id = f; line = u.line; end = inr u.is; untimed = u.is_untimed }

      back : OpenEnded w i → rule31 w i ≡ true
      back o = rw (first_of_id.1 o.first_of_id) (go o.end)
        where
          go : FirstLine w v o.line ⊎ LastLine w v o.line → (some_untimed w (is_first w v) || some_untimed w (is_last w v)) ≡ true
          go (inl f) = or_left _ _ (starts.1 (record { line = o.line; inside = f.of.inside; is = f; is_untimed = o.untimed }))
          go (inr f) = or_right (some_untimed w (is_first w v)) _ (ends.1 (record { line = o.line; inside = f.of.inside; is = f; is_untimed = o.untimed }))

-- ---- the outcome

module _ (asked : Profile) (w : Feed) where
  twenty_eight : (n : ℕ) → Memᴰ (finding 5 n 28) (findings_of asked w) ↔ OnLine (length w.stop_times) n (SequenceAgain w)
  unfolding record_count rows_in rules_of time_rules added_rules any is_broken
  twenty_eight = on_line_lem asked w 5 28 (rule28 w) (SequenceAgain w) (once asked) (λ i. Memᴰ.tail (Memᴰ.tail (Memᴰ.tail (Memᴰ.tail (Memᴰ.head refl))))) (again_exactly w)
    where
      once : (p : Profile) (i : ℕ) → any (is_broken 28) (rules_of p w 5 i) ≡ cond (rule28 w i) true false
      once Plain i = refl
      once Boards i = refl

  twenty_nine : (n : ℕ) → Memᴰ (finding 5 n 29) (findings_of asked w) ↔ OnLine (length w.stop_times) n (Outrun w)
  unfolding record_count rows_in rules_of time_rules added_rules any is_broken
  twenty_nine = on_line_lem asked w 5 29 (rule29 w) (Outrun w) (once asked) (λ i. Memᴰ.tail (Memᴰ.tail (Memᴰ.tail (Memᴰ.tail (Memᴰ.tail (Memᴰ.head refl)))))) (λ i h. outrun_exactly w i)
    where
      once : (p : Profile) (i : ℕ) → any (is_broken 29) (rules_of p w 5 i) ≡ cond (rule29 w i) true false
      once Plain i = refl
      once Boards i = refl

  thirty_one : (n : ℕ) → Memᴰ (finding 4 n 31) (findings_of asked w) ↔ OnLine (length w.trips) n (OpenEnded w)
  unfolding record_count rows_in rules_of trip_rules any is_broken
  thirty_one = on_line_lem asked w 4 31 (rule31 w) (OpenEnded w) (λ i. refl) (λ i. Memᴰ.tail (Memᴰ.tail (Memᴰ.tail (Memᴰ.head refl)))) (open_exactly w)

module _ (files : List (List ℕ)) (tables : List (List ℤ)) (list : List ℤ) (p : Place) (asked : Profile) where
  abbrev feed : Feed
  feed = feed_of files

  -- in an accepted feed no line has a property that a rule lists
  unlisted : (f r count : ℕ) (P : ℕ → Type 0) → ((n : ℕ) → Memᴰ (finding f n r) (findings_of asked feed) ↔ OnLine count n P)
      → answer_numbers (outcome files tables list p asked).answer ≡ says_accepted → (i : ℕ) → i < count → P i → ⊥
  unlisted f r count P lists e i h q =
      Memᴰ.not-nil (rw ((accepted_exactly files tables list p asked).0 e).1 at ((lists (i + 2)).1 (record { from = omega arith; to = omega arith; has = rw (add-sub_cancel i 2) q })))

  pub trip_order : TripOrder files asked (outcome files tables list p asked)
  trip_order = record {
    twenty_eight = twenty_eight asked;
    twenty_nine = twenty_nine asked;
    thirty_one = thirty_one asked;
    one_first = one_first;
    one_last = one_last;
    in_order_lem = λ e i h. (unlisted 5 28 _ (SequenceAgain feed) (twenty_eight asked feed) e i h, unlisted 5 29 _ (Outrun feed) (twenty_nine asked feed) e i h);
    timed_ends = λ e i h. unlisted 4 31 _ (OpenEnded feed) (thirty_one asked feed) e i h;
  }
