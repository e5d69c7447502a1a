-- The lines of a waiting table: when two are of one trip, what the order tells of them, and what stays while its cells change.
use Prim.Native.Nat.{ℕ, ◌+◌, ◌*◌, ◌<◌}
use native.Mathlib.Omega.{arith}
use mathlib.Core.Path.{◌≡◌, refl, sym, ap, ◌∙◌, fun_ext}
use mathlib.Core.List.{List, []}
use mathlib.Core.Bool.{true, not, ◌&&◌}
use lib.Dec.{eqb}
use lib.IntN.{ℤ}
use borrow.Author.Tests.{eqb-true, eq-eqb, ne_eqb}
use Rattle.meaning.specs.declared.Time.{Time}
use Rattle.meaning.specs.Lists.{same}
use Rattle.meaning.specs.Rules.{given, seconds_of}
use Rattle.meaning.proofs.ListLaws.{and_both, same_equal, same_self}
use Rattle.rows.specs.Cells.{nat_at, time_in, time_at}
use Rattle.ordering.specs.declared.By.TheVariants.{TripAndSequence}
use Rattle.ordering.specs.Cells.{KeptAt}
use Rattle.ordering.specs.Ids.{trip_of, key_of, stray_id, in_order}
use Rattle.ordering.proofs.Laws.{keys_kept, trips_kept, strays_kept}
use Rattle.ordering.proofs.Trips.{trips_together, sequences_rise}
use Rattle.trip_order.specs.Lines.{Lines, Trips, rule28, rule29, rule30, rule31}
use Rattle.trip_order.specs.Steady.{ByTrip}
use Rattle.meaning.proofs.Tests.{agree}
use Rattle.trip_walk.specs.Table.{same_in, timed_in, lines_in}
use Rattle.trip_walk.specs.Told.{Told}

-- ---- lines of one trip

-- a line's trip as it is read
pub trip_is : (t : List ℤ) (x r : ℕ) → r ≡ nat_at t (x * 8) → trip_of t 8 x ≡ r
unfolding trip_of
trip_is t x r e = sym e

module _ (s : List ℕ) (t : List ℤ) where
  same_is : (x y : ℕ) → same_in s t x y ≡ true → (trip_of t 8 x ≡ trip_of t 8 y) × (stray_id s t 8 x ≡ stray_id s t 8 y)
  unfolding same_in
  same_is x y e =
      let b = and_both (eqb (trip_of t 8 x) (trip_of t 8 y)) (same (stray_id s t 8 x) (stray_id s t 8 y)) e in
      (eqb-true (trip_of t 8 x) (trip_of t 8 y) b.0, same_equal (stray_id s t 8 x) (stray_id s t 8 y) b.1)

  is_same : (x y : ℕ) → trip_of t 8 x ≡ trip_of t 8 y → stray_id s t 8 x ≡ stray_id s t 8 y → same_in s t x y ≡ true
  unfolding same_in
  is_same x y p q = rw (eq-eqb (trip_of t 8 x) (trip_of t 8 y) p, q) (same_self (stray_id s t 8 y))

  pub trips_in : Trips (lines_in s t)
  trips_in = record {
    self = λ i. is_same i i refl refl;
    turn = λ i j e. let p = same_is i j e in is_same j i (sym p.0) (sym p.1);
    join = λ i j k e f. let p = same_is i j e in let q = same_is j k f in is_same i k (p.0 ∙ q.0) (p.1 ∙ q.1);
  }

  pub one_record : (x y : ℕ) → same_in s t x y ≡ true → trip_of t 8 x ≡ trip_of t 8 y
  one_record x y e = (same_is x y e).0

  no_stray : (x : ℕ) → 0 < trip_of t 8 x → stray_id s t 8 x ≡ []
  unfolding stray_id
  no_stray x h = rw (ne_eqb (trip_of t 8 x) 0 (λ e. omega arith))

  -- where a trip has a record, that alone says which lines are of it
  pub by_record : (x y : ℕ) → 0 < trip_of t 8 y → same_in s t x y ≡ eqb (trip_of t 8 x) (trip_of t 8 y)
  by_record x y h =
      agree (same_in s t x y) (eqb (trip_of t 8 x) (trip_of t 8 y))
      (λ e. eq-eqb (trip_of t 8 x) (trip_of t 8 y) (same_is x y e).0)
      (λ e. equal (eqb-true (trip_of t 8 x) (trip_of t 8 y) e))
    where
      equal : trip_of t 8 x ≡ trip_of t 8 y → same_in s t x y ≡ true
      equal p = is_same x y p (no_stray x (omega arith) ∙ sym (no_stray y h))

  -- the order of the sort
  pub by_trip : ByTrip (in_order TripAndSequence s t 8) (lines_in s t)
  by_trip = record {
    between = λ x y z p q e. let a = same_is x z e in let b = trips_together s t 8 x y z p q a.0 a.1 in is_same x y (sym b.0) (sym b.1);
    rising = λ x y p e. let a = same_is x y e in (sequences_rise s t 8 x y p a.0 a.1).0;
    tied = λ x y p e. let a = same_is x y e in (sequences_rise s t 8 x y p a.0 a.1).1;
  }

-- ---- while the cells of the order change

-- lines by what stands in their records
lines_of : (ℕ → ℕ) → (ℕ → List ℕ) → (ℕ → ℕ) → (ℕ → Time) → (ℕ → Time) → Lines
lines_of trip stray key arrival departure = record {
  same = λ x y. eqb (trip x) (trip y) && same (stray x) (stray y);
  seq = key;
  timed = λ x. given (arrival x) && given (departure x);
  arr = λ x. seconds_of (arrival x);
  dep = λ x. seconds_of (departure x);
}

module _ (s : List ℕ) {n : ℕ} {t u : List ℤ} (p : KeptAt 7 8 n t u) where
  times_kept : (k : ℕ) → k < 7 → ◌≡◌ {A = ℕ → Time} (λ x. time_at u (x * 8 + k)) (λ x. time_at t (x * 8 + k))
  times_kept k h = fun_ext (λ x. ap time_in (p.same x k (omega arith) (λ e a b. clash e)))
    where
      clash : k ≡ 7 → ⊥
      clash e = omega arith

  pub lines_kept : lines_in s u ≡ lines_in s t
  unfolding same_in timed_in lines_of
  lines_kept =
      ap (λ (f : ℕ → ℕ). lines_of f (stray_id s u 8) (key_of u 8) (λ x. time_at u (x * 8 + 3)) (λ x. time_at u (x * 8 + 4))) (trips_kept (omega arith) (omega arith) p)
      ∙ ap (λ (f : ℕ → List ℕ). lines_of (trip_of t 8) f (key_of u 8) (λ x. time_at u (x * 8 + 3)) (λ x. time_at u (x * 8 + 4))) (strays_kept s (omega arith) (omega arith) p)
      ∙ ap (λ (f : ℕ → ℕ). lines_of (trip_of t 8) (stray_id s t 8) f (λ x. time_at u (x * 8 + 3)) (λ x. time_at u (x * 8 + 4))) (keys_kept (omega arith) (omega arith) p)
      ∙ ap (λ (f : ℕ → Time). lines_of (trip_of t 8) (stray_id s t 8) (key_of t 8) f (λ x. time_at u (x * 8 + 4))) (times_kept 3 (omega arith))
      ∙ ap (λ (f : ℕ → Time). lines_of (trip_of t 8) (stray_id s t 8) (key_of t 8) (λ x. time_at t (x * 8 + 3)) f) (times_kept 4 (omega arith))

  pub told_kept : {m : List ℕ} → Told s u n m → Told s t n m
  told_kept d = record {
    equal = λ x a b. d.equal x a b ∙ ap (λ (l : Lines). rule28 l x) lines_kept;
    falls = λ x a b. d.falls x a b ∙ ap (λ (l : Lines). rule29 l n x) lines_kept;
    paired = λ r a b. d.paired r a b ∙ ap (λ (f : ℕ → ℕ). not (rule30 n (λ y. eqb (f y) r))) (trips_kept (omega arith) (omega arith) p);
    opens = λ r a b.
        d.opens r a b
        ∙ ap (λ (l : Lines). rule31 l n (λ y. eqb (trip_of u 8 y) r)) lines_kept
        ∙ ap (λ (f : ℕ → ℕ). rule31 (lines_in s t) n (λ y. eqb (f y) r)) (trips_kept (omega arith) (omega arith) p);
  }
