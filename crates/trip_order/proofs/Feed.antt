-- Laws: what trip order says of lines that a feed holds is what rules 28 to 31 say of the feed.
use Prim.Native.Nat.{ℕ, zero, suc, ◌+◌, ◌≤◌, ◌<◌}
use native.Mathlib.Omega.{arith}
use native.Mathlib.Numerals.{add-one}
use native.Mathlib.Nat.{add-sub_cancel}
use mathlib.Core.Path.{◌≡◌, refl, sym, ap, ap₂, ◌∙◌}
use mathlib.Core.List.{List, [], ◌∷◌}
use mathlib.Core.Bool.{Bool, true, false, cond, not, ◌&&◌, ◌||◌}
use lib.Dec.{eqb, ltb}
use borrow.Author.Tests.{ltb-true, ltb-false, lt-ltb, le-ltb, not-true}
use lib.ListN.{length, get_or, take, length-append, length-map}
use lib.Seq.{take-suc, take-length}
use Rattle.meaning.specs.Lists.{same, empty, some, keep, find}
use Rattle.meaning.specs.Columns.{Row}
use Rattle.meaning.specs.Tables.{Feed, under, refer, trip_ids, trip_id, time_trip}
use Rattle.meaning.specs.Rules as R
use Rattle.meaning.specs.Rules.{row, rule20, time_row, sequence_at, is_of, timed, arrives, departs, of_trip, first_of_trip, open_ended}
use Rattle.meaning.proofs.ListLaws.{both, same_self, keep_append}
use Rattle.meaning.proofs.Tests.{from_one}
use Rattle.meaning.proofs.References.{First, absent, found, find_first, twentieth, refer_same}
use Rattle.meaning.proofs.Laws.{get_d_map_in}
use Rattle.trip_order.specs.Lines.{Lines, rule28, rule29, rule30, rule31, count, ahead, beyond, is_first, is_last}
use Rattle.trip_order.specs.Feed.{lines_of, Agree}

-- ---- numbers from 1 on are indexes from 0 on

-- a count of lines 1 to n is a count of indexes below n
count_kept : (T : ℕ → Bool) (Q : Row → Bool) (rs : List Row) (n : ℕ) → n ≤ length rs → ((j : ℕ) → j < n → T (j + 1) ≡ Q (get_or rs j [])) → count T n ≡ length (keep Q (take n rs))
unfolding count keep
count_kept T Q rs zero l h = refl
count_kept T Q rs (suc n) l h =
    rw (take-suc rs n [] l, keep_append Q (take n rs) (get_or rs n [] ∷ []), length-append)
    (one (Q (get_or rs n [])) (rw add-one at (h n (omega arith))) (count_kept T Q rs n (omega arith) (λ j g. h j (omega arith))))
  where
    one : (b : Bool) → T (suc n) ≡ b → count T n ≡ length (keep Q (take n rs))
        → cond (T (suc n)) (count T n + 1) (count T n) ≡ length (keep Q (take n rs)) + length (cond b (get_or rs n [] ∷ []) [])
    one true e ih = rw e (omega (arith, ih))
    one false e ih = rw e (omega (arith, ih))

ltb_shift : (a b : ℕ) → ltb (a + 1) (b + 1) ≡ ltb a b
ltb_shift a b = go (ltb a b) refl
  where
    go : (t : Bool) → ltb a b ≡ t → ltb (a + 1) (b + 1) ≡ t
    go true e = lt-ltb (a + 1) (b + 1) (omega (arith, ltb-true a b e))
    go false e = le-ltb (a + 1) (b + 1) (omega (arith, ltb-false a b e))

-- ---- rules 28 to 31

module _ (w : Feed) (L : Lines) (is : Agree L (lines_of w) (length w.stop_times)) where
  of_trip_lem : (j i : ℕ) → j < length w.stop_times → i < length w.stop_times → L.same (j + 1) (i + 1) ≡ is_of w (time_trip (time_row w i)) j
  unfolding lines_of
  of_trip_lem j i a b = is.trips (j + 1) (i + 1) (omega arith) (omega arith) (omega arith) (omega arith) ∙ rw (add-sub_cancel i 1, add-sub_cancel j 1)

  sequence_is : (j : ℕ) → j < length w.stop_times → L.seq (j + 1) ≡ sequence_at w j
  unfolding lines_of
  sequence_is j a = is.sequences (j + 1) (omega arith) (omega arith) ∙ rw (add-sub_cancel j 1)

  timed_is : (j : ℕ) → j < length w.stop_times → L.timed (j + 1) ≡ timed (time_row w j)
  unfolding lines_of
  timed_is j a = is.times (j + 1) (omega arith) (omega arith) ∙ rw (add-sub_cancel j 1)

  arrives_is : (j : ℕ) → j < length w.stop_times → L.arr (j + 1) ≡ arrives (time_row w j)
  unfolding lines_of
  arrives_is j a = is.arrivals (j + 1) (omega arith) (omega arith) ∙ rw (add-sub_cancel j 1)

  departs_is : (j : ℕ) → j < length w.stop_times → L.dep (j + 1) ≡ departs (time_row w j)
  unfolding lines_of
  departs_is j a = is.departures (j + 1) (omega arith) (omega arith) ∙ rw (add-sub_cancel j 1)

  pub twenty_eight : (i : ℕ) → i < length w.stop_times → rule28 L (i + 1) ≡ R.rule28 w i
  unfolding rule28 R.rule28
  twenty_eight i h =
      rw (add-sub_cancel i 1)
      (from_one _ _ i (λ j g. rw (of_trip_lem j i (omega arith) h, sequence_is j (omega arith), sequence_is i h)))

  pub twenty_nine : (i : ℕ) → i < length w.stop_times → rule29 L (length w.stop_times) (i + 1) ≡ R.rule29 w i
  unfolding rule29 R.rule29 R.outruns
  twenty_nine i h =
      rw (timed_is i h)
      (ap (λ b. timed (time_row w i) && b)
      (from_one _ _ (length w.stop_times) (λ j g. rw (of_trip_lem j i g h, timed_is j g, sequence_is j g, sequence_is i h, arrives_is i h, departs_is j g))))

  -- of a trip, whose lines T tells
  module _ (v : List ℕ) (T : ℕ → Bool) (own : (j : ℕ) → j < length w.stop_times → T (j + 1) ≡ is_of w v j) where
    pub thirty : rule30 (length w.stop_times) T ≡ ltb (length (of_trip v w.stop_times)) 2
    unfolding rule30 of_trip is_of
    thirty =
        let e = count_kept T (λ r. same (time_trip r) v) w.stop_times (length w.stop_times) (omega arith) own in
        ap (λ k. ltb k 2) (rw take-length at e)

    first_is : (j : ℕ) → j < length w.stop_times → is_first L (length w.stop_times) T (j + 1) ≡ R.is_first w v j
    unfolding is_first ahead R.is_first R.ties_before
    first_is j h =
        rw (own j h)
        (ap (λ b. is_of w v j && not b)
        (from_one _ _ (length w.stop_times) (λ i g. rw (own i g, sequence_is i g, sequence_is j h, ltb_shift i j))))

    last_is : (j : ℕ) → j < length w.stop_times → is_last L (length w.stop_times) T (j + 1) ≡ R.is_last w v j
    unfolding is_last beyond R.is_last R.ties_before
    last_is j h =
        rw (own j h)
        (ap (λ b. is_of w v j && not b)
        (from_one _ _ (length w.stop_times) (λ i g. rw (own i g, sequence_is i g, sequence_is j h, ltb_shift i j))))

    pub thirty_one : rule31 L (length w.stop_times) T ≡ open_ended w v
    unfolding rule31 open_ended R.some_untimed R.untimed
    thirty_one =
        ap₂ ◌||◌
        (from_one _ _ (length w.stop_times) (λ j g. rw (first_is j g, timed_is j g)))
        (from_one _ _ (length w.stop_times) (λ j g. rw (last_is j g, timed_is j g)))

-- ---- the lines of a trip that stands on a line of file 4

-- a line whose id stands on no earlier one is that of its id's record
pub own_record : (ids : List (List ℕ)) (i : ℕ) → i < length ids → rule20 ids i ≡ false → empty (get_or ids i []) ≡ false → refer (get_or ids i []) ids ≡ i + 1
unfolding refer
own_record ids i h late some = rw some (go (find v 1 ids) (find_first v 1 ids) (ltb-false _ (i + 1) (sym (twentieth ids i h) ∙ late)))
  where
    v : List ℕ
    v = get_or ids i []

    go : (r : ℕ) → First v 1 ids r → i + 1 ≤ r → r ≡ i + 1
    go r (absent e none) g = absurd (omega arith)
    go r (found k e within here before) g = cases (ltb i k) refl
      where
        cases : (b : Bool) → ltb i k ≡ b → r ≡ i + 1
        cases true l = both (same v v) (same_self v) (before i (ltb-true i k l))
        cases false l = omega (arith, ltb-false i k l)

-- its lines are those with its record
module _ (w : Feed) (i : ℕ) (inside : i < length w.trips) (needed : empty (trip_id (row w.trips i)) ≡ false) (first : first_of_trip w i ≡ true) where
  pub trip_record : refer (trip_id (row w.trips i)) (trip_ids w) ≡ i + 1
  unfolding first_of_trip trip_ids
  trip_record =
      let is : get_or (trip_ids w) i [] ≡ trip_id (row w.trips i) = get_d_map_in (under 2) w.trips i [] [] inside in
      rw is at (own_record (trip_ids w) i (rw length-map inside) (not-true (rule20 (trip_ids w) i) first) (rw is needed))

  pub own_lines : (j : ℕ) → eqb (refer (time_trip (time_row w j)) (trip_ids w)) (i + 1) ≡ is_of w (trip_id (row w.trips i)) j
  unfolding is_of
  own_lines j = rw trip_record at (refer_same (time_trip (time_row w j)) (trip_id (row w.trips i)) (trip_ids w) (λ z. none (sym trip_record ∙ z)))
    where
      none : i + 1 ≡ 0 → ⊥
      none e = omega arith
