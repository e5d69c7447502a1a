-- The lines of stop_times as they wait are those of the feed: what is told of the ones is what rules 28 to 31 say of the others.
use mathlib.Core.Path.{◌≡◌, refl, sym, ap, ◌∙◌}
use mathlib.Core.List.{List, []}
use mathlib.Core.Bool.{Bool, true, false, cond, not, ◌&&◌}
use Prim.Native.Nat.{ℕ, ◌+◌, ◌*◌, ◌-◌, ◌≤◌, ◌<◌}
use native.Mathlib.Omega.{arith}
use native.Mathlib.Nat.{add-zero}
use lib.Dec.{eqb}
use lib.IntN.{ℤ, pos}
use lib.ListN.{length, get_or, length-map}
use borrow.Author.Tests.{eq-eqb, eqb-true, eqb-false}
use Rattle.num.specs.Signs.{nat_of}
use Rattle.meaning.specs.Lists.{same}
use Rattle.meaning.specs.Bytes.{Line, part, value, count_lf, lines_of, start_of}
use Rattle.meaning.specs.Columns.{Row, places, header_of, row_of, rows_of}
use Rattle.meaning.specs.Forms.{time_of, sequence_of}
use Rattle.meaning.specs.Tables.{Feed, under, seconds, refer, trip_ids, id_place, time_trip, stop_sequence, arrival_time, departure_time}
use Rattle.meaning.specs.Rules.{time_row, sequence_at, sequence, is_of, value_of, seconds_of, timed, arrives, departs, of_trip_line}
use Rattle.meaning.proofs.ListLaws.{both, same_self, same_equal}
use Rattle.meaning.proofs.References.{refer_same}
use Rattle.text.proofs.Lines.{lines_all}
use Rattle.meaning.proofs.Columns.{row_at}
use Rattle.rows.specs.Cells.{bounds_at, time_in}
use Rattle.rows.proofs.Stored.{number_stored, given_stored, seconds_stored}
use Rattle.ordering.specs.Ids.{trip_of, key_of, stray_id}
use Rattle.marks.specs.Marks.{marked}
use Rattle.marks.specs.Noted.{Noted, TripsNoted}
use Rattle.trip_order.specs.Feed.{lines_of as feedLines, Agree}
use Rattle.trip_order.proofs.Feed.{twenty_eight, twenty_nine, thirty, thirty_one, own_lines}
use Rattle.trip_walk.specs.Table.{same_in, timed_in, lines_in}
use Rattle.trip_walk.specs.Told.{Told}
use Rattle.records.specs.Line.{line}
use Rattle.tables.specs.Walk.{place_of, written}
use Rattle.records.specs.Waiting.{waiting_of}
use Rattle.tables.proofs.Ids.{lines_in_lem, place_value, row_of_line, rows_count}
use Rattle.tables.proofs.Waits.{waits_at}

-- references to one record, or to none by one value, are equal values
pub trips_same :
    (u v : List ℕ) (ids : List (List ℕ))
    → eqb (refer u ids) (refer v ids) && same (cond (eqb (refer u ids) 0) u []) (cond (eqb (refer v ids) 0) v []) ≡ same u v
trips_same u v ids = go (same u v) refl
  where
    last : same u v ≡ false → eqb (refer u ids) (refer v ids) ≡ true → (y : Bool) → eqb (refer v ids) 0 ≡ y → same (cond (eqb (refer u ids) 0) u []) (cond (eqb (refer v ids) 0) v []) ≡ false
    last e f true g = rw (eqb-true (refer u ids) (refer v ids) f, g) e
    last e f false g = both (same u v) (sym (refer_same u v ids (eqb-false (refer v ids) 0 g)) ∙ f) e

    other : same u v ≡ false → (x : Bool) → eqb (refer u ids) (refer v ids) ≡ x → x && same (cond (eqb (refer u ids) 0) u []) (cond (eqb (refer v ids) 0) v []) ≡ false
    other e true f = last e f (eqb (refer v ids) 0) refl
    other e false f = refl

    go : (b : Bool) → same u v ≡ b → eqb (refer u ids) (refer v ids) && same (cond (eqb (refer u ids) 0) u []) (cond (eqb (refer v ids) 0) v []) ≡ b
    go true e = rw (same_equal u v e, eq-eqb (refer v ids) (refer v ids) refl) (same_self (cond (eqb (refer v ids) 0) v []))
    go false e = other e (eqb (refer u ids) (refer v ids)) refl

module _ (w : Feed) (s : List ℕ) (lent : List ℤ) (some : 1 ≤ count_lf s) (own : w.stop_times ≡ rows_of 5 s) where
  -- line x
  module _ (x : ℕ) (low : 0 < x) (high : x < count_lf s) where
    at_line : Line
    at_line = get_or (lines_of s) x (line 0 [])

    row_is : row_of (places 5 (header_of (lines_of s))) at_line.text ≡ time_row w (x - 1)
    unfolding at_line
    row_is =
        let g : x - 1 + 1 ≡ x = omega arith in
        sym (rw g at (row_of_line 5 s (x - 1) (line 0 []) (omega arith))) ∙ rw own

    pub trip_is : trip_of (written 5 w s lent) 8 x ≡ refer (time_trip (time_row w (x - 1))) (trip_ids w)
    unfolding trip_of waiting_of at_line
    trip_is = ap nat_of (rw (add-zero (x * 8)) at (waits_at w s lent some x 0 low high (omega arith))) ∙ ap (λ (r : Row). refer (time_trip r) (trip_ids w)) row_is

    id_is_lem : value (part s (bounds_at (written 5 w s lent) (x * 8 + 5))) ≡ time_trip (time_row w (x - 1))
    unfolding waiting_of id_place at_line lines_of
    id_is_lem =
        let p : ℕ = get_or (places 5 (header_of (lines_of s))) 0 0 in
        let j : x * 8 + 6 ≡ x * 8 + 5 + 1 = omega arith in
        let a : get_or (written 5 w s lent) (x * 8 + 5) (pos 0) ≡ pos (place_of p at_line).start = waits_at w s lent some x 5 low high (omega arith) in
        let b : get_or (written 5 w s lent) (x * 8 + 5 + 1) (pos 0) ≡ pos (place_of p at_line).end = rw j at (waits_at w s lent some x 6 low high (omega arith)) in
        let i = lines_in_lem s (start_of s) x (line 0 []) (omega (arith, lines_all s)) in
        rw (a, b)
        ((place_value s at_line p i).1
        ∙ sym (row_at (places 5 (header_of (lines_of s))) at_line.text 0)
        ∙ ap (under 0) row_is)

    stray_is : stray_id s (written 5 w s lent) 8 x ≡ cond (eqb (refer (time_trip (time_row w (x - 1))) (trip_ids w)) 0) (time_trip (time_row w (x - 1))) []
    unfolding stray_id
    stray_is = rw (trip_is, id_is_lem)

    key_is : key_of (written 5 w s lent) 8 x ≡ sequence_at w (x - 1)
    unfolding key_of sequence_at sequence waiting_of at_line
    key_is =
        ap nat_of (waits_at w s lent some x 2 low high (omega arith))
        ∙ number_stored (sequence_of (stop_sequence (row_of (places 5 (header_of (lines_of s))) at_line.text)))
        ∙ ap (λ (r : Row). value_of (sequence_of (stop_sequence r))) row_is

    arrival_is : get_or (written 5 w s lent) (x * 8 + 3) (pos 0) ≡ seconds (time_of (arrival_time (time_row w (x - 1))))
    unfolding waiting_of at_line
    arrival_is = waits_at w s lent some x 3 low high (omega arith) ∙ ap (λ (r : Row). seconds (time_of (arrival_time r))) row_is

    departure_is : get_or (written 5 w s lent) (x * 8 + 4) (pos 0) ≡ seconds (time_of (departure_time (time_row w (x - 1))))
    unfolding waiting_of at_line
    departure_is = waits_at w s lent some x 4 low high (omega arith) ∙ ap (λ (r : Row). seconds (time_of (departure_time r))) row_is

    timed_is : timed_in (written 5 w s lent) x ≡ timed (time_row w (x - 1))
    unfolding timed_in timed
    timed_is =
        let r : Row = time_row w (x - 1) in
        rw (arrival_is, departure_is, given_stored (time_of (arrival_time r)), given_stored (time_of (departure_time r)))

    arrives_is : seconds_of (time_in (get_or (written 5 w s lent) (x * 8 + 3) (pos 0))) ≡ arrives (time_row w (x - 1))
    unfolding arrives
    arrives_is = rw arrival_is (seconds_stored (time_of (arrival_time (time_row w (x - 1)))))

    departs_is : seconds_of (time_in (get_or (written 5 w s lent) (x * 8 + 4) (pos 0))) ≡ departs (time_row w (x - 1))
    unfolding departs
    departs_is = rw departure_is (seconds_stored (time_of (departure_time (time_row w (x - 1)))))

  count_is : length w.stop_times ≡ count_lf s - 1
  count_is = rw own (rows_count 5 s)

  pub lines_agree : Agree (lines_in s (written 5 w s lent)) (feedLines w) (length w.stop_times)
  unfolding same_in feedLines is_of
  lines_agree = record {
    trips = λ x y a b c d.
        let u = time_trip (time_row w (x - 1)) in
        let v = time_trip (time_row w (y - 1)) in
        let h : x < count_lf s = omega (arith, count_is) in
        let k : y < count_lf s = omega (arith, count_is) in
        rw (trip_is x a h, trip_is y c k, stray_is x a h, stray_is y c k) (trips_same u v (trip_ids w));
    sequences = λ x a b. key_is x a (omega (arith, count_is));
    times = λ x a b. timed_is x a (omega (arith, count_is));
    arrivals = λ x a b. arrives_is x a (omega (arith, count_is));
    departures = λ x a b. departs_is x a (omega (arith, count_is));
  }

  -- what is told of the lines that wait is noted of the feed's
  module _ (n : ℕ) (count : n + 1 ≡ count_lf s) (m : List ℕ) (told : Told s (written 5 w s lent) n m) (few : length w.trips < length m) where
    all : n ≡ length w.stop_times
    all = omega (arith, count_is)

    own_is : (i : ℕ) (v : List ℕ) → ((j : ℕ) → eqb (refer (time_trip (time_row w j)) (trip_ids w)) (i + 1) ≡ is_of w v j) → (j : ℕ) → j < length w.stop_times → eqb (trip_of (written 5 w s lent) 8 (j + 1)) (i + 1) ≡ is_of w v j
    own_is i v is j h =
        let g : j + 1 - 1 ≡ j = omega arith in
        rw (rw g at (trip_is (j + 1) (omega arith) (omega (arith, count_is)))) (is j)

    pub trips_noted : TripsNoted w m
    unfolding of_trip_line
    trips_noted = record {
      equal = λ i h. told.equal (i + 1) (omega arith) (omega (arith, all)) ∙ twenty_eight w _ lines_agree i h;
      falling = λ i h. rw all at (told.falls (i + 1) (omega arith) (omega (arith, all))) ∙ twenty_nine w _ lines_agree i h;
      paired = λ i h e f.
          rw all at (told.paired (i + 1) (omega arith) (omega arith))
          ∙ ap not (thirty w _ lines_agree _ _ (own_is i _ (own_lines w i h e f)));
      open_ended_lem = λ i h e f.
          rw all at (told.opens (i + 1) (omega arith) (omega arith))
          ∙ thirty_one w _ lines_agree _ _ (own_is i _ (own_lines w i h e f));
    }

-- as many trips as ids
pub trip_count : (w : Feed) → length (trip_ids w) ≡ length w.trips
unfolding trip_ids
trip_count w = simp length-map

-- what was noted stays, where the marks below 9 do
pub noted_kept : (w : Feed) (m m' : List ℕ) → ((b r : ℕ) → b < 9 → marked m' b r ≡ marked m b r) → Noted w m → Noted w m'
noted_kept w m m' kept p = record {
  repeats = λ f i a b h. kept f (i + 1) (omega arith) ∙ p.repeats f i a b h;
  dates = λ i h. kept 6 (i + 1) (omega arith) ∙ p.dates i h;
  parents = λ i h. kept 7 (i + 1) (omega arith) ∙ p.parents i h;
  nameless = λ i h. kept 8 (i + 1) (omega arith) ∙ p.nameless i h;
}
