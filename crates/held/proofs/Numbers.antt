-- Each number of a filled table, by its record.
use Prim.Native.Nat.{ℕ, suc, ◌+◌, ◌*◌, ◌≤◌, ◌<◌}
use mathlib.Core.Path.{◌≡◌, sym, ap, ◌∙◌}
use mathlib.Core.List.{List, []}
use native.Mathlib.Omega.{arith}
use native.Mathlib.Nat.{add-zero}
use borrow.Author.Tests.{ne_eqb}
use lib.IntN.{ℤ, pos}
use lib.ListN.{length, get_or}
use Rattle.num.specs.Signs.{nat_of}
use Rattle.rows.specs.Cells.{nat_at, time_at, time_in}
use Rattle.meaning.specs.Bytes.{Line, lines_of}
use Rattle.meaning.specs.Columns.{Row, places, header_of, row_of, rows_of}
use Rattle.meaning.specs.Forms.{time_of, date_of}
use Rattle.meaning.specs.Tables.{Feed, widths, width_of, record_of, numbers_of, id_place, stop_numbers, service_numbers, trip_numbers, time_numbers, seconds, day, or_zero, or_minus, refer, stop_ids, route_ids, service_ids, trip_ids, dated_ids, location_type, parent_station, start_date, end_date, trip_route, trip_service, time_trip, time_stop, arrival_time, departure_time, pickup_type, drop_off_type, timepoint}
use Rattle.meaning.specs.Rules.{row}
use Rattle.meaning.specs.Promises.{no_line}
use Rattle.meaning.proofs.Records.{number_held, row_held}
use Rattle.held.specs.Held.{Filled}

module _ (f : ℕ) (low : 1 ≤ f) (high : f ≤ 6) (w : Feed) (rows : List Row) (s : List ℕ) (t : List ℤ) (h : Filled f w rows s t) where
  unfoldable pub the_line : ℕ → Line
  the_line i = get_or (lines_of s) (i + 1) no_line

  module _ (i : ℕ) (inside : i < length rows) where
    within : i < length (rows_of f s)
    within = omega (arith, ap length h.read)

    row_is : row_of (places f (header_of (lines_of s))) (the_line i).text ≡ get_or rows i []
    unfolding the_line
    row_is = sym (rw h.read (row_held f low high w s h.lent i within))

    -- number j of the record of row i
    number_is : (j : ℕ) → j < width_of f → get_or t ((i + 1) * width_of f + j) (pos 0) ≡ get_or (record_of f w (places f (header_of (lines_of s))) (the_line i)) j (pos 0)
    unfolding the_line
    number_is j k = rw h.is (number_held f low high w s h.lent i j within k)

    -- number j after the place of an id, which all but stop_times have
    pub after_id : (f ≡ 5 → ⊥) → (j : ℕ) → j + 2 < width_of f → get_or t ((i + 1) * width_of f + (j + 2)) (pos 0) ≡ get_or (numbers_of f w (get_or rows i [])) j (pos 0)
    unfolding record_of id_place
    after_id ne j k =
        let two : j + 2 ≡ suc (suc j) = omega arith in
        number_is (j + 2) k
        ∙ rw (ne_eqb f 5 ne, two, row_is)

-- what a reader makes of number j after the place of an id, for a file whose width and numbers are known
module _ (w : Feed) (s : List ℕ) (t : List ℤ) (i : ℕ) where
  module _ (h : Filled 1 w w.stops s t) (inside : i < length w.stops) where
    pub stop_kind : nat_at t ((i + 1) * 7 + 4) ≡ nat_of (or_zero 4 (location_type (row w.stops i)))
    unfolding width_of widths numbers_of stop_numbers
    stop_kind = ap nat_of (after_id 1 (omega arith) (omega arith) w w.stops s t h i inside (λ z. omega arith) 2 (omega arith))

    pub stop_parent : nat_at t ((i + 1) * 7 + 5) ≡ refer (parent_station (row w.stops i)) (stop_ids w)
    unfolding width_of widths numbers_of stop_numbers
    stop_parent = ap nat_of (after_id 1 (omega arith) (omega arith) w w.stops s t h i inside (λ z. omega arith) 3 (omega arith))

  module _ (h : Filled 3 w w.calendar s t) (inside : i < length w.calendar) where
    pub service_start : nat_at t ((i + 1) * 5 + 3) ≡ nat_of (day (date_of (start_date (row w.calendar i))))
    unfolding width_of widths numbers_of service_numbers
    service_start = ap nat_of (after_id 3 (omega arith) (omega arith) w w.calendar s t h i inside (λ z. omega arith) 1 (omega arith))

    pub service_end : nat_at t ((i + 1) * 5 + 4) ≡ nat_of (day (date_of (end_date (row w.calendar i))))
    unfolding width_of widths numbers_of service_numbers
    service_end = ap nat_of (after_id 3 (omega arith) (omega arith) w w.calendar s t h i inside (λ z. omega arith) 2 (omega arith))

  module _ (h : Filled 4 w w.trips s t) (inside : i < length w.trips) where
    pub trip_route_lem : nat_at t ((i + 1) * 8 + 2) ≡ refer (trip_route (row w.trips i)) (route_ids w)
    unfolding width_of widths numbers_of trip_numbers
    trip_route_lem = ap nat_of (after_id 4 (omega arith) (omega arith) w w.trips s t h i inside (λ z. omega arith) 0 (omega arith))

    pub trip_service_lem : nat_at t ((i + 1) * 8 + 3) ≡ refer (trip_service (row w.trips i)) (service_ids w)
    unfolding width_of widths numbers_of trip_numbers
    trip_service_lem = ap nat_of (after_id 4 (omega arith) (omega arith) w w.trips s t h i inside (λ z. omega arith) 1 (omega arith))

    pub trip_dated : nat_at t ((i + 1) * 8 + 7) ≡ refer (trip_service (row w.trips i)) (dated_ids w)
    unfolding width_of widths numbers_of trip_numbers
    trip_dated = ap nat_of (after_id 4 (omega arith) (omega arith) w w.trips s t h i inside (λ z. omega arith) 5 (omega arith))

  module _ (h : Filled 5 w w.stop_times s t) (inside : i < length w.stop_times) where
    -- number j of a stop_times record, which has no id
    pub time_number : (j : ℕ) → j < 8 → get_or t ((i + 1) * 8 + j) (pos 0) ≡ get_or (time_numbers w (row w.stop_times i)) j (pos 0)
    unfolding width_of widths record_of numbers_of
    time_number j k =
        number_is 5 (omega arith) (omega arith) w w.stop_times s t h i inside j k
        ∙ ap (λ r. get_or (time_numbers w r) j (pos 0)) (row_is 5 (omega arith) (omega arith) w w.stop_times s t h i inside)

    pub time_trip_lem : nat_at t ((i + 1) * 8) ≡ refer (time_trip (row w.stop_times i)) (trip_ids w)
    unfolding time_numbers
    time_trip_lem = ap nat_of (ap (λ k. get_or t k (pos 0)) (sym (add-zero ((i + 1) * 8))) ∙ time_number 0 (omega arith))

    pub time_stop_lem : nat_at t ((i + 1) * 8 + 1) ≡ refer (time_stop (row w.stop_times i)) (stop_ids w)
    unfolding time_numbers
    time_stop_lem = ap nat_of (time_number 1 (omega arith))

    pub time_arrival : time_at t ((i + 1) * 8 + 3) ≡ time_in (seconds (time_of (arrival_time (row w.stop_times i))))
    unfolding time_numbers
    time_arrival = ap time_in (time_number 3 (omega arith))

    pub time_departure : time_at t ((i + 1) * 8 + 4) ≡ time_in (seconds (time_of (departure_time (row w.stop_times i))))
    unfolding time_numbers
    time_departure = ap time_in (time_number 4 (omega arith))

    pub time_pickup : nat_at t ((i + 1) * 8 + 5) ≡ nat_of (or_zero 3 (pickup_type (row w.stop_times i)))
    unfolding time_numbers
    time_pickup = ap nat_of (time_number 5 (omega arith))

    pub time_drop_off : nat_at t ((i + 1) * 8 + 6) ≡ nat_of (or_zero 3 (drop_off_type (row w.stop_times i)))
    unfolding time_numbers
    time_drop_off = ap nat_of (time_number 6 (omega arith))

    pub time_point : nat_at t ((i + 1) * 8 + 7) ≡ nat_of (or_minus 1 (timepoint (row w.stop_times i)))
    unfolding time_numbers
    time_point = ap nat_of (time_number 7 (omega arith))
