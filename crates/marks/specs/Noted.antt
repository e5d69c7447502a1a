-- What the marks say of a feed.
use Rattle.std.specs.Prelude.{ℕ, ◌+◌, ◌≤◌, ◌<◌, ◌≡◌, List, [], ◌∷◌, true, false, not, ltb, length, get_or}
use Rattle.meaning.specs.Lists.{empty}
use Rattle.meaning.specs.Tables.{Feed, stop_ids, route_ids, service_ids, trip_ids, parent_station, trip_id}
use Rattle.meaning.specs.Rules.{row, rule20, rule20·dates, rule25, rule28, rule29, of_trip_line, first_of_trip, open_ended, record_count}
use Rattle.marks.specs.Marks.{marked, parent_mark, nameless_mark, equal_mark, falling_mark, paired_mark, open_mark}

-- the ids of file f
unfoldable pub ids_in : Feed → ℕ → List (List ℕ)
ids_in w f = get_or ([] ∷ stop_ids w ∷ route_ids w ∷ service_ids w ∷ trip_ids w ∷ []) f []

-- the record of the line with index i, i + 1, is marked for what the line's text, or those before it, say
pub record Noted (w : Feed) (m : List ℕ) : Type 0 where
  pub repeats : (f i : ℕ) → 1 ≤ f → f ≤ 4 → i < record_count w f → marked m f (i + 1) ≡ rule20 (ids_in w f) i
  pub dates : (i : ℕ) → i < length w.dates → marked m 6 (i + 1) ≡ rule20·dates w i
  pub parents : (i : ℕ) → i < length w.stops → marked m parent_mark (i + 1) ≡ not (empty (parent_station (row w.stops i)))
  pub nameless : (i : ℕ) → i < length w.routes → marked m nameless_mark (i + 1) ≡ rule25 w i

-- .. and for what the lines of its trip say in trip order; a trip, of the first line with its id, for what its own lines do
pub record TripsNoted (w : Feed) (m : List ℕ) : Type 0 where
  pub equal : (i : ℕ) → i < length w.stop_times → marked m equal_mark (i + 1) ≡ rule28 w i
  pub falling : (i : ℕ) → i < length w.stop_times → marked m falling_mark (i + 1) ≡ rule29 w i
  pub paired :
      (i : ℕ)
      → i < length w.trips
      → empty (trip_id (row w.trips i)) ≡ false
      → first_of_trip w i ≡ true
      → marked m paired_mark (i + 1) ≡ not (ltb (length (of_trip_line w i)) 2)
  pub open_ended_lem :
      (i : ℕ)
      → i < length w.trips
      → empty (trip_id (row w.trips i)) ≡ false
      → first_of_trip w i ≡ true
      → marked m open_mark (i + 1) ≡ open_ended w (trip_id (row w.trips i))
