-- A file whose table is filled in a feed whose marks are set, and what the rules of its lines say.
use Rattle.std.specs.Prelude.{ℕ, ◌<◌, ◌≡◌, List, [], ◌∷◌, Bool, false, ℤ, length, get_or}
use Rattle.meaning.specs.declared.Profile.{Profile}
use Rattle.meaning.specs.Lists.{empty}
use Rattle.meaning.specs.Tables.{Feed, rows_in, trip_route, trip_service, trip_id, time_trip, time_stop}
use Rattle.meaning.specs.Rules.{row, record_count, rules_of}
use Rattle.marks.specs.Noted.{Noted, TripsNoted}
use Rattle.held.specs.Held.{Filled}
use Rattle.judging.specs.Judging.{filled_up, times_asked, tests_from}

-- the numbers of the rules of a line of file f, filled up by 0, and how many of them are asked for
unfoldable pub rule_numbers : ℕ → List ℕ
rule_numbers f =
    filled_up 0
    (get_or
    ([]
    ∷ (20 ∷ 21 ∷ 22 ∷ [])
    ∷ (20 ∷ 25 ∷ [])
    ∷ (20 ∷ 24 ∷ [])
    ∷ (20 ∷ 21 ∷ 30 ∷ 31 ∷ [])
    ∷ (21 ∷ 23 ∷ 26 ∷ 27 ∷ 28 ∷ 29 ∷ 60 ∷ 61 ∷ 62 ∷ [])
    ∷ (20 ∷ [])
    ∷ [])
    f
    [])

unfoldable pub rule_count : Profile → ℕ → ℕ
rule_count asked f = get_or (0 ∷ 3 ∷ 2 ∷ 2 ∷ 4 ∷ times_asked asked ∷ 1 ∷ []) f 0

-- what was judged of the line with index i of file f is what its rules say, whichever are asked for
abbrev pub Judges : ℕ → Feed → ℕ → List Bool → Type 0
Judges f w i broken = (asked : Profile) → tests_from (rule_numbers f) broken (rule_count asked f) ≡ rules_of asked w f i

-- no line of trips leaves its route, its service or its own id empty, no line of stop_times its trip or its stop
pub record Named (w : Feed) : Type 0 where
  pub routes : (i : ℕ) → i < length w.trips → empty (trip_route (row w.trips i)) ≡ false
  pub services : (i : ℕ) → i < length w.trips → empty (trip_service (row w.trips i)) ≡ false
  pub ids : (i : ℕ) → i < length w.trips → empty (trip_id (row w.trips i)) ≡ false
  pub trips : (i : ℕ) → i < length w.stop_times → empty (time_trip (row w.stop_times i)) ≡ false
  pub stops : (i : ℕ) → i < length w.stop_times → empty (time_stop (row w.stop_times i)) ≡ false

-- all that the findings of file f, which has n records, rest on: its table and that of stops, the marks, and what rule 12 says
pub record Ready (f n : ℕ) (w : Feed) (t stops : List ℤ) (marks : List ℕ) : Type 0 where
  pub file : List ℕ
  pub table : Filled f w (rows_in w f) file t
  pub stops_file : List ℕ
  pub stops_table : Filled 1 w w.stops stops_file stops
  pub all : n ≡ record_count w f
  pub noted : Noted w marks
  pub trips_noted : TripsNoted w marks
  pub named : Named w
