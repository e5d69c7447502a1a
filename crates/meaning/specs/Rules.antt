-- Binding rules, tested only when all six files read. A rule looks at the line with index i of a file's rows, which is line i + 2.
use Rattle.std.specs.Prelude.{ℕ, zero, suc, ◌+◌, ◌-◌, List, [], ◌∷◌, ◌++◌, map, Bool, true, false, cond, not, ◌&&◌, ◌||◌, length, get_or, take, ltb, leb, eqb, Option, Some, None}
use Rattle.meaning.specs.declared.Time.{Time}
use Rattle.meaning.specs.declared.Time.TheVariants.{Seconds, Untimed, NoTime}
use Rattle.meaning.specs.declared.Profile.{Profile}
use Rattle.meaning.specs.declared.Profile.TheVariants.{Plain, Boards}
use Rattle.meaning.specs.Lists.{same, empty, some, keep, flat, stands}
use Rattle.meaning.specs.Columns.{Row}
use Rattle.meaning.specs.Forms.{time_of, date_of, sequence_of, choice_of}
use Rattle.meaning.specs.Tables.{Feed, rows_in, stop_ids, route_ids, service_ids, trip_ids, dated_ids, refer, parent_station, route_short_name, route_long_name, start_date, end_date, trip_route, trip_service, trip_id, time_trip, arrival_time, departure_time, time_stop, stop_sequence, pickup_type, drop_off_type, timepoint, exception_service, exception_date, kind_of}
use Rattle.meaning.specs.Refusals.{Test, test, Claim, on_line}

-- the row with index i
abbrev pub row : List Row → ℕ → Row
row rs i = get_or rs i []

-- 20 (files 1 to 4): the id stands on an earlier line of its file
unfoldable pub rule20 : List (List ℕ) → ℕ → Bool
rule20 ids i = stands (get_or ids i []) (take i ids)

abbrev pub day_of : Option ℕ → ℕ
day_of (Some n) = n
day_of None = 0

-- the day of a calendar_dates row
unfoldable pub exception_day : Row → ℕ
exception_day r = day_of (date_of (exception_date r))

-- two rows of file 6 have the same service and date
unfoldable pub same_service_and_date : Row → Row → Bool
same_service_and_date q r =
    same (exception_service q) (exception_service r) && eqb (exception_day q) (exception_day r)

-- 20 (6): the same service and date stand on an earlier line
unfoldable pub rule20·dates : Feed → ℕ → Bool
rule20·dates w i = some (λ j. same_service_and_date (row w.dates j) (row w.dates i)) 0 i

-- a non-empty reference names no line
unfoldable pub dangling : List ℕ → List (List ℕ) → Bool
dangling v ids = not (empty v) && not (stands v ids)

-- 21 (1, 4, 5): a non-empty reference names no line; one finding even if two do
unfoldable pub rule21·stops : Feed → ℕ → Bool
rule21·stops w i = dangling (parent_station (row w.stops i)) (stop_ids w)

-- .. for a trip's service: it stands in neither file
unfoldable pub in_neither : Feed → List ℕ → Bool
in_neither w v = dangling v (service_ids w) && dangling v (dated_ids w)

unfoldable pub rule21·trips : Feed → ℕ → Bool
rule21·trips w i =
    dangling (trip_route (row w.trips i)) (route_ids w)
    || in_neither w (trip_service (row w.trips i))

unfoldable pub rule21·times : Feed → ℕ → Bool
rule21·times w i =
    dangling (time_trip (row w.stop_times i)) (trip_ids w)
    || dangling (time_stop (row w.stop_times i)) (stop_ids w)

-- the type of the stop that a reference resolves to isn't m
unfoldable pub other_kind : Feed → ℕ → List ℕ → Bool
other_kind w m v =
    let k = refer v (stop_ids w) in
    not (eqb k 0) && not (eqb (kind_of (row w.stops (k - 1))) m)

-- the type that the parent of a stop of type k must have: 0 for type 4, 1 for all others
unfoldable pub kind_of_parent : ℕ → ℕ
kind_of_parent k = cond (eqb k 4) 0 1

-- 22 (1): a type 1 stop has a parent; a stop of type 2, 3 or 4 has none; or a parent that resolves isn't of the type that it must have
unfoldable pub rule22 : Feed → ℕ → Bool
rule22 w i =
    let r = row w.stops i in
    let k = kind_of r in
    let none = empty (parent_station r) in
    eqb k 1 && not none || (ltb 1 k && none || other_kind w (kind_of_parent k) (parent_station r))

-- 23 (5): the resolved stop isn't type 0
unfoldable pub rule23 : Feed → ℕ → Bool
rule23 w i = other_kind w 0 (time_stop (row w.stop_times i))

-- 24 (3): end before start
unfoldable pub rule24 : Feed → ℕ → Bool
rule24 w i =
    let r = row w.calendar i in
    ltb (day_of (date_of (end_date r))) (day_of (date_of (start_date r)))

-- 25 (2): both route names empty
unfoldable pub rule25 : Feed → ℕ → Bool
rule25 w i =
    let r = row w.routes i in
    empty (route_short_name r) && empty (route_long_name r)

-- a time is given
abbrev pub given : Time → Bool
given (Seconds n) = true
given Untimed = false
given NoTime = false

abbrev pub seconds_of : Time → ℕ
seconds_of (Seconds n) = n
seconds_of Untimed = 0
seconds_of NoTime = 0

unfoldable pub arrives : Row → ℕ
arrives r = seconds_of (time_of (arrival_time r))

unfoldable pub departs : Row → ℕ
departs r = seconds_of (time_of (departure_time r))

-- a timed line has both times
unfoldable pub timed : Row → Bool
timed r = given (time_of (arrival_time r)) && given (time_of (departure_time r))

unfoldable pub untimed : Row → Bool
untimed r = not (timed r)

abbrev pub is_one : Option ℕ → Bool
is_one (Some n) = eqb n 1
is_one None = false

-- 26 (5): just one time given, or timepoint 1 without both
unfoldable pub rule26 : Feed → ℕ → Bool
rule26 w i =
    let r = row w.stop_times i in
    let one = given (time_of (arrival_time r)) || given (time_of (departure_time r)) in
    untimed r && (one || is_one (choice_of 1 (timepoint r)))

-- 27 (5): both given, departure before arrival
unfoldable pub rule27 : Feed → ℕ → Bool
rule27 w i =
    let r = row w.stop_times i in
    timed r && ltb (departs r) (arrives r)

abbrev pub value_of : Option ℕ → ℕ
value_of (Some n) = n
value_of None = 0

unfoldable pub sequence : Row → ℕ
sequence r = value_of (sequence_of (stop_sequence r))

-- "Same trip" means equal trip_id values: the lines of a trip
unfoldable pub of_trip : List ℕ → List Row → List Row
of_trip v rs = keep (λ r. same (time_trip r) v) rs

-- Trip order is the order of sequences, whatever the order of the file. Of the line with index j of stop_times: its row
abbrev pub time_row : Feed → ℕ → Row
time_row w j = row w.stop_times j

-- its sequence
unfoldable pub sequence_at : Feed → ℕ → ℕ
sequence_at w j = sequence (time_row w j)

-- is it a line of the trip v
unfoldable pub is_of : Feed → List ℕ → ℕ → Bool
is_of w v j = same (time_trip (time_row w j)) v

-- 28 (5): an earlier line of the same trip has the same sequence
unfoldable pub rule28 : Feed → ℕ → Bool
rule28 w i = some (λ j. is_of w (time_trip (time_row w i)) j && eqb (sequence_at w j) (sequence_at w i)) 0 i

-- does the line with index j, a timed one with a smaller sequence, depart after the one with index i arrives
unfoldable pub outruns : Feed → ℕ → ℕ → Bool
outruns w j i =
    timed (time_row w j)
    && (ltb (sequence_at w j) (sequence_at w i) && ltb (arrives (time_row w i)) (departs (time_row w j)))

-- 29 (5): some timed line of the same trip with a smaller sequence departs after this timed line arrives
unfoldable pub rule29 : Feed → ℕ → Bool
rule29 w i =
    timed (time_row w i)
    && some (λ j. is_of w (time_trip (time_row w i)) j && outruns w j i) 0 (length w.stop_times)

-- the stop_times lines of the trip on a line of file 4
unfoldable pub of_trip_line : Feed → ℕ → List Row
of_trip_line w i = of_trip (trip_id (row w.trips i)) w.stop_times

-- Rules 30 and 31 concern only the first line of each trip_id.
unfoldable pub first_of_trip : Feed → ℕ → Bool
first_of_trip w i = not (rule20 (trip_ids w) i)

-- 30 (4): fewer than two stop_times lines
unfoldable pub rule30 : Feed → ℕ → Bool
rule30 w i = first_of_trip w i && ltb (length (of_trip_line w i)) 2

-- the same sequence, on an earlier line: ties go to it
unfoldable pub ties_before : Feed → ℕ → ℕ → Bool
ties_before w j i = eqb (sequence_at w j) (sequence_at w i) && ltb j i

-- the first line of the trip v: its sequence is the smallest
unfoldable pub is_first : Feed → List ℕ → ℕ → Bool
is_first w v i =
    is_of w v i
    && not
    (some (λ j. is_of w v j && (ltb (sequence_at w j) (sequence_at w i) || ties_before w j i)) 0 (length w.stop_times))

-- the last line of the trip v: its sequence is the largest
unfoldable pub is_last : Feed → List ℕ → ℕ → Bool
is_last w v i =
    is_of w v i
    && not
    (some (λ j. is_of w v j && (ltb (sequence_at w i) (sequence_at w j) || ties_before w j i)) 0 (length w.stop_times))

-- some line of stop_times that such a test says is one isn't timed
unfoldable pub some_untimed : Feed → (ℕ → Bool) → Bool
some_untimed w is = some (λ j. is j && untimed (time_row w j)) 0 (length w.stop_times)

-- the first or the last line of the trip v isn't timed
unfoldable pub open_ended : Feed → List ℕ → Bool
open_ended w v = some_untimed w (is_first w v) || some_untimed w (is_last w v)

-- 31 (4): its first or last stop_times line isn't timed; not tested with none
unfoldable pub rule31 : Feed → ℕ → Bool
rule31 w i = first_of_trip w i && open_ended w (trip_id (row w.trips i))

-- Document 02's E13: boards add rules on file 5. 60 (5): a line isn't timed
unfoldable pub rule60 : Feed → ℕ → Bool
rule60 w i = untimed (time_row w i)

-- a choice is 2 or 3
abbrev pub is_two_or_three : Option ℕ → Bool
is_two_or_three (Some n) = eqb n 2 || eqb n 3
is_two_or_three None = false

-- 61 (5): pickup or drop-off is 2 or 3
unfoldable pub rule61 : Feed → ℕ → Bool
rule61 w i =
    let r = time_row w i in
    is_two_or_three (choice_of 3 (pickup_type r)) || is_two_or_three (choice_of 3 (drop_off_type r))

-- two days, in seconds
abbrev pub two_days : ℕ
two_days = 172800

-- a time of 172,800 seconds or more
abbrev pub is_late : Time → Bool
is_late (Seconds n) = leb two_days n
is_late Untimed = false
is_late NoTime = false

-- 62 (5): a time of 172,800 seconds or more
unfoldable pub rule62 : Feed → ℕ → Bool
rule62 w i =
    let r = time_row w i in
    is_late (time_of (arrival_time r)) || is_late (time_of (departure_time r))

-- the rules that a profile adds to a line of file 5
unfoldable pub added_rules : Profile → Feed → ℕ → List Test
added_rules Plain w i = []
added_rules Boards w i = test 60 (rule60 w i) ∷ test 61 (rule61 w i) ∷ test 62 (rule62 w i) ∷ []

-- the rules of a line of each file, in the order of their numbers
unfoldable pub stop_rules : Feed → ℕ → List Test
stop_rules w i = test 20 (rule20 (stop_ids w) i) ∷ test 21 (rule21·stops w i) ∷ test 22 (rule22 w i) ∷ []

unfoldable pub route_rules : Feed → ℕ → List Test
route_rules w i = test 20 (rule20 (route_ids w) i) ∷ test 25 (rule25 w i) ∷ []

unfoldable pub service_rules : Feed → ℕ → List Test
service_rules w i = test 20 (rule20 (service_ids w) i) ∷ test 24 (rule24 w i) ∷ []

unfoldable pub trip_rules : Feed → ℕ → List Test
trip_rules w i =
    test 20 (rule20 (trip_ids w) i)
    ∷ test 21 (rule21·trips w i)
    ∷ test 30 (rule30 w i)
    ∷ test 31 (rule31 w i)
    ∷ []

unfoldable pub time_rules : Profile → Feed → ℕ → List Test
time_rules asked w i =
    test 21 (rule21·times w i)
    ∷ test 23 (rule23 w i)
    ∷ test 26 (rule26 w i)
    ∷ test 27 (rule27 w i)
    ∷ test 28 (rule28 w i)
    ∷ test 29 (rule29 w i)
    ∷ added_rules asked w i

unfoldable pub date_rules : Feed → ℕ → List Test
date_rules w i = test 20 (rule20·dates w i) ∷ []

-- how many records file f has
unfoldable pub record_count : Feed → ℕ → ℕ
record_count w f = length (rows_in w f)

-- the rules of file f, as they are asked for
unfoldable pub rules_of : Profile → Feed → ℕ → ℕ → List Test
rules_of asked w f =
    get_or
    ((λ i. [])
    ∷ stop_rules w
    ∷ route_rules w
    ∷ service_rules w
    ∷ trip_rules w
    ∷ time_rules asked w
    ∷ date_rules w
    ∷ [])
    f
    (λ i. [])

-- the rules of n lines of file f, from index i on
unfoldable pub on_records : ℕ → (ℕ → List Test) → ℕ → ℕ → List Claim
on_records f rules i zero = []
on_records f rules i (suc n) = on_line f (i + 2) (rules i) ++ on_records f rules (i + 1) n

-- every rule of file f on every line
unfoldable pub bindings_of : Profile → Feed → ℕ → List Claim
bindings_of asked w f = on_records f (rules_of asked w f) 0 (record_count w f)

-- the files
abbrev pub file_numbers : List ℕ
file_numbers = 1 ∷ 2 ∷ 3 ∷ 4 ∷ 5 ∷ 6 ∷ []

-- every rule on every line of every file, in order of file, line, rule
unfoldable pub bindings : Profile → Feed → List Claim
bindings asked w = flat (map (bindings_of asked w) file_numbers)
