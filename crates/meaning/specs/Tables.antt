-- Tables.
use Rattle.std.specs.Prelude.{ℕ, zero, suc, ◌+◌, ◌*◌, ◌-◌, List, [], ◌∷◌, ◌++◌, map, Bool, cond, not, ◌&&◌, ℤ, pos, negsuc, get_or, drop, replicate, ltb, eqb, Option, Some, None}
use Rattle.meaning.specs.declared.Time.{Time}
use Rattle.meaning.specs.declared.Time.TheVariants.{Seconds, Untimed, NoTime}
use Rattle.meaning.specs.Lists.{empty, find, flat, laid}
use Rattle.meaning.specs.Bytes.{Line, lines_of}
use Rattle.meaning.specs.Columns.{Row, places, field_at, row_of, header_of, rows_of}
use Rattle.meaning.specs.Forms.{time_of, date_of, latitude_of, longitude_of, sequence_of, choice_of, route_type_of, exception_of}

-- Six files, numbered: 1 stops.txt, 2 routes.txt, 3 calendar.txt, 4 trips.txt, 5 stop_times.txt, 6 calendar_dates.txt; each as its rows.
-- A file that isn't supplied is empty, and has none.
pub record Feed : Type 0 where
  pub stops : List Row
  pub routes : List Row
  pub calendar : List Row
  pub trips : List Row
  pub stop_times : List Row
  pub dates : List Row

-- the bytes of a file, by its number
unfoldable pub file_of : List (List ℕ) → ℕ → List ℕ
file_of files f = get_or files (f - 1) []

unfoldable pub feed_of : List (List ℕ) → Feed
feed_of files = record {
  stops = rows_of 1 (file_of files 1);
  routes = rows_of 2 (file_of files 2);
  calendar = rows_of 3 (file_of files 3);
  trips = rows_of 4 (file_of files 4);
  stop_times = rows_of 5 (file_of files 5);
  dates = rows_of 6 (file_of files 6);
}

-- the rows of file f
unfoldable pub rows_in : Feed → ℕ → List Row
rows_in w f =
    get_or ([] ∷ w.stops ∷ w.routes ∷ w.calendar ∷ w.trips ∷ w.stop_times ∷ w.dates ∷ []) f []

-- the value under a known column, by the column's place in the schema
abbrev pub under : ℕ → Row → List ℕ
under k r = get_or r k []

-- stops.txt
abbrev pub stop_id : Row → List ℕ
stop_id r = under 0 r

abbrev pub stop_name : Row → List ℕ
stop_name r = under 1 r

abbrev pub stop_lat : Row → List ℕ
stop_lat r = under 2 r

abbrev pub stop_lon : Row → List ℕ
stop_lon r = under 3 r

abbrev pub location_type : Row → List ℕ
location_type r = under 4 r

abbrev pub parent_station : Row → List ℕ
parent_station r = under 5 r

-- routes.txt
abbrev pub route_id : Row → List ℕ
route_id r = under 0 r

abbrev pub route_type : Row → List ℕ
route_type r = under 1 r

abbrev pub route_short_name : Row → List ℕ
route_short_name r = under 2 r

abbrev pub route_long_name : Row → List ℕ
route_long_name r = under 3 r

-- calendar.txt
abbrev pub service_id : Row → List ℕ
service_id r = under 0 r

-- the day mark of day d: 0 is Monday
abbrev pub day_mark : ℕ → Row → List ℕ
day_mark d r = under (d + 1) r

abbrev pub start_date : Row → List ℕ
start_date r = under 8 r

abbrev pub end_date : Row → List ℕ
end_date r = under 9 r

-- trips.txt
abbrev pub trip_route : Row → List ℕ
trip_route r = under 0 r

abbrev pub trip_service : Row → List ℕ
trip_service r = under 1 r

abbrev pub trip_id : Row → List ℕ
trip_id r = under 2 r

abbrev pub direction_id : Row → List ℕ
direction_id r = under 3 r

abbrev pub wheelchair_accessible : Row → List ℕ
wheelchair_accessible r = under 4 r

abbrev pub bikes_allowed : Row → List ℕ
bikes_allowed r = under 5 r

-- stop_times.txt
abbrev pub time_trip : Row → List ℕ
time_trip r = under 0 r

abbrev pub arrival_time : Row → List ℕ
arrival_time r = under 1 r

abbrev pub departure_time : Row → List ℕ
departure_time r = under 2 r

abbrev pub time_stop : Row → List ℕ
time_stop r = under 3 r

abbrev pub stop_sequence : Row → List ℕ
stop_sequence r = under 4 r

abbrev pub pickup_type : Row → List ℕ
pickup_type r = under 5 r

abbrev pub drop_off_type : Row → List ℕ
drop_off_type r = under 6 r

abbrev pub timepoint : Row → List ℕ
timepoint r = under 7 r

-- calendar_dates.txt
abbrev pub exception_service : Row → List ℕ
exception_service r = under 0 r

abbrev pub exception_date : Row → List ℕ
exception_date r = under 1 r

abbrev pub exception_type : Row → List ℕ
exception_type r = under 2 r

-- the ids of files 1 to 4
unfoldable pub stop_ids : Feed → List (List ℕ)
stop_ids w = map stop_id w.stops

unfoldable pub route_ids : Feed → List (List ℕ)
route_ids w = map route_id w.routes

unfoldable pub service_ids : Feed → List (List ℕ)
service_ids w = map service_id w.calendar

unfoldable pub trip_ids : Feed → List (List ℕ)
trip_ids w = map trip_id w.trips

-- the services of file 6, line by line
unfoldable pub dated_ids : Feed → List (List ℕ)
dated_ids w = map exception_service w.dates

-- References go to the first line with that id, 0 if there is none; an empty reference is none.
unfoldable pub refer : List ℕ → List (List ℕ) → ℕ
refer v ids = cond (empty v) 0 (find v 1 ids)

-- how each form is stored: empty is -1 for a time
abbrev pub seconds : Time → ℤ
seconds (Seconds n) = pos n
seconds Untimed = negsuc 0
seconds NoTime = negsuc 0

abbrev pub day : Option ℕ → ℤ
day (Some n) = pos n
day None = pos 0

abbrev pub degrees : Option ℤ → ℤ
degrees (Some z) = z
degrees None = pos 0

abbrev pub number : Option ℕ → ℤ
number (Some n) = pos n
number None = pos 0

abbrev pub picked : Option ℕ → ℤ
picked (Some n) = pos n
picked None = pos 0

-- Empty means 0, but -1 for direction_id and timepoint.
unfoldable pub choice_or : ℤ → ℕ → List ℕ → ℤ
choice_or none m v = cond (empty v) none (picked (choice_of m v))

unfoldable pub or_zero : ℕ → List ℕ → ℤ
or_zero m v = choice_or (pos 0) m v

unfoldable pub or_minus : ℕ → List ℕ → ℤ
or_minus m v = choice_or (negsuc 0) m v

-- the seven day marks packed in one number with Monday lowest
abbrev pub one_if : Option ℕ → ℕ
one_if (Some n) = n
one_if None = 0

unfoldable pub pack_from : ℕ → ℕ → Row → ℕ
pack_from d zero r = 0
pack_from d (suc n) r = one_if (choice_of 1 (day_mark d r)) + 2 * pack_from (d + 1) n r

unfoldable pub packed_days : Row → ℕ
packed_days r = pack_from 0 7 r

-- the location_type of a stops row: empty means 0, and so, for rule 12, does a value not of its form
unfoldable pub kind_of : Row → ℕ
kind_of r = one_if (choice_of 4 (location_type r))

-- a node or a boarding area: of type 3 or 4
unfoldable pub inner : Row → Bool
inner r = ltb 2 (kind_of r)

-- a stops row has a place unless both coordinates are empty
unfoldable pub placed : Row → Bool
placed r = not (empty (stop_lat r) && empty (stop_lon r))

-- An id is kept as start and end of its raw field, quotes included, counted from the file's first byte.
unfoldable pub id_place : ℕ → Line → List ℤ
id_place p l =
    let b = field_at l.text p in
    pos (l.start + b.start) ∷ pos (l.start + b.end) ∷ []

-- 1. stops, 7 numbers: id start, id end, latitude, longitude, location_type, parent record, 1 with a place and 0 without
unfoldable pub stop_numbers : Feed → Row → List ℤ
stop_numbers w r =
    degrees (latitude_of (stop_lat r))
    ∷ degrees (longitude_of (stop_lon r))
    ∷ or_zero 4 (location_type r)
    ∷ pos (refer (parent_station r) (stop_ids w))
    ∷ pos (cond (placed r) 1 0)
    ∷ []

-- 2. routes, 3: id start, id end, type
unfoldable pub route_numbers : Feed → Row → List ℤ
route_numbers w r = picked (route_type_of (route_type r)) ∷ []

-- 3. calendar, 5: id start, id end, the packed day marks, start, end
unfoldable pub service_numbers : Feed → Row → List ℤ
service_numbers w r = pos (packed_days r) ∷ day (date_of (start_date r)) ∷ day (date_of (end_date r)) ∷ []

-- 4. trips, 8: id start, id end, route record, service record, direction, wheelchair, bikes, first file 6 record of the service
unfoldable pub trip_numbers : Feed → Row → List ℤ
trip_numbers w r =
    pos (refer (trip_route r) (route_ids w))
    ∷ pos (refer (trip_service r) (service_ids w))
    ∷ or_minus 1 (direction_id r)
    ∷ or_zero 2 (wheelchair_accessible r)
    ∷ or_zero 2 (bikes_allowed r)
    ∷ pos (refer (trip_service r) (dated_ids w))
    ∷ []

-- 5. stop_times, 8: trip record, stop record, sequence, arrival, departure, pickup, drop-off, timepoint
unfoldable pub time_numbers : Feed → Row → List ℤ
time_numbers w r =
    pos (refer (time_trip r) (trip_ids w))
    ∷ pos (refer (time_stop r) (stop_ids w))
    ∷ number (sequence_of (stop_sequence r))
    ∷ seconds (time_of (arrival_time r))
    ∷ seconds (time_of (departure_time r))
    ∷ or_zero 3 (pickup_type r)
    ∷ or_zero 3 (drop_off_type r)
    ∷ or_minus 1 (timepoint r)
    ∷ []

-- 6. calendar_dates, 4: id start, id end, date, type
unfoldable pub exception_numbers : Feed → Row → List ℤ
exception_numbers w r = day (date_of (exception_date r)) ∷ picked (exception_of (exception_type r)) ∷ []

-- Each kind of file knows its own width; file 0 is none.
unfoldable pub widths : List ℕ
widths = 0 ∷ 7 ∷ 3 ∷ 5 ∷ 8 ∷ 8 ∷ 4 ∷ []

unfoldable pub width_of : ℕ → ℕ
width_of f = get_or widths f 0

-- where in the schema a file's own id stands
unfoldable pub id_column : ℕ → ℕ
id_column f = cond (eqb f 4) 2 0

-- what a file's record holds after the place of its id
unfoldable pub numbers_of : ℕ → Feed → Row → List ℤ
numbers_of f =
    get_or
    ((λ w r. [])
    ∷ stop_numbers
    ∷ route_numbers
    ∷ service_numbers
    ∷ trip_numbers
    ∷ time_numbers
    ∷ exception_numbers
    ∷ [])
    f
    (λ w r. [])

-- the record of a line: the place of its id, which stop_times has not, and its numbers
unfoldable pub record_of : ℕ → Feed → List ℕ → Line → List ℤ
record_of f w ps l =
    let id = id_place (get_or ps (id_column f) 0) l in
    let ns = numbers_of f w (row_of ps l.text) in
    cond (eqb f 5) ns (id ++ ns)

-- Record 0 is all zero; a file that isn't supplied has no line, and no record.
abbrev pub zeroth : ℕ → List Line → List (List ℤ)
zeroth f [] = []
zeroth f (h ∷ r) = replicate (width_of f) (pos 0) ∷ []

-- Line n of a file, n from 2, has record n - 1.
unfoldable pub records_of : ℕ → Feed → List ℕ → List (List ℤ)
records_of f w s =
    let ls = lines_of s in
    let ps = places f (header_of ls) in
    zeroth f ls ++ map (record_of f w ps) (drop 1 ls)

-- a file's table after the check: numbers past the last record stay unchanged, all of them where the file isn't supplied
unfoldable pub filled : ℕ → Feed → List ℕ → List ℤ → List ℤ
filled f w s lent = laid (flat (records_of f w s)) lent
