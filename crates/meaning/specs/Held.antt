-- What the tables of a readable feed hold after the check, number by number.
use Rattle.std.specs.Prelude.{ℕ, ◌+◌, ◌*◌, ◌<◌, ◌≡◌, true, false, cond, List, [], ℤ, pos, length, get_or, drop}
use Rattle.meaning.specs.Lists.{empty}
use Rattle.meaning.specs.Bytes.{Line, lines_of}
use Rattle.meaning.specs.Columns.{Row, places, header_of, field_at}
use Rattle.meaning.specs.Forms.{time_of, date_of, latitude_of, longitude_of, sequence_of, choice_of, route_type_of, exception_of}
use Rattle.meaning.specs.Tables.{Feed, feed_of, file_of, stop_lat, stop_lon, location_type, parent_station, route_type, day_mark, start_date, end_date, trip_route, trip_service, direction_id, wheelchair_accessible, bikes_allowed, time_trip, arrival_time, departure_time, time_stop, stop_sequence, pickup_type, drop_off_type, timepoint, exception_date, exception_type, stop_ids, route_ids, service_ids, trip_ids, dated_ids, seconds, day, degrees, number, picked, or_zero, or_minus, one_if, placed}
use Rattle.meaning.specs.Rules.{row}
use Rattle.meaning.specs.Promises.{First, no_line}

-- a reference: the first line with that id, or 0 if there is none, or if it is empty
pub record Names (v : List ℕ) (ids : List (List ℕ)) (z : ℤ) : Type 0 where
  pub to : ℕ
  pub is : z ≡ pos to
  pub none : empty v ≡ true → to ≡ 0
  pub first : empty v ≡ false → First v 1 ids to

-- the line with index i after the header of a file
abbrev pub line_at : List ℕ → ℕ → Line
line_at s i = get_or (lines_of s) (i + 1) no_line

-- the start and the end of the raw field under known column k, counted from the file's first byte
pub record Placed (f k : ℕ) (s : List ℕ) (i : ℕ) (start end : ℤ) : Type 0 where
  pub from : start ≡ pos ((line_at s i).start + (field_at (line_at s i).text (get_or (places f (header_of (lines_of s))) k 0)).start)
  pub to : end ≡ pos ((line_at s i).start + (field_at (line_at s i).text (get_or (places f (header_of (lines_of s))) k 0)).end)

-- stops, 7 numbers: the last is 1 with a place and 0 without
pub record StopHeld (w : Feed) (s : List ℕ) (i : ℕ) (n : ℕ → ℤ) : Type 0 where
  pub id : Placed 1 0 s i (n 0) (n 1)
  pub latitude : n 2 ≡ degrees (latitude_of (stop_lat (row w.stops i)))
  pub longitude : n 3 ≡ degrees (longitude_of (stop_lon (row w.stops i)))
  pub kind : n 4 ≡ or_zero 4 (location_type (row w.stops i))
  pub parent : Names (parent_station (row w.stops i)) (stop_ids w) (n 5)
  pub place : n 6 ≡ pos (cond (placed (row w.stops i)) 1 0)

-- routes, 3
pub record RouteHeld (w : Feed) (s : List ℕ) (i : ℕ) (n : ℕ → ℤ) : Type 0 where
  pub id : Placed 2 0 s i (n 0) (n 1)
  pub kind : n 2 ≡ picked (route_type_of (route_type (row w.routes i)))

-- the mark of day d, 0 being Monday
abbrev pub mark : ℕ → Row → ℕ
mark d r = one_if (choice_of 1 (day_mark d r))

-- calendar, 5: the seven day marks in one number, Monday lowest
pub record ServiceHeld (w : Feed) (s : List ℕ) (i : ℕ) (n : ℕ → ℤ) : Type 0 where
  pub id : Placed 3 0 s i (n 0) (n 1)
  pub days :
      let r = row w.calendar i in
      n 2 ≡ pos (mark 0 r + 2 * mark 1 r + 4 * mark 2 r + 8 * mark 3 r + 16 * mark 4 r + 32 * mark 5 r + 64 * mark 6 r)
  pub start : n 3 ≡ day (date_of (start_date (row w.calendar i)))
  pub end : n 4 ≡ day (date_of (end_date (row w.calendar i)))

-- trips, 8: the first file 6 record of the service last
pub record TripHeld (w : Feed) (s : List ℕ) (i : ℕ) (n : ℕ → ℤ) : Type 0 where
  pub id : Placed 4 2 s i (n 0) (n 1)
  pub route : Names (trip_route (row w.trips i)) (route_ids w) (n 2)
  pub service : Names (trip_service (row w.trips i)) (service_ids w) (n 3)
  pub direction : n 4 ≡ or_minus 1 (direction_id (row w.trips i))
  pub wheelchair : n 5 ≡ or_zero 2 (wheelchair_accessible (row w.trips i))
  pub bikes : n 6 ≡ or_zero 2 (bikes_allowed (row w.trips i))
  pub dated : Names (trip_service (row w.trips i)) (dated_ids w) (n 7)

-- stop_times, 8
pub record TimeHeld (w : Feed) (s : List ℕ) (i : ℕ) (n : ℕ → ℤ) : Type 0 where
  pub trip : Names (time_trip (row w.stop_times i)) (trip_ids w) (n 0)
  pub stop : Names (time_stop (row w.stop_times i)) (stop_ids w) (n 1)
  pub sequence : n 2 ≡ number (sequence_of (stop_sequence (row w.stop_times i)))
  pub arrival : n 3 ≡ seconds (time_of (arrival_time (row w.stop_times i)))
  pub departure : n 4 ≡ seconds (time_of (departure_time (row w.stop_times i)))
  pub pickup : n 5 ≡ or_zero 3 (pickup_type (row w.stop_times i))
  pub drop_off : n 6 ≡ or_zero 3 (drop_off_type (row w.stop_times i))
  pub point : n 7 ≡ or_minus 1 (timepoint (row w.stop_times i))

-- calendar_dates, 4
pub record ExceptionHeld (w : Feed) (s : List ℕ) (i : ℕ) (n : ℕ → ℤ) : Type 0 where
  pub id : Placed 6 0 s i (n 0) (n 1)
  pub date : n 2 ≡ day (date_of (exception_date (row w.dates i)))
  pub kind : n 3 ≡ picked (exception_of (exception_type (row w.dates i)))

-- A table of records of this width, for a file with so many lines: record 0 is all zero, the record of each line after the header is as
-- `Record` says, the numbers past the last record are those that were lent; all of them where there is no line.
pub record TableHeld (width lines : ℕ) (Record : ℕ → (ℕ → ℤ) → Type 0) (lent table : List ℤ) : Type 0 where
  pub zeroth : 0 < lines → (j : ℕ) → j < width → get_or table j (pos 1) ≡ pos 0
  pub records : (i : ℕ) → i + 1 < lines → Record i (λ j. get_or table ((i + 1) * width + j) (pos 0))
  pub rest : drop (lines * width) table ≡ drop (lines * width) lent

-- how many lines file f has, the header included; none where it isn't supplied
abbrev pub line_count : List (List ℕ) → ℕ → ℕ
line_count files f = length (lines_of (file_of files f))

-- the six tables
pub record TablesHeld (files : List (List ℕ)) (lent tables : List (List ℤ)) : Type 0 where
  pub stops : TableHeld 7 (line_count files 1) (StopHeld (feed_of files) (file_of files 1)) (get_or lent 0 []) (get_or tables 0 [])
  pub routes : TableHeld 3 (line_count files 2) (RouteHeld (feed_of files) (file_of files 2)) (get_or lent 1 []) (get_or tables 1 [])
  pub calendar : TableHeld 5 (line_count files 3) (ServiceHeld (feed_of files) (file_of files 3)) (get_or lent 2 []) (get_or tables 2 [])
  pub trips : TableHeld 8 (line_count files 4) (TripHeld (feed_of files) (file_of files 4)) (get_or lent 3 []) (get_or tables 3 [])
  pub stop_times : TableHeld 8 (line_count files 5) (TimeHeld (feed_of files) (file_of files 5)) (get_or lent 4 []) (get_or tables 4 [])
  pub dates : TableHeld 4 (line_count files 6) (ExceptionHeld (feed_of files) (file_of files 6)) (get_or lent 5 []) (get_or tables 5 [])
