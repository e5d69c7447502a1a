-- Document 01's table of columns said a second time, by name: which names must be present, which values must be there, which are ids, and which form each has.
-- The schema of `Columns` says it by flags, needs and forms; here is none of them.
use Rattle.std.specs.Prelude.{ℕ, ◌-◌, ◌≤◌, ◌≡◌, ◌↔◌, ◌⊎◌, Bool, true, false, cond, ◌||◌, length, get_or, drop, is_some}
use Prim.Native.String.{String}
use mathlib.Core.List.{List, [], ◌∷◌, ◌++◌, map, Memᴰ}
use Rattle.meaning.specs.Lists.{ascii, same, find, stands}
use Rattle.meaning.specs.Columns.{Known, schema, places, cell, row_of}
use Rattle.meaning.specs.Forms.{time_of, date_of, latitude_of, longitude_of, sequence_of, choice_of, route_type_of, exception_of, is_time}
use Rattle.meaning.specs.Tables.{stop_id, stop_name, stop_lat, stop_lon, location_type, parent_station, route_id, route_type, route_short_name, route_long_name, service_id, day_mark, start_date, end_date, trip_route, trip_service, trip_id, direction_id, wheelchair_accessible, bikes_allowed, time_trip, arrival_time, departure_time, time_stop, stop_sequence, pickup_type, drop_off_type, timepoint, exception_service, exception_date, exception_type}
use Rattle.meaning.specs.Refusals.{rule8, rule9, rule11, rule12, rule13}
use Rattle.meaning.specs.Promises.{Each}
use Rattle.meaning.specs.WhichColumn.{standings}

-- ---- the table

-- names
abbrev pub Name : Type 0
Name = List ℕ

abbrev pub named : List String → List Name
named ss = map ascii ss

-- "must be present", by the file's number: 0 is none
unfoldable pub middle_column : List (List Name)
middle_column =
    []
    ∷ named ("stop_id" ∷ "stop_name" ∷ "stop_lat" ∷ "stop_lon" ∷ [])
    ∷ named ("route_id" ∷ "route_type" ∷ [])
    ∷ named
    ("service_id"
    ∷ "monday"
    ∷ "tuesday"
    ∷ "wednesday"
    ∷ "thursday"
    ∷ "friday"
    ∷ "saturday"
    ∷ "sunday"
    ∷ "start_date"
    ∷ "end_date"
    ∷ [])
    ∷ named ("route_id" ∷ "service_id" ∷ "trip_id" ∷ [])
    ∷ named ("trip_id" ∷ "arrival_time" ∷ "departure_time" ∷ "stop_id" ∷ "stop_sequence" ∷ [])
    ∷ named ("service_id" ∷ "date" ∷ "exception_type" ∷ [])
    ∷ []

-- "known, may be absent"
unfoldable pub right_column : List (List Name)
right_column =
    []
    ∷ named ("location_type" ∷ "parent_station" ∷ [])
    ∷ named ("route_short_name" ∷ "route_long_name" ∷ [])
    ∷ []
    ∷ named ("direction_id" ∷ "wheelchair_accessible" ∷ "bikes_allowed" ∷ [])
    ∷ named ("pickup_type" ∷ "drop_off_type" ∷ "timepoint" ∷ [])
    ∷ []
    ∷ []

unfoldable pub must_be_present : ℕ → List Name
must_be_present f = get_or middle_column f []

unfoldable pub may_be_absent : ℕ → List Name
may_be_absent f = get_or right_column f []

-- the known names of a file
unfoldable pub known_names : ℕ → List Name
known_names f = must_be_present f ++ may_be_absent f

-- ---- what a name says

-- named `..._id`: the last three letters
unfoldable pub ends_in_id : Name → Bool
ends_in_id n = same (drop (length n - 3) n) (ascii "_id")

-- .. or parent_station: rule 11 bounds the value
unfoldable pub is_id : Name → Bool
is_id n = ends_in_id n || same n (ascii "parent_station")

-- a form, and the names that have it
pub record Form : Type 0 where
  pub names : List Name
  pub is : List ℕ → Bool

abbrev pub of : List String → (List ℕ → Bool) → Form
of ss P = record { names = named ss; is = P }

-- Value forms.
unfoldable pub forms : List Form
forms =
    of ("arrival_time" ∷ "departure_time" ∷ []) (λ v. is_time (time_of v))
    ∷ of ("start_date" ∷ "end_date" ∷ "date" ∷ []) (λ v. is_some (date_of v))
    ∷ of ("stop_lat" ∷ []) (λ v. is_some (latitude_of v))
    ∷ of ("stop_lon" ∷ []) (λ v. is_some (longitude_of v))
    ∷ of ("stop_sequence" ∷ []) (λ v. is_some (sequence_of v))
    ∷ of ("location_type" ∷ []) (λ v. is_some (choice_of 4 v))
    ∷ of ("route_type" ∷ []) (λ v. is_some (route_type_of v))
    ∷ of ("monday" ∷ "tuesday" ∷ "wednesday" ∷ "thursday" ∷ "friday" ∷ "saturday" ∷ "sunday" ∷ []) (λ v. is_some (choice_of 1 v))
    ∷ of ("direction_id" ∷ "timepoint" ∷ []) (λ v. is_some (choice_of 1 v))
    ∷ of ("wheelchair_accessible" ∷ "bikes_allowed" ∷ []) (λ v. is_some (choice_of 2 v))
    ∷ of ("pickup_type" ∷ "drop_off_type" ∷ []) (λ v. is_some (choice_of 3 v))
    ∷ of ("exception_type" ∷ []) (λ v. is_some (exception_of v))
    ∷ []

-- is a value of the form that a name has; a name that no form has is of any text
unfoldable pub form_of : List Form → Name → List ℕ → Bool
form_of [] n v = true
form_of (k ∷ r) n v = let rest = form_of r n v in cond (stands n k.names) (k.is v) rest

-- ---- what a line says under a name

-- the value under a name of a header; an absent column reads as empty
unfoldable pub under : List (List ℕ) → List ℕ → Name → List ℕ
under header l n = cell l (find n 1 header)

-- a line of stops.txt is a node or a boarding area: of type 3 or 4
abbrev pub Inner : List (List ℕ) → List ℕ → Type 0
Inner header l =
    (under header l (ascii "location_type") ≡ ascii "3") ⊎ (under header l (ascii "location_type") ≡ ascii "4")

-- where a value of the middle column may be empty
pub data Free (f : ℕ) (header : List (List ℕ)) (l : List ℕ) (n : Name) : Type 0 where
  -- the two times
  a_time_lem : Memᴰ n (named ("arrival_time" ∷ "departure_time" ∷ [])) → Free f header l n
  -- the name of a node or a boarding area
  its_name : f ≡ 1 → Inner header l → n ≡ ascii "stop_name" → Free f header l n
  -- its coordinates, together
  its_place :
      f ≡ 1
      → Inner header l
      → Memᴰ n (named ("stop_lat" ∷ "stop_lon" ∷ []))
      → under header l (ascii "stop_lat") ≡ []
      → under header l (ascii "stop_lon") ≡ []
      → Free f header l n

-- what is read of a line of each file, name by name
abbrev pub stop_read : List ℕ → List (List ℕ) → List (List ℕ)
stop_read l header =
    let r = row_of (places 1 header) l in
    stop_id r ∷ stop_name r ∷ stop_lat r ∷ stop_lon r ∷ location_type r ∷ parent_station r ∷ []

abbrev pub route_read : List ℕ → List (List ℕ) → List (List ℕ)
route_read l header =
    let r = row_of (places 2 header) l in
    route_id r ∷ route_type r ∷ route_short_name r ∷ route_long_name r ∷ []

abbrev pub service_read : List ℕ → List (List ℕ) → List (List ℕ)
service_read l header =
    let r = row_of (places 3 header) l in
    service_id r
    ∷ day_mark 0 r
    ∷ day_mark 1 r
    ∷ day_mark 2 r
    ∷ day_mark 3 r
    ∷ day_mark 4 r
    ∷ day_mark 5 r
    ∷ day_mark 6 r
    ∷ start_date r
    ∷ end_date r
    ∷ []

abbrev pub trip_read : List ℕ → List (List ℕ) → List (List ℕ)
trip_read l header =
    let r = row_of (places 4 header) l in
    trip_route r ∷ trip_service r ∷ trip_id r ∷ direction_id r ∷ wheelchair_accessible r ∷ bikes_allowed r ∷ []

abbrev pub time_read : List ℕ → List (List ℕ) → List (List ℕ)
time_read l header =
    let r = row_of (places 5 header) l in
    time_trip r
    ∷ arrival_time r
    ∷ departure_time r
    ∷ time_stop r
    ∷ stop_sequence r
    ∷ pickup_type r
    ∷ drop_off_type r
    ∷ timepoint r
    ∷ []

abbrev pub exception_read : List ℕ → List (List ℕ) → List (List ℕ)
exception_read l header =
    let r = row_of (places 6 header) l in
    exception_service r ∷ exception_date r ∷ exception_type r ∷ []

-- ---- the promise

pub record ColumnTable : Type 0 where
  -- the known names of each file, in the table's order
  pub known : (f : ℕ) → map (λ (k : Known). k.name) (schema f) ≡ known_names f
  -- what is read of a line is the value under its name
  pub stops : (l : List ℕ) (header : List (List ℕ)) → stop_read l header ≡ map (under header l) (known_names 1)
  pub routes : (l : List ℕ) (header : List (List ℕ)) → route_read l header ≡ map (under header l) (known_names 2)
  pub calendar : (l : List ℕ) (header : List (List ℕ)) → service_read l header ≡ map (under header l) (known_names 3)
  pub trips : (l : List ℕ) (header : List (List ℕ)) → trip_read l header ≡ map (under header l) (known_names 4)
  pub stop_times_lem : (l : List ℕ) (header : List (List ℕ)) → time_read l header ≡ map (under header l) (known_names 5)
  pub dates : (l : List ℕ) (header : List (List ℕ)) → exception_read l header ≡ map (under header l) (known_names 6)
  -- 8: a known name stands twice in the header
  pub twice : (f : ℕ) (header : List (List ℕ)) → rule8 f header ≡ 0 ↔ Each (λ n. standings n header ≤ 1) (known_names f)
  -- 9: a must-be-present name is missing
  pub present : (f : ℕ) (header : List (List ℕ)) → rule9 f header ≡ false ↔ Each (λ n. Memᴰ n header) (must_be_present f)
  -- 11: a value under a known column named `..._id`, or parent_station, longer than 64 bytes
  pub short :
      (f : ℕ) (header : List (List ℕ)) (l : List ℕ)
      → rule9 f header ≡ false
      → rule11 f (places f header) l ≡ 0 ↔ Each (λ n. is_id n ≡ true → length (under header l n) ≤ 64) (known_names f)
  -- 12: an empty value where one is needed: all of the middle column but for the two times, and of stops.txt as E10 says
  pub filled :
      (f : ℕ) (header : List (List ℕ)) (l : List ℕ)
      → rule9 f header ≡ false
      → rule12 f (places f header) l ≡ 0 ↔ Each (λ n. under header l n ≡ [] → Free f header l n) (must_be_present f)
  -- 13: a value not of its form
  pub formed :
      (f : ℕ) (header : List (List ℕ)) (l : List ℕ)
      → rule9 f header ≡ false
      → rule13 f (places f header) l ≡ 0 ↔ Each (λ n. (under header l n ≡ [] → ⊥) → form_of forms n (under header l n) ≡ true) (known_names f)
