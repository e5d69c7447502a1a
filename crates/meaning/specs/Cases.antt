-- Cases that are computed: document 01's starred ones, the errors of a hurried hand, and worked examples from both documents.
use Rattle.std.specs.Prelude.{◌≡◌, List, [], ◌∷◌, map, true, false, not, ℕ, ℤ, pos, negsuc, replicate, Result, Ok, Err, Option, Some, None}
use Prim.Native.String.{String}
use Rattle.meaning.specs.declared.Time.{Time}
use Rattle.meaning.specs.declared.Time.TheVariants.{Seconds, NoTime}
use Rattle.meaning.specs.declared.Refusal.{Refusal}
use Rattle.meaning.specs.declared.Place.{Place}
use Rattle.meaning.specs.declared.Profile.{Profile}
use Rattle.meaning.specs.declared.Profile.TheVariants.{Plain, Boards}
use Rattle.meaning.specs.declared.Answer.{Answer}
use Rattle.meaning.specs.declared.Answer.TheVariants.{Accepted, Findings, Refused}
use Rattle.meaning.specs.Lists.{ascii, any}
use Rattle.meaning.specs.Bytes.{good, values}
use Rattle.meaning.specs.Forms.{time_of, date_of, latitude_of, longitude_of}
use Rattle.meaning.specs.Tables.{feed_of, file_of, records_of}
use Rattle.meaning.specs.Refusals.{rule14, verdict_of}
use Rattle.meaning.specs.Findings.{Finding, finding, findings_of}
use Rattle.meaning.specs.Outcome.{Outcome, outcome}
use Rattle.meaning.specs.Promises.{beginning}
use Rattle.meaning.specs.Calls.{Lending, again, written, calls}

-- n numbers as they may be lent
abbrev pub sevens : ℕ → List ℤ
sevens n = replicate n (pos 7)

-- a text, and what the documents say of it
pub data Case : Type 0 where
  time : String → Time → Case
  date : String → Option ℕ → Case
  latitude : String → Option ℤ → Case
  longitude : String → Option ℤ → Case
  line : String → List String → Case
  refused_line : String → Case
  formed : List (List ℕ) → Case
  ill_formed : List (List ℕ) → Case
  found_by : Profile → List String → List Finding → Case
  read : List String → Result Unit Refusal → Case
  records : ℕ → List String → List (List ℤ) → Case
  call : List String → List (List ℤ) → List ℤ → Place → Outcome → Case
  handed : Profile → List String → List ℤ → Place → Answer → List ℤ → Case
  called : Profile → List String → List ℤ → List Lending → List (List ℤ) → Case

abbrev pub Holds : Case → Type 0
Holds (time s t) = time_of (ascii s) ≡ t
Holds (date s d) = date_of (ascii s) ≡ d
Holds (latitude s d) = latitude_of (ascii s) ≡ d
Holds (longitude s d) = longitude_of (ascii s) ≡ d
Holds (line s vs) = (good (ascii s) ≡ true) × (values (ascii s) ≡ map ascii vs)
Holds (refused_line s) = good (ascii s) ≡ false
Holds (formed ls) = any rule14 ls ≡ false
Holds (ill_formed ls) = any (λ l. not (rule14 l)) ls ≡ false
Holds (found_by asked files ds) = findings_of asked (feed_of (map ascii files)) ≡ ds
Holds (read files v) = verdict_of (map ascii files) (replicate 6 99) ≡ v
Holds (records f files rs) = records_of f (feed_of (map ascii files)) (file_of (map ascii files) f) ≡ rs
Holds (call files tables list p o) = outcome (map ascii files) tables list p Plain ≡ o
Holds (handed asked files list p a after) =
    let o = outcome (map ascii files) (replicate 6 (sevens 99)) list p asked in
    (o.answer ≡ a) × (o.list ≡ after)
Holds (called asked files list lendings each) =
    map written (calls asked (map ascii files) (replicate 6 (sevens 99)) list beginning lendings) ≡ each

abbrev pub AllHold : List Case → Type 0
AllHold [] = Unit {0}
AllHold (c ∷ r) = Holds c × AllHold r

-- a feed's findings where the profile isn't asked for
abbrev pub found : List String → List Finding → Case
found files ds = found_by Plain files ds

-- One feed in full, without calendar_dates.txt.
abbrev pub example : List String
example =
    "stop_id,stop_name,stop_lat,stop_lon\nA,Alder,1.5,2\nB,Birch,1.6,2\n"
    ∷ "route_id,route_short_name,route_type\nR,7,3\n"
    ∷ "service_id,monday,tuesday,wednesday,thursday,friday,saturday,sunday,start_date,end_date\nW,1,1,1,1,1,0,0,20240101,20241231\n"
    ∷ "route_id,service_id,trip_id\nR,W,T\nR,X,U\n"
    ∷ "trip_id,arrival_time,departure_time,stop_id,stop_sequence\nT,08:00:00,08:00:00,A,1\nT,07:59:59,08:05:00,B,2\nT,,,C,2\n"
    ∷ ""
    ∷ []

-- Values at the edges, starred, and the feed above.
abbrev pub starred : List Case
starred =
    time "8:10:00" (Seconds 29400)
    ∷ time "25:55:00" (Seconds 93300)
    ∷ time "99:59:59" (Seconds 359999)
    ∷ time "10:5:00" NoTime
    ∷ date "20240229" (Some 20240229)
    ∷ date "20230229" None
    ∷ latitude "-33.86749999" (Some (negsuc 338674998))
    ∷ latitude "90.00000001" None
    ∷ line "\"a\"\"b\",c" ("a\"b" ∷ "c" ∷ [])
    ∷ refused_line "a\"b"
    ∷ refused_line "\"a\"b"
    ∷ call example (sevens 22 ∷ sevens 6 ∷ sevens 12 ∷ sevens 24 ∷ sevens 33 ∷ sevens 5 ∷ []) (sevens 20) beginning (record {
      answer = Findings 5 5;
      tables =
          (pos 0 ∷ pos 0 ∷ pos 0 ∷ pos 0 ∷ pos 0 ∷ pos 0 ∷ pos 0
          ∷ pos 36 ∷ pos 37 ∷ pos 15000000 ∷ pos 20000000 ∷ pos 0 ∷ pos 0 ∷ pos 1
          ∷ pos 50 ∷ pos 51 ∷ pos 16000000 ∷ pos 20000000 ∷ pos 0 ∷ pos 0 ∷ pos 1
          ∷ pos 7 ∷ [])
          ∷ (pos 0 ∷ pos 0 ∷ pos 0
          ∷ pos 37 ∷ pos 38 ∷ pos 3 ∷ [])
          ∷ (pos 0 ∷ pos 0 ∷ pos 0 ∷ pos 0 ∷ pos 0
          ∷ pos 88 ∷ pos 89 ∷ pos 31 ∷ pos 20240101 ∷ pos 20241231
          ∷ pos 7 ∷ pos 7 ∷ [])
          ∷ (pos 0 ∷ pos 0 ∷ pos 0 ∷ pos 0 ∷ pos 0 ∷ pos 0 ∷ pos 0 ∷ pos 0
          ∷ pos 32 ∷ pos 33 ∷ pos 1 ∷ pos 1 ∷ negsuc 0 ∷ pos 0 ∷ pos 0 ∷ pos 0
          ∷ pos 38 ∷ pos 39 ∷ pos 1 ∷ pos 0 ∷ negsuc 0 ∷ pos 0 ∷ pos 0 ∷ pos 0 ∷ [])
          ∷ (pos 0 ∷ pos 0 ∷ pos 0 ∷ pos 0 ∷ pos 0 ∷ pos 0 ∷ pos 0 ∷ pos 0
          ∷ pos 1 ∷ pos 1 ∷ pos 1 ∷ pos 28800 ∷ pos 28800 ∷ pos 0 ∷ pos 0 ∷ negsuc 0
          ∷ pos 1 ∷ pos 2 ∷ pos 2 ∷ pos 28799 ∷ pos 29100 ∷ pos 0 ∷ pos 0 ∷ negsuc 0
          ∷ pos 1 ∷ pos 0 ∷ pos 2 ∷ negsuc 0 ∷ negsuc 0 ∷ pos 0 ∷ pos 0 ∷ negsuc 0
          ∷ pos 7 ∷ [])
          ∷ sevens 5
          ∷ [];
      list =
          pos 4 ∷ pos 3 ∷ pos 21
          ∷ pos 4 ∷ pos 3 ∷ pos 30
          ∷ pos 5 ∷ pos 3 ∷ pos 29
          ∷ pos 5 ∷ pos 4 ∷ pos 21
          ∷ pos 5 ∷ pos 4 ∷ pos 28
          ∷ pos 7 ∷ pos 7 ∷ pos 7 ∷ pos 7 ∷ pos 7 ∷ [];
    })
    ∷ []

-- Errors a hurried hand makes: a stop that is its own parent, an id repeated in quotes, a time that falls over an untimed line.
abbrev pub hurried_feed : List String
hurried_feed =
    "stop_id,stop_name,stop_lat,stop_lon,parent_station\nA,Alder,1.5,2,A\n\"A\",Alder,1.5,2,\n"
    ∷ "route_id,route_short_name,route_type\nR,7,3\n"
    ∷ "service_id,monday,tuesday,wednesday,thursday,friday,saturday,sunday,start_date,end_date\nW,1,1,1,1,1,0,0,20240101,20241231\n"
    ∷ "route_id,service_id,trip_id\nR,W,T\n"
    ∷ "trip_id,arrival_time,departure_time,stop_id,stop_sequence\nT,08:00:00,08:05:00,A,1\nT,,,A,2\nT,08:04:59,08:10:00,A,3\n"
    ∷ ""
    ∷ []

abbrev pub hurried : List Case
hurried =
    time "24:00:00" (Seconds 86400)
    ∷ latitude "90.00000001" None
    ∷ found hurried_feed (finding 1 2 22 ∷ finding 1 3 20 ∷ finding 5 4 29 ∷ [])
    ∷ []

-- ---- worked examples: what a reader would get wrong soonest, from document 01's own words

-- one service
abbrev pub one_service : String
one_service = "service_id,monday,tuesday,wednesday,thursday,friday,saturday,sunday,start_date,end_date\nW,1,1,1,1,1,0,0,20240101,20241231\n"

-- the files around these three: one route, one service, no calendar_dates.txt
abbrev pub around : String → String → String → List String
around stops trips times =
    stops
    ∷ "route_id,route_short_name,route_type\nR,7,3\n"
    ∷ one_service
    ∷ trips
    ∷ times
    ∷ ""
    ∷ []

-- one stop, one trip, and its two timed lines
abbrev pub one_stop : String
one_stop = "stop_id,stop_name,stop_lat,stop_lon\nA,Alder,1.5,2\n"

abbrev pub one_trip : String
one_trip = "route_id,service_id,trip_id\nR,W,T\n"

abbrev pub two_times : String
two_times = "trip_id,arrival_time,departure_time,stop_id,stop_sequence\nT,8:00:00,8:00:00,A,1\nT,8:05:00,8:05:00,A,2\n"

-- A trip with an untimed line between timed ones breaks no rule: the feed is accepted, and the empty times are stored as -1.
abbrev pub accepted_call : Case
accepted_call =
    let times : String = "trip_id,arrival_time,departure_time,stop_id,stop_sequence\nT,08:00:00,08:00:00,A,1\nT,,,A,2\nT,08:05:00,08:05:00,A,3\n" in
    call (around one_stop one_trip times) (sevens 14 ∷ sevens 6 ∷ sevens 10 ∷ sevens 17 ∷ sevens 33 ∷ [] ∷ []) (sevens 4) beginning (record {
      answer = Accepted;
      tables =
          (pos 0 ∷ pos 0 ∷ pos 0 ∷ pos 0 ∷ pos 0 ∷ pos 0 ∷ pos 0
          ∷ pos 36 ∷ pos 37 ∷ pos 15000000 ∷ pos 20000000 ∷ pos 0 ∷ pos 0 ∷ pos 1 ∷ [])
          ∷ (pos 0 ∷ pos 0 ∷ pos 0
          ∷ pos 37 ∷ pos 38 ∷ pos 3 ∷ [])
          ∷ (pos 0 ∷ pos 0 ∷ pos 0 ∷ pos 0 ∷ pos 0
          ∷ pos 88 ∷ pos 89 ∷ pos 31 ∷ pos 20240101 ∷ pos 20241231 ∷ [])
          ∷ (pos 0 ∷ pos 0 ∷ pos 0 ∷ pos 0 ∷ pos 0 ∷ pos 0 ∷ pos 0 ∷ pos 0
          ∷ pos 32 ∷ pos 33 ∷ pos 1 ∷ pos 1 ∷ negsuc 0 ∷ pos 0 ∷ pos 0 ∷ pos 0
          ∷ pos 7 ∷ [])
          ∷ (pos 0 ∷ pos 0 ∷ pos 0 ∷ pos 0 ∷ pos 0 ∷ pos 0 ∷ pos 0 ∷ pos 0
          ∷ pos 1 ∷ pos 1 ∷ pos 1 ∷ pos 28800 ∷ pos 28800 ∷ pos 0 ∷ pos 0 ∷ negsuc 0
          ∷ pos 1 ∷ pos 1 ∷ pos 2 ∷ negsuc 0 ∷ negsuc 0 ∷ pos 0 ∷ pos 0 ∷ negsuc 0
          ∷ pos 1 ∷ pos 1 ∷ pos 3 ∷ pos 29100 ∷ pos 29100 ∷ pos 0 ∷ pos 0 ∷ negsuc 0
          ∷ pos 7 ∷ [])
          ∷ []
          ∷ [];
      list = sevens 4;
    })

-- a refusal's number, file and line
abbrev pub refused_in : ℕ → ℕ → ℕ → ℕ → Refusal
refused_in n f l c = record { number = n; file = f; line = l; column = c }

-- without a column
abbrev pub refused_as : ℕ → ℕ → ℕ → Refusal
refused_as n f l = refused_in n f l 0

-- Refused, for a minute 60: the answer is number, file, line; every table and the list stay as lent.
abbrev pub refused_call : Case
refused_call =
    let times : String = "trip_id,arrival_time,departure_time,stop_id,stop_sequence\nT,8:00:00,8:00:00,A,1\nT,9:60:00,9:60:00,A,2\n" in
    let tables : List (List ℤ) = sevens 14 ∷ sevens 6 ∷ sevens 10 ∷ sevens 16 ∷ sevens 24 ∷ sevens 3 ∷ [] in
    call (around one_stop one_trip times) tables (sevens 4) beginning (record { answer = Refused (refused_in 13 5 3 2); tables = tables; list = sevens 4 })

-- The feed in full, from its first finding on, with room for two: its second and its third, and the total of five.
abbrev pub second_page : Case
second_page =
    handed Plain example (sevens 8) (record { file = pos 4; line = pos 3; rule = pos 21 })
    (Findings 2 5) (pos 4 ∷ pos 3 ∷ pos 30 ∷ pos 5 ∷ pos 3 ∷ pos 29 ∷ pos 7 ∷ pos 7 ∷ [])

-- The same feed in calls with room for four: four findings, then one, then none.
abbrev pub three_calls : Case
three_calls =
    called Plain example (sevens 12) (again ∷ again ∷ again ∷ [])
    ((pos 4 ∷ pos 3 ∷ pos 21 ∷ pos 4 ∷ pos 3 ∷ pos 30 ∷ pos 5 ∷ pos 3 ∷ pos 29 ∷ pos 5 ∷ pos 4 ∷ pos 21 ∷ [])
    ∷ (pos 5 ∷ pos 4 ∷ pos 28 ∷ [])
    ∷ []
    ∷ [])

-- 23: the resolved stop isn't type 0. Line 2 stops at A, of type 0, and line 3 at S, the station on the line below.
abbrev pub station_served : Case
station_served =
    found (around "stop_id,stop_name,stop_lat,stop_lon,location_type\nA,Alder,1.5,2,0\nS,Spruce,1.5,2,1\n" one_trip
    "trip_id,arrival_time,departure_time,stop_id,stop_sequence\nT,8:00:00,8:00:00,A,1\nT,8:05:00,8:05:00,S,2\n")
    (finding 5 3 23 ∷ [])

-- An id is kept as start and end of its raw field, quotes included: "A" from byte 36 to byte 39.
abbrev pub quoted_id : Case
quoted_id =
    records 1 (around "stop_id,stop_name,stop_lat,stop_lon\n\"A\",Alder,1.5,2\n" one_trip two_times)
    ((pos 0 ∷ pos 0 ∷ pos 0 ∷ pos 0 ∷ pos 0 ∷ pos 0 ∷ pos 0 ∷ [])
    ∷ (pos 36 ∷ pos 39 ∷ pos 15000000 ∷ pos 20000000 ∷ pos 0 ∷ pos 0 ∷ pos 1 ∷ [])
    ∷ [])

-- 22: a type 2 stop has no parent
abbrev pub entrance_alone : Case
entrance_alone =
    found (around "stop_id,stop_name,stop_lat,stop_lon,location_type,parent_station\nA,Alder,1.5,2,,\nE,Elm,1.5,2,2,\n" one_trip two_times)
    (finding 1 3 22 ∷ [])

-- Trip order is not file order. T goes from 5 to 4, with a line of U between: no rule is broken.
abbrev pub trips_mixed : Case
trips_mixed =
    found (around one_stop "route_id,service_id,trip_id\nR,W,T\nR,W,U\n"
    "trip_id,arrival_time,departure_time,stop_id,stop_sequence\nT,8:05:00,8:05:00,A,5\nU,8:00:00,8:00:00,A,1\nT,8:00:00,8:00:00,A,4\nU,8:00:00,8:00:00,A,2\n") []

-- 28: any earlier line, not only the one above, and by value: 01 is 1.
abbrev pub sequence_again : Case
sequence_again =
    found (around one_stop one_trip
    "trip_id,arrival_time,departure_time,stop_id,stop_sequence\nT,8:00:00,8:00:00,A,1\nT,8:05:00,8:05:00,A,2\nT,8:00:00,8:00:00,A,01\n")
    (finding 5 4 28 ∷ [])

-- 29: any line with a smaller sequence, also on a later line and not only the nearest; equal sequences don't count.
-- The first stop is left at 8:30, on line 4. Sequence 3 arrives at 8:10 and sequence 2 at 8:00; line 5, at 7:00, has the sequence of line 4.
abbrev pub falls_far_back : Case
falls_far_back =
    found (around one_stop one_trip
    "trip_id,arrival_time,departure_time,stop_id,stop_sequence\nT,8:10:00,8:10:00,A,3\nT,8:00:00,8:00:00,A,2\nT,8:00:00,8:30:00,A,1\nT,7:00:00,7:00:00,A,1\n")
    (finding 5 2 29 ∷ finding 5 3 29 ∷ finding 5 5 28 ∷ [])

-- 27 and 29: a line that departs before it arrives is timed all the same. Line 2 is left at 8:00, after line 3 arrives; its own arrival at 8:10 holds nobody back, so that line 4 is good.
abbrev pub backward_outruns : Case
backward_outruns =
    found (around one_stop one_trip
    "trip_id,arrival_time,departure_time,stop_id,stop_sequence\nT,8:10:00,8:00:00,A,1\nT,7:59:00,8:05:00,A,2\nT,8:07:00,8:07:00,A,3\n")
    (finding 5 2 27 ∷ finding 5 3 29 ∷ [])

-- 31: ties go to the earliest line, at the start and at the end: line 2, which isn't timed.
abbrev pub ties_at_the_start : Case
ties_at_the_start =
    found (around one_stop one_trip
    "trip_id,arrival_time,departure_time,stop_id,stop_sequence\nT,,,A,1\nT,8:00:00,8:00:00,A,1\nT,8:05:00,8:05:00,A,2\nT,,,A,2\n")
    (finding 4 2 31 ∷ finding 5 3 28 ∷ finding 5 5 28 ∷ [])

abbrev pub ties_at_the_end : Case
ties_at_the_end =
    found (around one_stop one_trip
    "trip_id,arrival_time,departure_time,stop_id,stop_sequence\nT,,,A,2\nT,8:05:00,8:05:00,A,2\nT,8:00:00,8:00:00,A,1\nT,,,A,1\n")
    (finding 4 2 31 ∷ finding 5 3 28 ∷ finding 5 5 28 ∷ [])

-- 28 and 29 go by the value of trip_id: lines of a trip that stands nowhere are compared too.
abbrev pub stray_trip : Case
stray_trip =
    found (around one_stop one_trip
    "trip_id,arrival_time,departure_time,stop_id,stop_sequence\nX,8:00:00,8:30:00,A,1\nT,8:00:00,8:00:00,A,1\nT,8:05:00,8:05:00,A,2\nX,8:10:00,8:10:00,A,2\nY,8:00:00,8:00:00,A,2\nX,9:00:00,9:00:00,A,2\n")
    (finding 5 2 21 ∷ finding 5 5 21 ∷ finding 5 5 29 ∷ finding 5 6 21 ∷ finding 5 7 21 ∷ finding 5 7 28 ∷ [])

-- Rules 30 and 31 concern only the first line of each trip_id: the second line of T breaks rule 20 alone.
abbrev pub trip_twice : Case
trip_twice =
    found (around one_stop "route_id,service_id,trip_id\nR,W,T\nR,W,T\n"
    "trip_id,arrival_time,departure_time,stop_id,stop_sequence\nT,8:00:00,8:00:00,A,1\n")
    (finding 4 2 30 ∷ finding 4 3 20 ∷ [])

-- 9: a must-be-present name is missing. The two times may be empty, and their columns must be there.
abbrev pub time_missing : Case
time_missing =
    read (around one_stop one_trip "trip_id,departure_time,stop_id,stop_sequence\nT,8:00:00,A,1\n") (Err (refused_as 9 5 1))

-- 5: tab, also inside quotes
abbrev pub tab_quoted : Case
tab_quoted =
    read (around "stop_id,stop_name,stop_lat,stop_lon\nA,\"Al\tder\",1.5,2\n" one_trip two_times) (Err (refused_as 5 1 2))

-- 7: more than 32 fields. A line of 33 breaks it, a line of 32 only rule 10.
abbrev pub fields33 : Case
fields33 =
    read (around "stop_id,stop_name,stop_lat,stop_lon\nA,Alder,1.5,2,,,,,,,,,,,,,,,,,,,,,,,,,,,,,\n" one_trip two_times) (Err (refused_as 7 1 2))

abbrev pub fields32 : Case
fields32 =
    read (around "stop_id,stop_name,stop_lat,stop_lon\nA,Alder,1.5,2,,,,,,,,,,,,,,,,,,,,,,,,,,,,\n" one_trip two_times) (Err (refused_as 10 1 2))

-- 11: an id longer than 64 bytes
abbrev pub id64 : Case
id64 =
    read (around "stop_id,stop_name,stop_lat,stop_lon\n1234567890123456789012345678901234567890123456789012345678901234,Alder,1.5,2\n" one_trip two_times) (Ok tt)

abbrev pub id65 : Case
id65 =
    read (around "stop_id,stop_name,stop_lat,stop_lon\n12345678901234567890123456789012345678901234567890123456789012345,Alder,1.5,2\n" one_trip two_times) (Err (refused_in 11 1 2 1))

-- ---- services by date, from document 02's words

-- one stop, one route and a trip with two lines; its service is as these two files have it
abbrev pub serviced : String → String → List String
serviced calendar dates =
    one_stop
    ∷ "route_id,route_short_name,route_type\nR,7,3\n"
    ∷ calendar
    ∷ one_trip
    ∷ two_times
    ∷ dates
    ∷ []

-- calendar.txt isn't supplied: its table is left as lent, record 0 too, and references into it are 0. The eighth number of a trip is the
-- first record of its service, not the earliest date: W on line 3, though line 4 has an earlier day. "W" is W.
abbrev pub dates_only : Case
dates_only =
    call (serviced "" "service_id,date,exception_type\nV,20240101,1\n\"W\",20240301,2\nW,20240201,1\n")
    (sevens 14 ∷ sevens 6 ∷ sevens 2 ∷ sevens 16 ∷ sevens 24 ∷ sevens 17 ∷ []) (sevens 1) beginning (record {
      answer = Accepted;
      tables =
          (pos 0 ∷ pos 0 ∷ pos 0 ∷ pos 0 ∷ pos 0 ∷ pos 0 ∷ pos 0
          ∷ pos 36 ∷ pos 37 ∷ pos 15000000 ∷ pos 20000000 ∷ pos 0 ∷ pos 0 ∷ pos 1 ∷ [])
          ∷ (pos 0 ∷ pos 0 ∷ pos 0
          ∷ pos 37 ∷ pos 38 ∷ pos 3 ∷ [])
          ∷ sevens 2
          ∷ (pos 0 ∷ pos 0 ∷ pos 0 ∷ pos 0 ∷ pos 0 ∷ pos 0 ∷ pos 0 ∷ pos 0
          ∷ pos 32 ∷ pos 33 ∷ pos 1 ∷ pos 0 ∷ negsuc 0 ∷ pos 0 ∷ pos 0 ∷ pos 2 ∷ [])
          ∷ (pos 0 ∷ pos 0 ∷ pos 0 ∷ pos 0 ∷ pos 0 ∷ pos 0 ∷ pos 0 ∷ pos 0
          ∷ pos 1 ∷ pos 1 ∷ pos 1 ∷ pos 28800 ∷ pos 28800 ∷ pos 0 ∷ pos 0 ∷ negsuc 0
          ∷ pos 1 ∷ pos 1 ∷ pos 2 ∷ pos 29100 ∷ pos 29100 ∷ pos 0 ∷ pos 0 ∷ negsuc 0 ∷ [])
          ∷ (pos 0 ∷ pos 0 ∷ pos 0 ∷ pos 0
          ∷ pos 31 ∷ pos 32 ∷ pos 20240101 ∷ pos 1
          ∷ pos 44 ∷ pos 47 ∷ pos 20240301 ∷ pos 2
          ∷ pos 59 ∷ pos 60 ∷ pos 20240201 ∷ pos 1
          ∷ pos 7 ∷ [])
          ∷ [];
      list = sevens 1;
    })

-- A service that stands in both files: number 4 is its calendar.txt record, number 8 its first file 6 record.
abbrev pub in_both : Case
in_both =
    records 4 (serviced one_service "service_id,date,exception_type\nW,20240301,2\n")
    ((pos 0 ∷ pos 0 ∷ pos 0 ∷ pos 0 ∷ pos 0 ∷ pos 0 ∷ pos 0 ∷ pos 0 ∷ [])
    ∷ (pos 32 ∷ pos 33 ∷ pos 1 ∷ pos 1 ∷ negsuc 0 ∷ pos 0 ∷ pos 0 ∷ pos 1 ∷ [])
    ∷ [])

-- If both are empty, it is file 3 that breaks rule 4.
abbrev pub both_empty : Case
both_empty = read (serviced "" "") (Err (refused_as 4 3 0))

-- .. in its turn among the files
abbrev pub in_its_turn : Case
in_its_turn =
    read (one_stop ∷ "" ∷ "" ∷ one_trip ∷ two_times ∷ "" ∷ []) (Err (refused_as 4 2 0))

-- A file with bytes is supplied: file 6 without its last ending breaks rule 4, and calendar.txt may be empty beside it.
abbrev pub dates_unended : Case
dates_unended = read (serviced "" "service_id,date,exception_type") (Err (refused_as 4 6 0))

-- .. and so is a header alone: the feed reads, and 21 says that the service stands in neither file
abbrev pub dates_header_only : Case
dates_header_only = found (serviced "" "service_id,date,exception_type\n") (finding 4 2 21 ∷ [])

-- 13: exception_type is 1 or 2
abbrev pub exception_zero : Case
exception_zero =
    read (serviced one_service "service_id,date,exception_type\nW,20240101,0\n") (Err (refused_in 13 6 2 3))

-- files are read in order: file 5 speaks before file 6
abbrev pub times_before_dates : Case
times_before_dates =
    let times : String = "trip_id,arrival_time,departure_time,stop_id,stop_sequence\nT,9:60:00,9:60:00,A,2\n" in
    read (one_stop ∷ "route_id,route_short_name,route_type\nR,7,3\n" ∷ one_service ∷ one_trip ∷ times ∷ "service_id\n" ∷ []) (Err (refused_in 13 5 2 2))

-- 20: the same service and date, whatever the type; the service alone may stand again, and so may the date.
abbrev pub dates_twice : Case
dates_twice =
    found (serviced one_service "service_id,date,exception_type\nW,20240101,1\nW,20240102,1\nV,20240101,1\n\"W\",20240101,2\nV,20240102,1\nW,20240101,1\n")
    (finding 6 5 20 ∷ finding 6 7 20 ∷ [])

-- ---- bad UTF-8, from document 02's words; a character of a text below stands for the byte with its number

-- the first and the last sequence of each row of the table, and characters one after the other, EF BB BF among them
abbrev pub rows_allow : Case
rows_allow =
    formed
    ((0x00 ∷ []) ∷ (0x7F ∷ [])
    ∷ (0xC2 ∷ 0x80 ∷ []) ∷ (0xDF ∷ 0xBF ∷ [])
    ∷ (0xE0 ∷ 0xA0 ∷ 0x80 ∷ []) ∷ (0xE0 ∷ 0xBF ∷ 0xBF ∷ [])
    ∷ (0xE1 ∷ 0x80 ∷ 0x80 ∷ []) ∷ (0xEC ∷ 0xBF ∷ 0xBF ∷ [])
    ∷ (0xED ∷ 0x80 ∷ 0x80 ∷ []) ∷ (0xED ∷ 0x9F ∷ 0xBF ∷ [])
    ∷ (0xEE ∷ 0x80 ∷ 0x80 ∷ []) ∷ (0xEF ∷ 0xBF ∷ 0xBF ∷ [])
    ∷ (0xF0 ∷ 0x90 ∷ 0x80 ∷ 0x80 ∷ []) ∷ (0xF0 ∷ 0xBF ∷ 0xBF ∷ 0xBF ∷ [])
    ∷ (0xF1 ∷ 0x80 ∷ 0x80 ∷ 0x80 ∷ []) ∷ (0xF3 ∷ 0xBF ∷ 0xBF ∷ 0xBF ∷ [])
    ∷ (0xF4 ∷ 0x80 ∷ 0x80 ∷ 0x80 ∷ []) ∷ (0xF4 ∷ 0x8F ∷ 0xBF ∷ 0xBF ∷ [])
    ∷ []
    ∷ (0x41 ∷ 0xC3 ∷ 0xA4 ∷ 0xEF ∷ 0xBB ∷ 0xBF ∷ 0xF0 ∷ 0x9F ∷ 0x9A ∷ 0x8C ∷ 0x42 ∷ [])
    ∷ [])

-- no overlong forms, no surrogates, nothing above U+10FFFF; a later byte alone, half a character, a character broken by a comma, one byte too many
abbrev pub no_row_allows : Case
no_row_allows =
    ill_formed
    ((0xC0 ∷ 0x80 ∷ []) ∷ (0xC1 ∷ 0xBF ∷ []) ∷ (0xE0 ∷ 0x9F ∷ 0xBF ∷ []) ∷ (0xF0 ∷ 0x8F ∷ 0xBF ∷ 0xBF ∷ [])
    ∷ (0xED ∷ 0xA0 ∷ 0x80 ∷ []) ∷ (0xED ∷ 0xBF ∷ 0xBF ∷ [])
    ∷ (0xF4 ∷ 0x90 ∷ 0x80 ∷ 0x80 ∷ []) ∷ (0xF5 ∷ 0x80 ∷ 0x80 ∷ 0x80 ∷ []) ∷ (0xFF ∷ [])
    ∷ (0x80 ∷ []) ∷ (0x41 ∷ 0xBF ∷ [])
    ∷ (0xC3 ∷ []) ∷ (0xE2 ∷ 0x82 ∷ []) ∷ (0xF0 ∷ 0x9F ∷ 0x9A ∷ [])
    ∷ (0xE2 ∷ 0x2C ∷ 0x82 ∷ 0xAC ∷ []) ∷ (0xC3 ∷ 0xA4 ∷ 0xA4 ∷ [])
    ∷ [])

-- half a character, in a quoted name: 14, on its line
abbrev pub half_character : Case
half_character =
    read (around "stop_id,stop_name,stop_lat,stop_lon\nA,\"CafÃ\",1.5,2\n" one_trip two_times) (Err (refused_as 14 1 2))

-- header too, under a name that no file knows
abbrev pub bad_header : Case
bad_header =
    read (around "stop_id,stop_name,stop_lat,stop_lon,é\nA,Alder,1.5,2,\n" one_trip two_times) (Err (refused_as 14 1 1))

-- after 5 and before 6: a tab speaks first, a mark in a bare field doesn't
abbrev pub tab_and_bad : Case
tab_and_bad =
    read (around "stop_id,stop_name,stop_lat,stop_lon\nA,é\t,1.5,2\n" one_trip two_times) (Err (refused_as 5 1 2))

abbrev pub bad_and_mark : Case
bad_and_mark =
    read (around "stop_id,stop_name,stop_lat,stop_lon\nA,\"\"aé,1.5,2\n" one_trip two_times) (Err (refused_as 14 1 2))

-- lines keep their order: 13 on line 2 speaks before 14 on line 3
abbrev pub bad_later : Case
bad_later =
    read (around "stop_id,stop_name,stop_lat,stop_lon\nA,Alder,x,2\nB,é,1.5,2\n" one_trip two_times) (Err (refused_in 13 1 2 3))

-- The mark at the start is dropped once; a second one is a character, and part of the first name.
abbrev pub mark_twice : Case
mark_twice =
    read (around "ï»¿ï»¿stop_id,stop_name,stop_lat,stop_lon\nA,Alder,1.5,2\n" one_trip two_times) (Err (refused_as 9 1 1))

-- ---- which column, from document 02's words

-- of two names that stand twice, the second standing further left: neither a first standing nor the first name's
abbrev pub stands_again : Case
stands_again =
    read (around "stop_id,stop_name,stop_name,stop_id,stop_lat,stop_lon\n" one_trip two_times) (Err (refused_in 8 1 1 3))

-- a third standing is never it; a name that nobody reads may stand twice, and its columns count
abbrev pub third_standing : Case
third_standing =
    read (around "stop_lat,stop_id,note,note,\"stop_id\",stop_id,stop_name,stop_lon\n" one_trip two_times) (Err (refused_in 8 1 1 5))

-- the leftmost in the line, whatever the order of the known columns, unread columns counted
abbrev pub headers_order : Case
headers_order =
    read (around "note,stop_lon,stop_lat,stop_name,stop_id\n,2,1.5,Alder,A\n,x,y,Birch,B\n" one_trip two_times) (Err (refused_in 13 1 3 2))

-- of the named rule: 12 speaks before 13, though a value to the left breaks 13
abbrev pub named_rule : Case
named_rule =
    read (around "stop_lat,stop_id,stop_name,stop_lon\nx,A,,\n" one_trip two_times) (Err (refused_in 12 1 2 3))

-- ---- nodes and boarding areas, from document 02's words

-- The seventh number: 0 for N, which has no place, 1 for B, whose place is at 0, 0.
abbrev pub without_place : Case
without_place =
    records 1 (around "stop_id,stop_name,stop_lat,stop_lon,location_type,parent_station\nS,Spruce,1.5,2,1,\nA,Alder,1.5,2,0,S\nN,,,,3,S\nB,,0,0,4,A\n" one_trip two_times)
    ((pos 0 ∷ pos 0 ∷ pos 0 ∷ pos 0 ∷ pos 0 ∷ pos 0 ∷ pos 0 ∷ [])
    ∷ (pos 65 ∷ pos 66 ∷ pos 15000000 ∷ pos 20000000 ∷ pos 1 ∷ pos 0 ∷ pos 1 ∷ [])
    ∷ (pos 83 ∷ pos 84 ∷ pos 15000000 ∷ pos 20000000 ∷ pos 0 ∷ pos 1 ∷ pos 1 ∷ [])
    ∷ (pos 101 ∷ pos 102 ∷ pos 0 ∷ pos 0 ∷ pos 3 ∷ pos 1 ∷ pos 0 ∷ [])
    ∷ (pos 110 ∷ pos 111 ∷ pos 0 ∷ pos 0 ∷ pos 4 ∷ pos 2 ∷ pos 1 ∷ [])
    ∷ [])

-- 22: type 3 has no parent, or one of type 0; type 4 has no parent, or a station. Lines 8 and 9, whose parent stands nowhere, break 21 alone.
-- Line 10: a node is no parent of a stop. Lines 11 and 12 break no rule.
abbrev pub parents_of_nodes : Case
parents_of_nodes =
    found (around "stop_id,stop_name,stop_lat,stop_lon,location_type,parent_station\nS,Spruce,1.5,2,1,\nA,Alder,1.5,2,0,S\nN,,,,3,\nM,,,,3,A\nB,,,,4,S\nC,,,,4,\nD,,,,4,X\nE,,,,3,X\nF,Fir,1.5,2,0,N\nG,,,,4,A\nH,,,,3,S\n" one_trip two_times)
    (finding 1 4 22 ∷ finding 1 5 22 ∷ finding 1 6 22 ∷ finding 1 7 22 ∷ finding 1 8 21 ∷ finding 1 9 21 ∷ finding 1 10 22 ∷ [])

-- 23: a node isn't type 0
abbrev pub node_served : Case
node_served =
    found (around "stop_id,stop_name,stop_lat,stop_lon,location_type,parent_station\nS,Spruce,1.5,2,1,\nA,,,,3,S\n" one_trip two_times)
    (finding 5 2 23 ∷ finding 5 3 23 ∷ [])

-- a feed with these stops
abbrev pub of_type : String → List String
of_type stops = around stops one_trip two_times

-- For types 3 and 4 the name may be empty, and the coordinates together.
abbrev pub open_lines : Case
open_lines =
    read (of_type "stop_id,stop_name,stop_lat,stop_lon,location_type\nA,Alder,1.5,2,\nN,,,,3\nB,,1.5,2,4\nC,,,,\"4\"\n") (Ok tt)

-- .. one alone is refusal 12, in the column of the empty one, also where the other isn't of its form
abbrev pub latitude_alone : Case
latitude_alone =
    read (of_type "stop_id,stop_name,stop_lat,stop_lon,location_type\nN,,1.5,,3\n") (Err (refused_in 12 1 2 4))

abbrev pub longitude_alone : Case
longitude_alone =
    read (of_type "stop_id,stop_name,stop_lat,stop_lon,location_type\nN,,,x,4\n") (Err (refused_in 12 1 2 3))

-- an id is needed on every line, a name on lines of type 2
abbrev pub id_needed : Case
id_needed =
    read (of_type "location_type,stop_name,stop_lat,stop_lon,stop_id\n3,,,,\n") (Err (refused_in 12 1 2 5))

abbrev pub name_needed : Case
name_needed =
    read (of_type "stop_id,stop_name,stop_lat,stop_lon,location_type\nE,,1.5,2,2\n") (Err (refused_in 12 1 2 2))

-- A location_type not of its form counts as 0 for rule 12, which then speaks before 13.
abbrev pub type_unread : Case
type_unread =
    read (of_type "stop_id,stop_name,stop_lat,stop_lon,location_type\nN,Nut,,,5\n") (Err (refused_in 12 1 2 3))

abbrev pub type_only : Case
type_only =
    read (of_type "stop_id,stop_name,stop_lat,stop_lon,location_type\nN,Nut,1.5,2,5\n") (Err (refused_in 13 1 2 5))

-- ---- a profile for boards, from document 02's words

-- Line 3 has one time, line 4 none. Lines 5 to 7: 2 and 3 at either end, and at both. 47:59:59 is early enough, 48:00:00 isn't: line 9 by its
-- departure alone, line 10 by its arrival, though it isn't timed. Line 11 breaks two rules.
abbrev pub for_boards : List String
for_boards =
    around one_stop one_trip
    "trip_id,arrival_time,departure_time,stop_id,stop_sequence,pickup_type,drop_off_type\nT,8:00:00,8:00:00,A,1,,\nT,8:01:00,,A,2,0,1\nT,,,A,3,1,0\nT,8:05:00,8:05:00,A,4,2,0\nT,8:06:00,8:06:00,A,5,0,3\nT,8:07:00,8:07:00,A,6,3,2\nT,47:59:59,47:59:59,A,7,1,1\nT,47:59:59,48:00:00,A,8,,\nT,48:00:00,,A,9,,\nT,48:00:01,48:00:01,A,10,3,\n"

abbrev pub as_boards_ask : Case
as_boards_ask =
    found_by Boards for_boards
    (finding 5 3 26 ∷ finding 5 3 60 ∷ finding 5 4 60 ∷ finding 5 5 61 ∷ finding 5 6 61 ∷ finding 5 7 61 ∷ finding 5 9 62
    ∷ finding 5 10 26 ∷ finding 5 10 60 ∷ finding 5 10 62 ∷ finding 5 11 61 ∷ finding 5 11 62 ∷ [])

-- without it, answers are those of before
abbrev pub as_all_ask : Case
as_all_ask = found_by Plain for_boards (finding 5 3 26 ∷ finding 5 10 26 ∷ [])

-- The same feed from (5, 3, 31) on, with room for two: 60 stands behind 31 on its line, and the total is the one of the list so asked for.
abbrev pub boards_page : Case
boards_page =
    handed Boards for_boards (sevens 7) (record { file = pos 5; line = pos 3; rule = pos 31 })
    (Findings 2 12) (pos 5 ∷ pos 3 ∷ pos 60 ∷ pos 5 ∷ pos 4 ∷ pos 60 ∷ pos 7 ∷ [])

-- A feed that is accepted has a finding where the profile is asked for: calls that all ask give it, then none.
abbrev pub boards_calls : Case
boards_calls =
    called Boards
    (around one_stop one_trip "trip_id,arrival_time,departure_time,stop_id,stop_sequence\nT,08:00:00,08:00:00,A,1\nT,,,A,2\nT,08:05:00,08:05:00,A,3\n")
    (sevens 3) (again ∷ again ∷ [])
    ((pos 5 ∷ pos 3 ∷ pos 60 ∷ []) ∷ [] ∷ [])

abbrev pub worked : List Case
worked =
    accepted_call
    ∷ refused_call
    ∷ second_page
    ∷ three_calls
    ∷ station_served
    ∷ quoted_id
    ∷ entrance_alone
    ∷ trips_mixed
    ∷ sequence_again
    ∷ falls_far_back
    ∷ backward_outruns
    ∷ ties_at_the_start
    ∷ ties_at_the_end
    ∷ stray_trip
    ∷ trip_twice
    ∷ time_missing
    ∷ tab_quoted
    ∷ fields33
    ∷ fields32
    ∷ id64
    ∷ id65
    ∷ dates_only
    ∷ in_both
    ∷ both_empty
    ∷ in_its_turn
    ∷ dates_unended
    ∷ dates_header_only
    ∷ exception_zero
    ∷ times_before_dates
    ∷ dates_twice
    ∷ rows_allow
    ∷ no_row_allows
    ∷ half_character
    ∷ bad_header
    ∷ tab_and_bad
    ∷ bad_and_mark
    ∷ bad_later
    ∷ mark_twice
    ∷ stands_again
    ∷ third_standing
    ∷ headers_order
    ∷ named_rule
    ∷ without_place
    ∷ parents_of_nodes
    ∷ node_served
    ∷ open_lines
    ∷ latitude_alone
    ∷ longitude_alone
    ∷ id_needed
    ∷ name_needed
    ∷ type_unread
    ∷ type_only
    ∷ longitude "180" (Some (pos 1800000000))
    ∷ time "9:60:00" NoTime
    ∷ as_boards_ask
    ∷ as_all_ask
    ∷ boards_page
    ∷ boards_calls
    ∷ []
