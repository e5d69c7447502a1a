-- Worked cases of the list: each way in which a file or a header hides something of its lines, and what hides nothing.
-- A character of a text below stands for the byte with its number.
use Rattle.std.specs.Prelude.{◌≡◌, List, [], ◌∷◌, map, ℕ}
use Prim.Native.String.{String}
use Rattle.meaning.specs.declared.Refusal.{Refusal}
use Rattle.meaning.specs.Lists.{ascii}
use Rattle.meaning.specs.Cases.{example}
use Rattle.faults.specs.List.{faults_of}

-- files, and their faults
pub data Case : Type 0 where
  has : List String → List Refusal → Case

abbrev pub Holds : Case → Type 0
Holds (has files ds) = faults_of (map ascii files) ≡ ds

abbrev pub AllHold : List Case → Type 0
AllHold [] = Unit {0}
AllHold (c ∷ r) = Holds c × AllHold r

-- a fault by its file, line, number and column
abbrev pub fault : ℕ → ℕ → ℕ → ℕ → Refusal
fault f l n c = record { number = n; file = f; line = l; column = c }

-- files without records around these three
abbrev pub around : String → String → String → List String
around routes calendar dates =
    "stop_id,stop_name,stop_lat,stop_lon\n"
    ∷ routes
    ∷ calendar
    ∷ "route_id,service_id,trip_id\n"
    ∷ "trip_id,arrival_time,departure_time,stop_id,stop_sequence\n"
    ∷ dates
    ∷ []

-- the same around routes.txt, without calendar.txt
abbrev pub routes : String → List String
routes s = around s "" "service_id,date,exception_type\n"

-- ---- nothing to name

-- document 01's feed in full reads, whatever its findings: calendar_dates.txt isn't supplied
abbrev pub good : Case
good = has example []

-- neither is calendar.txt here
abbrev pub not_supplied : Case
not_supplied = has (routes "route_id,route_type\nR,3\n") []

-- One CR directly before an LF belongs to the ending.
abbrev pub cr_and_lf : Case
cr_and_lf = has (routes "route_id,route_type\r\nR,3\r\n") []

-- ---- a file as a whole

-- An empty file has 4 and nothing else; if both of files 3 and 6 are empty, it is file 3.
abbrev pub empty_file : Case
empty_file = has (routes "") (fault 2 0 4 0 ∷ [])

abbrev pub both_empty : Case
both_empty = has (around "route_id,route_type\n" "" "") (fault 3 0 4 0 ∷ [])

-- The mark is dropped first: alone it leaves no line.
abbrev pub mark_alone : Case
mark_alone = has (routes "ï»¿") (fault 2 0 4 0 ∷ [])

-- A missing last line ending hides nothing: neither an earlier line, nor the last, which may be good.
abbrev pub earlier_line : Case
earlier_line = has (routes "route_id,route_type\nR,x\nS,3") (fault 2 0 4 0 ∷ fault 2 2 13 2 ∷ [])

abbrev pub last_line : Case
last_line = has (routes "ï»¿route_id,route_type\nR,3\nS,x") (fault 2 0 4 0 ∷ fault 2 3 13 2 ∷ [])

-- Line 1 is the header also where it is the unended last line.
abbrev pub unended_header : Case
unended_header = has (routes "route_id") (fault 2 0 4 0 ∷ fault 2 1 9 0 ∷ [])

abbrev pub good_header : Case
good_header = has (routes "route_id,route_type") (fault 2 0 4 0 ∷ [])

-- A CR at the very end of a file belongs to no ending.
abbrev pub cr_at_end : Case
cr_at_end = has (routes "route_id,route_type\r\nR,3\r") (fault 2 0 4 0 ∷ fault 2 2 5 0 ∷ [])

-- ---- a refused header hides the values below it, the field count too, and nothing else

abbrev pub header5 : Case
header5 = has (routes "route_id,route_type,\t\nR,x,\nS,3,\t\n") (fault 2 1 5 0 ∷ fault 2 3 5 0 ∷ [])

abbrev pub header14 : Case
header14 = has (routes "route_id,route_type,é\n,3,\nS,é,\n") (fault 2 1 14 0 ∷ fault 2 3 14 0 ∷ [])

abbrev pub header6 : Case
header6 = has (routes "route_id,route_type,\"\nR,3\nS,\"a\"b,\n") (fault 2 1 6 0 ∷ fault 2 3 6 0 ∷ [])

abbrev pub header7 : Case
header7 =
    has (routes "route_id,route_type,,,,,,,,,,,,,,,,,,,,,,,,,,,,,,,\nR,x,,,,,,,,,,,,,,,,,,,,,,,,,,,,,,\nS,3,,,,,,,,,,,,,,,,,,,,,,,,,,,,,,,\n")
    (fault 2 1 7 0 ∷ fault 2 3 7 0 ∷ [])

abbrev pub header8 : Case
header8 = has (routes "route_id,route_type,route_id\nR,x,R\nS,3,\tS\n") (fault 2 1 8 3 ∷ fault 2 3 5 0 ∷ [])

abbrev pub header9 : Case
header9 = has (routes "route_id,note\n,\n\"S,\n") (fault 2 1 9 0 ∷ fault 2 3 6 0 ∷ [])

-- .. and of its own file only
abbrev pub other_file : Case
other_file =
    has (around "route_id\nR\n" "" "service_id,date,exception_type\nW,20240101,0\n") (fault 2 1 9 0 ∷ fault 6 2 13 3 ∷ [])

-- ---- lines

-- Every line is judged, whatever stands on the others.
abbrev pub every_line : Case
every_line =
    has (routes "route_id,route_type\nR,x\nS\nT,3\n,3\n") (fault 2 2 13 2 ∷ fault 2 3 10 0 ∷ fault 2 5 12 1 ∷ [])

-- A line has one fault: the first that speaks, which is 14 before 6, and 12 before 13 further left.
abbrev pub one_on_a_line : Case
one_on_a_line =
    has (routes "route_type,route_id\nx,\n3,\"\"é\n3\t\n") (fault 2 2 12 2 ∷ fault 2 3 14 0 ∷ fault 2 4 5 0 ∷ [])

-- ---- files

-- Faults in every file, by file, line, number: the verdict names the empty file 4 alone.
abbrev pub every_file : Case
every_file =
    has
    ("stop_id,stop_name,stop_lat,stop_lon\nA,Alder,91,2\nB,,1.5,2\n"
    ∷ "route_id,route_type,route_type\nR,3,3\n"
    ∷ "service_id\nW,x"
    ∷ ""
    ∷ "trip_id,arrival_time,departure_time,stop_id,stop_sequence\nT,9:60:00,,A,1\n"
    ∷ "service_id,date,exception_type\nW,20230229,1"
    ∷ [])
    (fault 1 2 13 3
    ∷ fault 1 3 12 2
    ∷ fault 2 1 8 3
    ∷ fault 3 0 4 0
    ∷ fault 3 1 9 0
    ∷ fault 4 0 4 0
    ∷ fault 5 2 13 2
    ∷ fault 6 0 4 0
    ∷ fault 6 2 13 2
    ∷ [])

abbrev pub worked : List Case
worked =
    good
    ∷ not_supplied
    ∷ cr_and_lf
    ∷ empty_file
    ∷ both_empty
    ∷ mark_alone
    ∷ earlier_line
    ∷ last_line
    ∷ unended_header
    ∷ good_header
    ∷ cr_at_end
    ∷ header5
    ∷ header14
    ∷ header6
    ∷ header7
    ∷ header8
    ∷ header9
    ∷ other_file
    ∷ every_line
    ∷ one_on_a_line
    ∷ every_file
    ∷ []
