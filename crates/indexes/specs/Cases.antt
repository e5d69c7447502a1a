-- Worked examples of an index beside the feed, from document 02's words.
use Rattle.std.specs.Prelude.{◌≡◌, List, [], ◌∷◌, ◌++◌, ℕ, length, replicate}
use Prim.Native.String.{String}
use Rattle.meaning.specs.Lists.{ascii}
use Rattle.indexes.specs.Index.{checked, wrote, written, index_numbers}

-- a file by its number, and what is answered, as the five numbers of `index_numbers`
pub data Case : Type 0 where
  -- to the writer, which is lent a buffer; then what the buffer holds
  writing : ℕ → String → List ℕ → List ℕ → List ℕ → Case
  -- to an index that is handed to the reader
  checking : ℕ → String → List ℕ → List ℕ → Case

abbrev pub Holds : Case → Type 0
Holds (writing f s lent answer after) =
    (index_numbers (wrote f (ascii s) (length lent)) ≡ answer) × (written f (ascii s) lent ≡ after)
Holds (checking f s b answer) = index_numbers (checked f (ascii s) b) ≡ answer

abbrev pub AllHold : List Case → Type 0
AllHold [] = Unit {0}
AllHold (c ∷ r) = Holds c × AllHold r

-- an index of so many bytes, or a refusal from 40 to 46
abbrev pub whole : ℕ → List ℕ
whole n = 0 ∷ 0 ∷ 0 ∷ 0 ∷ n ∷ []

abbrev pub barred : ℕ → List ℕ
barred n = n ∷ 0 ∷ 0 ∷ 0 ∷ 0 ∷ []

-- n bytes as they may be lent
abbrev pub sevens : ℕ → List ℕ
sevens n = replicate n 7

-- the mark and version 1, then file, count and record numbers as bytes
abbrev pub one : List ℕ → List ℕ
one rest = 0x54 ∷ 0x54 ∷ 0x58 ∷ 1 ∷ 0 ∷ rest

-- ---- the writer

-- Record 1 is B, record 2 is A, record 3 is AB: A is a proper prefix and comes first.
abbrev pub routes : String
routes = "route_id,route_type\nB,3\n\"A\",3\nAB,3\n"

abbrev pub of_routes : List ℕ
of_routes = one (2 ∷ 3 ∷ 0 ∷ 2 ∷ 0 ∷ 3 ∷ 0 ∷ 1 ∷ 0 ∷ [])

-- 8 plus twice 3 bytes fit exactly; of a longer buffer the rest stays; a byte less is 46, and nothing is changed
abbrev pub exact_room : Case
exact_room = writing 2 routes (sevens 14) (whole 14) of_routes

abbrev pub long_room : Case
long_room = writing 2 routes (sevens 16) (whole 14) (of_routes ++ sevens 2)

abbrev pub short_room : Case
short_room = writing 2 routes (sevens 13) (barred 46) (sevens 13)

-- By value: the mark of "B" is less than A, and B is more.
abbrev pub by_value : Case
by_value = writing 2 "route_id,route_type\n\"B\",3\nA,3\n" (sevens 12) (whole 12) (one (2 ∷ 2 ∷ 0 ∷ 2 ∷ 0 ∷ 1 ∷ 0 ∷ []))

-- As bytes: é is C3 A9, more than z.
abbrev pub above_ascii : Case
above_ascii = writing 2 "route_id,route_type\nÃ©,3\nz,3\n" (sevens 12) (whole 12) (one (2 ∷ 2 ∷ 0 ∷ 2 ∷ 0 ∷ 1 ∷ 0 ∷ []))

-- The ids of trips.txt stand in its third column.
abbrev pub trips : Case
trips =
    writing 4 "route_id,service_id,trip_id\nR,W,A\nQ,V,B\n" (sevens 12) (whole 12) (one (4 ∷ 2 ∷ 0 ∷ 1 ∷ 0 ∷ 2 ∷ 0 ∷ []))

-- No records: 8 bytes.
abbrev pub no_records : Case
no_records = writing 2 "route_id,route_type\n" (sevens 8) (whole 8) (one (2 ∷ 0 ∷ 0 ∷ []))

-- 45 a repeated id, by value, then 46: nothing is changed
abbrev pub again : String
again = "route_id,route_type\nA,3\n\"A\",3\n"

abbrev pub repeated : Case
repeated = writing 2 again (sevens 11) (barred 45) (sevens 11)

-- ---- the reader

abbrev pub accepted : Case
accepted = checking 2 routes of_routes (whole 14)

abbrev pub nothing_listed : Case
nothing_listed = checking 2 "route_id,route_type\n" (one (2 ∷ 0 ∷ 0 ∷ [])) (whole 8)

-- 40: shorter than 8 bytes, or wrong mark, though the version is wrong too
abbrev pub seven_bytes : Case
seven_bytes = checking 2 "route_id,route_type\n" (one (2 ∷ 0 ∷ [])) (barred 40)

abbrev pub wrong_mark : Case
wrong_mark =
    checking 2 routes (0x54 ∷ 0x54 ∷ 0x59 ∷ 2 ∷ 0 ∷ 2 ∷ 3 ∷ 0 ∷ 2 ∷ 0 ∷ 3 ∷ 0 ∷ 1 ∷ 0 ∷ []) (barred 40)

-- the mark and version 2, then file, count and record numbers as bytes
abbrev pub two : List ℕ → List ℕ
two rest = 0x54 ∷ 0x54 ∷ 0x58 ∷ 2 ∷ 0 ∷ rest

-- 41: versions 0, 3 and 257, though the count is wrong too
abbrev pub version_zero : Case
version_zero = checking 2 routes (0x54 ∷ 0x54 ∷ 0x58 ∷ 0 ∷ 0 ∷ 2 ∷ 2 ∷ 0 ∷ 2 ∷ 0 ∷ 3 ∷ 0 ∷ []) (barred 41)

abbrev pub version_three : Case
version_three = checking 2 routes (0x54 ∷ 0x54 ∷ 0x58 ∷ 3 ∷ 0 ∷ 2 ∷ 2 ∷ 0 ∷ 2 ∷ 0 ∷ 3 ∷ 0 ∷ []) (barred 41)

abbrev pub version257 : Case
version257 = checking 2 routes (0x54 ∷ 0x54 ∷ 0x58 ∷ 1 ∷ 1 ∷ 2 ∷ 2 ∷ 0 ∷ 2 ∷ 0 ∷ 3 ∷ 0 ∷ []) (barred 41)

-- 42: version 2 of three records, as version 1 has them or 10 plus four times 3 bytes; of none, in 8, 9 and 10 bytes
abbrev pub narrow_two : Case
narrow_two = checking 2 routes (two (2 ∷ 3 ∷ 0 ∷ 2 ∷ 0 ∷ 3 ∷ 0 ∷ 1 ∷ 0 ∷ [])) (barred 42)

abbrev pub wide_two : Case
wide_two = checking 2 routes (two (2 ∷ 3 ∷ 0 ∷ 0 ∷ 0 ∷ 2 ∷ 0 ∷ 0 ∷ 0 ∷ 3 ∷ 0 ∷ 0 ∷ 0 ∷ 1 ∷ 0 ∷ 0 ∷ 0 ∷ [])) (barred 42)

abbrev pub eight_bytes : Case
eight_bytes = checking 2 "route_id,route_type\n" (two (2 ∷ 0 ∷ 0 ∷ [])) (barred 42)

abbrev pub nine_bytes : Case
nine_bytes = checking 2 "route_id,route_type\n" (two (2 ∷ 0 ∷ 0 ∷ 0 ∷ [])) (barred 42)

abbrev pub ten_bytes : Case
ten_bytes = checking 2 "route_id,route_type\n" (two (2 ∷ 0 ∷ 0 ∷ 0 ∷ 0 ∷ [])) (barred 42)

-- 42: another file's number; two records of three, and 259; a byte more than the count needs, and one less, which is 0
abbrev pub wrong_file : Case
wrong_file = checking 2 routes (one (1 ∷ 3 ∷ 0 ∷ 2 ∷ 0 ∷ 3 ∷ 0 ∷ 1 ∷ 0 ∷ [])) (barred 42)

abbrev pub one_less : Case
one_less = checking 2 routes (one (2 ∷ 2 ∷ 0 ∷ 2 ∷ 0 ∷ 3 ∷ 0 ∷ [])) (barred 42)

abbrev pub high_count : Case
high_count = checking 2 routes (one (2 ∷ 3 ∷ 1 ∷ 2 ∷ 0 ∷ 3 ∷ 0 ∷ 1 ∷ 0 ∷ [])) (barred 42)

abbrev pub byte_more : Case
byte_more = checking 2 routes (of_routes ++ sevens 1) (barred 42)

abbrev pub byte_less : Case
byte_less = checking 2 routes (one (2 ∷ 3 ∷ 0 ∷ 2 ∷ 0 ∷ 3 ∷ 0 ∷ 1 ∷ [])) (barred 42)

-- 43: record 0, though the two before it fall; record 4 of three; record 257
abbrev pub record_zero : Case
record_zero = checking 2 routes (one (2 ∷ 3 ∷ 0 ∷ 1 ∷ 0 ∷ 2 ∷ 0 ∷ 0 ∷ 0 ∷ [])) (barred 43)

abbrev pub beyond_last : Case
beyond_last = checking 2 routes (one (2 ∷ 3 ∷ 0 ∷ 2 ∷ 0 ∷ 3 ∷ 0 ∷ 4 ∷ 0 ∷ [])) (barred 43)

abbrev pub high_record : Case
high_record = checking 2 routes (one (2 ∷ 3 ∷ 0 ∷ 2 ∷ 0 ∷ 3 ∷ 0 ∷ 1 ∷ 1 ∷ [])) (barred 43)

-- 44: the last two the wrong way round; a record twice; and no index beside a repeated id
abbrev pub falls : Case
falls = checking 2 routes (one (2 ∷ 3 ∷ 0 ∷ 2 ∷ 0 ∷ 1 ∷ 0 ∷ 3 ∷ 0 ∷ [])) (barred 44)

abbrev pub listed_twice : Case
listed_twice = checking 2 routes (one (2 ∷ 3 ∷ 0 ∷ 2 ∷ 0 ∷ 2 ∷ 0 ∷ 1 ∷ 0 ∷ [])) (barred 44)

abbrev pub repeated_read : Case
repeated_read = checking 2 again (one (2 ∷ 2 ∷ 0 ∷ 1 ∷ 0 ∷ 2 ∷ 0 ∷ [])) (barred 44)

-- ---- what comes before both

-- A file number outside 1 to 4 answers 42 at once, whatever file and index are.
abbrev pub file_five : Case
file_five = checking 5 "" [] (barred 42)

abbrev pub file_zero : Case
file_zero = writing 0 "" (sevens 3) (barred 42) (sevens 3)

-- The file's own refusal speaks before the index: 4 for an empty calendar.txt, 13 for a route_type.
abbrev pub empty_calendar : Case
empty_calendar = checking 3 "" [] (4 ∷ 3 ∷ 0 ∷ 0 ∷ 0 ∷ [])

abbrev pub bad_route : Case
bad_route =
    writing 2 "route_id,route_type\nA,3\nA,x\n" (sevens 3) (13 ∷ 2 ∷ 3 ∷ 2 ∷ 0 ∷ []) (sevens 3)

abbrev pub worked : List Case
worked =
    exact_room
    ∷ long_room
    ∷ short_room
    ∷ by_value
    ∷ above_ascii
    ∷ trips
    ∷ no_records
    ∷ repeated
    ∷ accepted
    ∷ nothing_listed
    ∷ seven_bytes
    ∷ wrong_mark
    ∷ version_zero
    ∷ version_three
    ∷ version257
    ∷ narrow_two
    ∷ wide_two
    ∷ eight_bytes
    ∷ nine_bytes
    ∷ ten_bytes
    ∷ wrong_file
    ∷ one_less
    ∷ high_count
    ∷ byte_more
    ∷ byte_less
    ∷ record_zero
    ∷ beyond_last
    ∷ high_record
    ∷ falls
    ∷ listed_twice
    ∷ repeated_read
    ∷ file_five
    ∷ file_zero
    ∷ empty_calendar
    ∷ bad_route
    ∷ []
