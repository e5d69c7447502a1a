-- Columns.
use Rattle.std.specs.Prelude.{ℕ, ◌-◌, List, [], ◌∷◌, map, true, false, cond, length, get_or, drop, eqb}
use Prim.Native.String.{String}
use Rattle.meaning.specs.declared.Bounds.{Bounds}
use Rattle.meaning.specs.declared.Need.{Need}
use Rattle.meaning.specs.declared.Need.TheVariants.{Never, AllButInner, AllButPlaceless, Always}
use Rattle.meaning.specs.declared.Form.{Form}
use Rattle.meaning.specs.declared.Form.TheVariants.{Text, Time, Date, Latitude, Longitude, Sequence, Choice, RouteType, ExceptionType}
use Rattle.meaning.specs.declared.Column.{Column}
use Rattle.meaning.specs.Lists.{ascii, find}
use Rattle.meaning.specs.Bytes.{bounds, part, Line, lines_of, fields, value, values}

-- a known column: its name, and what it asks
pub record Known : Type 0 where
  pub name : List ℕ
  pub column : Column

-- needs in order: the later, the more lines
abbrev pub rank : Need → ℕ
rank Never = 0
rank AllButInner = 1
rank AllButPlaceless = 2
rank Always = 3

-- must be present, with a non-empty value on these lines
abbrev pub needed_on : Need → String → Form → Known
needed_on n s k = record { name = ascii s; column = record { must = true; need = n; ident = false; form = k } }

-- must be present, with a non-empty value
abbrev pub needed : String → Form → Known
needed s k = needed_on Always s k

-- must be present, and its value may be empty
abbrev pub present : String → Form → Known
present s k = needed_on Never s k

-- known, may be absent
abbrev pub optional : String → Form → Known
optional s k = record { name = ascii s; column = record { must = false; need = Never; ident = false; form = k } }

-- the same for columns named `..._id`, and parent_station, whose length rule 11 bounds
abbrev pub needed_id : String → Known
needed_id s = record { name = ascii s; column = record { must = true; need = Always; ident = true; form = Text } }

abbrev pub optional_id : String → Form → Known
optional_id s k = record { name = ascii s; column = record { must = false; need = Never; ident = true; form = k } }

abbrev pub unknown : Known
unknown = record { name = []; column = record { must = false; need = Never; ident = false; form = Text } }

unfoldable pub stops_columns : List Known
stops_columns =
    needed_id "stop_id"
    ∷ needed_on AllButInner "stop_name" Text
    ∷ needed_on AllButPlaceless "stop_lat" Latitude
    ∷ needed_on AllButPlaceless "stop_lon" Longitude
    ∷ optional "location_type" (Choice 4)
    ∷ optional_id "parent_station" Text
    ∷ []

unfoldable pub routes_columns : List Known
routes_columns =
    needed_id "route_id"
    ∷ needed "route_type" RouteType
    ∷ optional "route_short_name" Text
    ∷ optional "route_long_name" Text
    ∷ []

unfoldable pub calendar_columns : List Known
calendar_columns =
    needed_id "service_id"
    ∷ needed "monday" (Choice 1)
    ∷ needed "tuesday" (Choice 1)
    ∷ needed "wednesday" (Choice 1)
    ∷ needed "thursday" (Choice 1)
    ∷ needed "friday" (Choice 1)
    ∷ needed "saturday" (Choice 1)
    ∷ needed "sunday" (Choice 1)
    ∷ needed "start_date" Date
    ∷ needed "end_date" Date
    ∷ []

unfoldable pub trips_columns : List Known
trips_columns =
    needed_id "route_id"
    ∷ needed_id "service_id"
    ∷ needed_id "trip_id"
    ∷ optional_id "direction_id" (Choice 1)
    ∷ optional "wheelchair_accessible" (Choice 2)
    ∷ optional "bikes_allowed" (Choice 2)
    ∷ []

unfoldable pub stop_times_columns : List Known
stop_times_columns =
    needed_id "trip_id"
    ∷ present "arrival_time" Time
    ∷ present "departure_time" Time
    ∷ needed_id "stop_id"
    ∷ needed "stop_sequence" Sequence
    ∷ optional "pickup_type" (Choice 3)
    ∷ optional "drop_off_type" (Choice 3)
    ∷ optional "timepoint" (Choice 1)
    ∷ []

unfoldable pub calendar_dates_columns : List Known
calendar_dates_columns =
    needed_id "service_id"
    ∷ needed "date" Date
    ∷ needed "exception_type" ExceptionType
    ∷ []

-- the known columns of each file, by its number
unfoldable pub schemas : List (List Known)
schemas =
    []
    ∷ stops_columns
    ∷ routes_columns
    ∷ calendar_columns
    ∷ trips_columns
    ∷ stop_times_columns
    ∷ calendar_dates_columns
    ∷ []

unfoldable pub schema : ℕ → List Known
schema f = get_or schemas f []

unfoldable pub known_at : ℕ → ℕ → Known
known_at f k = get_or (schema f) k unknown

unfoldable pub name_of : ℕ → ℕ → List ℕ
name_of f k = (known_at f k).name

unfoldable pub column_of : ℕ → ℕ → Column
column_of f k = (known_at f k).column

unfoldable pub count_of : ℕ → ℕ
count_of f = length (schema f)

-- the column of each known name among a header's values, counted from 1; 0 where it is absent
unfoldable pub places : ℕ → List (List ℕ) → List ℕ
places f header = map (λ k. find k.name 1 header) (schema f)

-- the bounds of the field in a column; an absent column has none
unfoldable pub field_at : List ℕ → ℕ → Bounds
field_at l p = cond (eqb p 0) (bounds 0 0) (get_or (fields l) (p - 1) (bounds 0 0))

-- the value in a column; an absent column reads as empty
unfoldable pub cell : List ℕ → ℕ → List ℕ
cell l p = value (part l (field_at l p))

-- what a line says: its value under each known column, in the schema's order
abbrev pub Row : Type 0
Row = List (List ℕ)

unfoldable pub row_of : List ℕ → List ℕ → Row
row_of ps l = map (cell l) ps

-- the header's values
unfoldable pub header_of : List Line → List (List ℕ)
header_of [] = []
header_of (h ∷ r) = values h.text

-- the lines after the header, each with its row: record 1, record 2, ..
unfoldable pub rows_of : ℕ → List ℕ → List Row
rows_of f s =
    let ls = lines_of s in
    let ps = places f (header_of ls) in
    map (λ l. row_of ps l.text) (drop 1 ls)
