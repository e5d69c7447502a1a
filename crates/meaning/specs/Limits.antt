-- Each limit by its number, said once and with no name for it: of rules 1, 2 and 7, and of the forms of values, each of which says both ways what is read.
-- Rule 11's stands in ColumnTable (`short`).
use Rattle.std.specs.Prelude.{ℕ, ◌+◌, ◌*◌, ◌-◌, ◌/◌, ◌%◌, ◌^◌, ◌≤◌, ◌<◌, ◌≡◌, ◌↔◌, ◌⊎◌, true, cond, List, [], ◌∷◌, ◌++◌, map, ℤ, pos, neg_ℤ, length, Some}
use Rattle.meaning.specs.declared.Time.TheVariants.{Seconds, Untimed}
use Rattle.meaning.specs.Lists.{ascii}
use Rattle.meaning.specs.Bytes.{count_lf, fields}
use Rattle.meaning.specs.Forms.{time_of, leap, days_in, date_of, latitude_of, longitude_of, sequence_of, choice_of, route_type_of, exception_of}
use Rattle.meaning.specs.Refusals.{rule1, rule2, rule7}
use Rattle.meaning.specs.Promises.{Each}

-- from a to m bytes, all of them digits
pub record Digits (a m : ℕ) (v : List ℕ) : Type 0 where
  pub least : a ≤ length v
  pub most : length v ≤ m
  pub each : Each (λ b. (48 ≤ b) × (b ≤ 57)) v

-- the number that digits write
unfoldable pub numeral : List ℕ → ℕ
numeral [] = 0
numeral (b ∷ r) = (b - 48) * 10 ^ length r + numeral r

-- Time: one or two hour digits, then `:MM:SS`, both 00 to 59. Stored in seconds.
pub record Clock (v : List ℕ) (n : ℕ) : Type 0 where
  pub hours : List ℕ
  pub minutes : List ℕ
  pub seconds : List ℕ
  pub text : v ≡ hours ++ (58 ∷ (minutes ++ (58 ∷ seconds)))
  pub one_or_two : Digits 1 2 hours
  pub MM : Digits 2 2 minutes
  pub SS : Digits 2 2 seconds
  pub to_59 : (numeral minutes ≤ 59) × (numeral seconds ≤ 59)
  pub is : n ≡ numeral hours * 3600 + numeral minutes * 60 + numeral seconds

-- Date: eight digits, a true Gregorian date, year 0001 to 9999. Stored as the number YYYYMMDD.
pub record TrueDate (v : List ℕ) (n : ℕ) : Type 0 where
  pub eight : Digits 8 8 v
  pub is : n ≡ numeral v
  pub year : (1 ≤ n / 10000) × (n / 10000 ≤ 9999)
  pub month : (1 ≤ n / 100 % 100) × (n / 100 % 100 ≤ 12)
  pub day : (1 ≤ n % 100) × (n % 100 ≤ days_in (n / 10000) (n / 100 % 100))

-- one to three digits, optionally a point and 1 to 20 digits
pub data Written (v whole decimals : List ℕ) : Type 0 where
  bare : v ≡ whole → decimals ≡ [] → Digits 1 3 whole → Written v whole decimals
  pointed : v ≡ whole ++ (46 ∷ decimals) → Digits 1 3 whole → Digits 1 20 decimals → Written v whole decimals

-- The exact value must lie within a limit. Stored in ten-millionths of a degree, further digits dropped toward zero.
pub record Size (limit : ℕ) (v : List ℕ) (n : ℕ) : Type 0 where
  pub whole : List ℕ
  pub decimals : List ℕ
  pub text : Written v whole decimals
  pub within : numeral (whole ++ decimals) ≤ limit * 10 ^ length decimals
  pub is : n ≡ numeral (whole ++ decimals) * 10000000 / 10 ^ length decimals

-- Coordinate: optional `-`
pub data Coordinate (limit : ℕ) (v : List ℕ) (z : ℤ) : Type 0 where
  plain : (n : ℕ) → Size limit v n → z ≡ pos n → Coordinate limit v z
  minus : (n : ℕ) (size : List ℕ) → v ≡ 45 ∷ size → Size limit size n → z ≡ neg_ℤ (pos n) → Coordinate limit v z

-- a choice, written exactly: one digit from a to m
abbrev pub FromTo : ℕ → ℕ → List ℕ → ℕ → Type 0
FromTo a m v n = ((a ≤ n) × (n ≤ m)) × (v ≡ (48 + n) ∷ [])

pub record Limits : Type 0 where
  -- 1: file longer than 134,217,728 bytes
  pub bytes : (f : ℕ) (s : List ℕ) (room : ℕ) → rule1 f s room ≡ true ↔ 134217728 < length s
  -- 2: more than 1,048,576 LF bytes
  pub line_ends : (f : ℕ) (s : List ℕ) (room : ℕ) → rule2 f s room ≡ true ↔ 1048576 < count_lf s
  -- 7: more than 32 fields
  pub line_fields : (l : List ℕ) → rule7 l ≡ true ↔ 32 < length (fields l)
  -- Time; empty says none
  pub time : (v : List ℕ) (n : ℕ) → time_of v ≡ Seconds n ↔ Clock v n
  pub untimed : (v : List ℕ) → time_of v ≡ Untimed ↔ v ≡ []
  -- hours 0 to 99: stored in seconds, 0 to 359,999
  pub seconds : (v : List ℕ) (n : ℕ) → time_of v ≡ Seconds n → n ≤ 359999
  -- Date
  pub date : (v : List ℕ) (n : ℕ) → date_of v ≡ Some n ↔ TrueDate v n
  pub leap_years : (y : ℕ) → leap y ≡ true ↔ (y % 4 ≡ 0) × ((y % 100 ≡ 0 → ⊥) ⊎ (y % 400 ≡ 0))
  pub months :
      (y : ℕ)
      → map (days_in y) (1 ∷ 2 ∷ 3 ∷ 4 ∷ 5 ∷ 6 ∷ 7 ∷ 8 ∷ 9 ∷ 10 ∷ 11 ∷ 12 ∷ [])
      ≡ 31 ∷ cond (leap y) 29 28 ∷ 31 ∷ 30 ∷ 31 ∷ 30 ∷ 31 ∷ 31 ∷ 30 ∷ 31 ∷ 30 ∷ 31 ∷ []
  -- Coordinate, within 90 (latitude) or 180 (longitude) either way
  pub latitude : (v : List ℕ) (z : ℤ) → latitude_of v ≡ Some z ↔ Coordinate 90 v z
  pub longitude : (v : List ℕ) (z : ℤ) → longitude_of v ≡ Some z ↔ Coordinate 180 v z
  -- stop_sequence: one to nine digits; leading zeros are allowed
  pub sequence : (v : List ℕ) (n : ℕ) → sequence_of v ≡ Some n ↔ Digits 1 9 v × (n ≡ numeral v)
  -- Choices, from 0 to what ColumnTable says under each name
  pub choice : (m : ℕ) (v : List ℕ) (n : ℕ) → choice_of m v ≡ Some n ↔ FromTo 0 m v n
  -- route_type 0 to 7, 11, 12
  pub route_type_lem :
      (v : List ℕ) (n : ℕ)
      → route_type_of v ≡ Some n
      ↔ FromTo 0 7 v n ⊎ (((n ≡ 11) × (v ≡ ascii "11")) ⊎ ((n ≡ 12) × (v ≡ ascii "12")))
  -- exception_type 1, 2
  pub exception_type_lem : (v : List ℕ) (n : ℕ) → exception_of v ≡ Some n ↔ FromTo 1 2 v n
