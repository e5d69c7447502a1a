-- Value forms.
use Rattle.std.specs.Prelude.{ℕ, ◌+◌, ◌*◌, ◌-◌, ◌/◌, ◌%◌, ◌^◌, List, [], ◌∷◌, ◌++◌, Bool, true, false, cond, not, ◌&&◌, ◌||◌, ℤ, pos, neg_ℤ, length, get_or, take, drop, leb, ltb, eqb, Option, Some, None, is_some}
use Rattle.meaning.specs.declared.Time.{Time}
use Rattle.meaning.specs.declared.Time.TheVariants.{Seconds, Untimed, NoTime}
use Rattle.meaning.specs.declared.Form.{Form}
use Rattle.meaning.specs.declared.Form.TheVariants as F
use Rattle.meaning.specs.Lists.{ascii, same}

-- a value has no quotation mark in it
unfoldable pub no_mark : List ℕ → Bool
no_mark [] = true
no_mark (b ∷ r) = let k = no_mark r in cond (eqb b 34) false k

-- No form has a mark in it, so each form reads a value's text the same with quotes and without.
unfoldable pub formed : {A : Type 0} → A → (List ℕ → A) → List ℕ → A
formed none read v = cond (no_mark v) (read v) none

-- Digits are the bytes 0x30 to 0x39.
unfoldable pub is_digit : ℕ → Bool
is_digit b = leb 48 b && leb b 57

-- the number that digits write, after digits that wrote n
unfoldable pub digits : ℕ → List ℕ → Option ℕ
digits n [] = Some n
digits n (b ∷ r) = let k = digits (n * 10 + (b - 48)) r in cond (is_digit b) k None

-- stop_sequence: one to nine digits; leading zeros are allowed
unfoldable pub sequence_text : List ℕ → Option ℕ
sequence_text v = cond (ltb (length v) 1) None (cond (ltb 9 (length v)) None (digits 0 v))

unfoldable pub sequence_of : List ℕ → Option ℕ
sequence_of v = formed None sequence_text v

abbrev pub with_number : {A : Type 0} → A → Option ℕ → (ℕ → A) → A
with_number none (Some n) f = f n
with_number none None f = none

-- hours, minutes and seconds between colons; both of the latter 00 to 59
unfoldable pub clock_of : Bool → Option ℕ → Option ℕ → Option ℕ → Time
clock_of colons h m x =
    cond colons
    (with_number NoTime h
    (λ a. with_number NoTime m
    (λ b. with_number NoTime x
    (λ e. cond (ltb b 60) (cond (ltb e 60) (Seconds (a * 3600 + b * 60 + e)) NoTime) NoTime))))
    NoTime

-- k hour digits, then :MM:SS
unfoldable pub clock : ℕ → List ℕ → Time
clock k v =
    clock_of (eqb (get_or v k 0) 58 && eqb (get_or v (k + 3) 0) 58)
    (sequence_text (take k v))
    (sequence_text (take 2 (drop (k + 1) v)))
    (sequence_text (take 2 (drop (k + 4) v)))

-- Time: one or two hour digits, then :MM:SS; empty says no time
unfoldable pub time_text : List ℕ → Time
time_text v =
    cond (eqb (length v) 0) Untimed
    (cond (eqb (length v) 7) (clock 1 v)
    (cond (eqb (length v) 8) (clock 2 v) NoTime))

unfoldable pub time_of : List ℕ → Time
time_of v = formed NoTime time_text v

unfoldable pub leap : ℕ → Bool
leap y = eqb (y % 4) 0 && (not (eqb (y % 100) 0) || eqb (y % 400) 0)

unfoldable pub month_days : List ℕ
month_days = 0 ∷ 31 ∷ 28 ∷ 31 ∷ 30 ∷ 31 ∷ 30 ∷ 31 ∷ 31 ∷ 30 ∷ 31 ∷ 30 ∷ 31 ∷ []

unfoldable pub days_in : ℕ → ℕ → ℕ
days_in y m = cond (eqb m 2 && leap y) 29 (get_or month_days m 0)

-- a true Gregorian date: a year from 1, a month from 1 to 12, a day from 1 to the month's last
unfoldable pub is_day : ℕ → Bool
is_day n =
    leb 1 (n / 10000)
    && (leb 1 (n / 100 % 100)
    && (leb (n / 100 % 100) 12
    && (leb 1 (n % 100)
    && leb (n % 100) (days_in (n / 10000) (n / 100 % 100)))))

-- Date: eight digits, a true Gregorian date
unfoldable pub date_text : List ℕ → Option ℕ
date_text v =
    cond (eqb (length v) 8)
    (with_number None (sequence_text v) (λ n. cond (is_day n) (Some n) None))
    None

unfoldable pub date_of : List ℕ → Option ℕ
date_of v = formed None date_text v

-- how many bytes stand before the first point
unfoldable pub to_point : List ℕ → ℕ
to_point [] = 0
to_point (b ∷ r) = let k = to_point r + 1 in cond (eqb b 46) 0 k

-- one to three digits, optionally a point and 1 to 20 digits: the digits' counts
unfoldable pub pointed : List ℕ → Bool
pointed v =
    leb 1 (to_point v)
    && (leb (to_point v) 3
    && (leb (length v) (to_point v)
    || (leb (to_point v + 2) (length v) && leb (length v) (to_point v + 21))))

-- the digits before the point and after it
unfoldable pub whole_digits : List ℕ → List ℕ
whole_digits v = take (to_point v) v

unfoldable pub tail_digits : List ℕ → List ℕ
tail_digits v = drop (to_point v + 1) v

unfoldable pub signed : Bool → ℕ → ℤ
signed below n = cond below (neg_ℤ (pos n)) (pos n)

-- The exact value, n / 10 ^ d, must lie within the limit; further digits than seven are dropped toward zero.
unfoldable pub scaled : ℕ → Bool → ℕ → ℕ → Option ℤ
scaled limit below n d =
    cond (leb n (limit * 10 ^ d)) (Some (signed below (n * 10000000 / 10 ^ d))) None

unfoldable pub size_text : ℕ → Bool → List ℕ → Option ℤ
size_text limit below v =
    cond (pointed v)
    (with_number None (digits 0 (whole_digits v ++ tail_digits v)) (λ n. scaled limit below n (length (tail_digits v))))
    None

-- Coordinate: optional `-`, then its size
unfoldable pub degrees_text : ℕ → List ℕ → Option ℤ
degrees_text limit v =
    cond (eqb (get_or v 0 0) 45) (size_text limit true (drop 1 v)) (size_text limit false v)

unfoldable pub latitude_of : List ℕ → Option ℤ
latitude_of v = formed None (degrees_text 90) v

unfoldable pub longitude_of : List ℕ → Option ℤ
longitude_of v = formed None (degrees_text 180) v

-- Choices, written exactly: one digit from a to m
unfoldable pub digit_text : ℕ → ℕ → List ℕ → Option ℕ
digit_text a m v =
    cond (eqb (length v) 1 && (leb (48 + a) (get_or v 0 0) && leb (get_or v 0 0) (48 + m)))
    (Some (get_or v 0 0 - 48))
    None

unfoldable pub choice_of : ℕ → List ℕ → Option ℕ
choice_of m v = formed None (digit_text 0 m) v

-- route_type 0 to 7, 11, 12
unfoldable pub route_type_text : List ℕ → Option ℕ
route_type_text v = cond (same v (ascii "11")) (Some 11) (cond (same v (ascii "12")) (Some 12) (digit_text 0 7 v))

unfoldable pub route_type_of : List ℕ → Option ℕ
route_type_of v = formed None route_type_text v

-- exception_type 1, 2
unfoldable pub exception_of : List ℕ → Option ℕ
exception_of v = formed None (digit_text 1 2) v

-- is there a time; of the others std says it by `is_some`
abbrev pub is_time : Time → Bool
is_time (Seconds n) = true
is_time Untimed = true
is_time NoTime = false

-- is a value of a form
unfoldable pub shape : Form → List ℕ → Bool
shape F.Text v = true
shape F.Time v = is_time (time_of v)
shape F.Date v = is_some (date_of v)
shape F.Latitude v = is_some (latitude_of v)
shape F.Longitude v = is_some (longitude_of v)
shape F.Sequence v = is_some (sequence_of v)
shape (F.Choice m) v = is_some (choice_of m v)
shape F.RouteType v = is_some (route_type_of v)
shape F.ExceptionType v = is_some (exception_of v)
