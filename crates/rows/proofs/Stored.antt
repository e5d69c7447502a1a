-- What is stored of a date, of a number and of a time says all that rules ask of it.
use Rattle.std.specs.Prelude.{Option, Some, None, ℕ}
use mathlib.Core.Path.{◌≡◌, refl}
use Rattle.num.specs.Signs.{nat_of}
use Rattle.meaning.specs.declared.Time.{Time}
use Rattle.meaning.specs.declared.Time.TheVariants.{Seconds, Untimed, NoTime}
use Rattle.meaning.specs.Tables.{day, number, seconds}
use Rattle.meaning.specs.Rules.{day_of, value_of, given, seconds_of}
use Rattle.rows.specs.Cells.{time_in}

pub day_stored : (d : Option ℕ) → nat_of (day d) ≡ day_of d
day_stored (Some n) = refl
day_stored None = refl

pub number_stored : (n : Option ℕ) → nat_of (number n) ≡ value_of n
number_stored (Some n) = refl
number_stored None = refl

pub given_stored : (t : Time) → given (time_in (seconds t)) ≡ given t
given_stored (Seconds n) = refl
given_stored Untimed = refl
given_stored NoTime = refl

pub seconds_stored : (t : Time) → seconds_of (time_in (seconds t)) ≡ seconds_of t
seconds_stored (Seconds n) = refl
seconds_stored Untimed = refl
seconds_stored NoTime = refl
