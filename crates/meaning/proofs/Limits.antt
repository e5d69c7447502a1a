-- Each limit by its number: rules 1, 2 and 7, and which values each form reads.
use Prim.Native.Nat.{ℕ, ◌<◌}
use mathlib.Core.Path.{◌≡◌}
use mathlib.Core.Logic.{◌↔◌}
use mathlib.Core.Bool.{true}
use lib.Dec.{ltb}
use borrow.Author.Tests.{ltb-true, lt-ltb}
use Rattle.meaning.specs.Forms.{latitude_of, longitude_of, choice_of, exception_of}
use Rattle.meaning.specs.Refusals.{rule1, rule2, rule7}
use Rattle.meaning.specs.Limits.{Limits}
use Rattle.meaning.proofs.Forms.{sequence_exactly, digit_picked, route_exactly}
use Rattle.meaning.proofs.Times.{time_exactly, untimed_exactly, most_seconds, date_exactly, leap_exactly, months}
use Rattle.meaning.proofs.Coordinates.{degrees_exactly}

-- a limit that is passed
passed : (a b : ℕ) → ltb a b ≡ true ↔ a < b
passed a b = (ltb-true a b, lt-ltb a b)

pub limits : Limits
unfolding rule1 rule2 rule7 latitude_of longitude_of choice_of exception_of
limits = record {
  bytes = λ f s room. passed _ _;
  line_ends = λ f s room. passed _ _;
  line_fields = λ l. passed _ _;
  time = time_exactly;
  untimed = untimed_exactly;
  seconds = most_seconds;
  date = date_exactly;
  leap_years = leap_exactly;
  months = months;
  latitude = degrees_exactly 90;
  longitude = degrees_exactly 180;
  sequence = sequence_exactly;
  choice = digit_picked 0;
  route_type_lem = route_exactly;
  exception_type_lem = digit_picked 1 2;
}
