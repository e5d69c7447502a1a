-- What the numbers of value forms keep to.
use Rattle.std.specs.Prelude.{ℕ, ◌*◌, ◌≤◌, ◌<◌, ◌≡◌, ℤ, nat_abs, Option, Some}
use Rattle.meaning.specs.declared.Time.{Time}
use Rattle.meaning.specs.declared.Time.TheVariants.{Seconds}

abbrev pub TimeFits : Time → Type 0
TimeFits r = (n : ℕ) → r ≡ Seconds n → n < 360000

abbrev pub DateFits : Option ℕ → Type 0
DateFits r = (n : ℕ) → r ≡ Some n → n < 100000000

abbrev pub DegreesFits : ℕ → Option ℤ → Type 0
DegreesFits limit r = (z : ℤ) → r ≡ Some z → nat_abs z ≤ limit * 10000000

abbrev pub NumberFits : Option ℕ → Type 0
NumberFits r = (n : ℕ) → r ≡ Some n → n < 1000000000

abbrev pub ChoiceFits : ℕ → Option ℕ → Type 0
ChoiceFits m r = (n : ℕ) → r ≡ Some n → n ≤ m
