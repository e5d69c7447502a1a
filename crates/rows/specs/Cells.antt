-- A table with a record written into it, and what its numbers say.
use Rattle.std.specs.Prelude.{ℕ, ◌+◌, List, ◌++◌, ℤ, pos, negsuc, length, get_or, take, drop}
use Rattle.num.specs.Signs.{nat_of}
use Rattle.meaning.specs.declared.Bounds.{Bounds}
use Rattle.meaning.specs.declared.Time.{Time}
use Rattle.meaning.specs.declared.Time.TheVariants.{Seconds, Untimed}
use Rattle.meaning.specs.Bytes.{bounds}

-- a table with the numbers from a place on replaced
unfoldable pub put_at : List ℤ → ℕ → List ℤ → List ℤ
put_at xs at vs = take at xs ++ vs ++ drop (at + length vs) xs

-- the number at a place, 0 outside the table, as an unsigned one
abbrev pub nat_at : List ℤ → ℕ → ℕ
nat_at t at = nat_of (get_or t at (pos 0))

-- the start and end that are stored from a place on
abbrev pub bounds_at : List ℤ → ℕ → Bounds
bounds_at t at = bounds (nat_at t at) (nat_at t (at + 1))

-- the time that a stored number says: -1 is none
abbrev pub time_in : ℤ → Time
time_in (pos n) = Seconds n
time_in (negsuc n) = Untimed

-- the time at a place
abbrev pub time_at : List ℤ → ℕ → Time
time_at t at = time_in (get_or t at (pos 0))
