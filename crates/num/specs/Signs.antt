-- A stored number as an unsigned one.
use Rattle.std.specs.Prelude.{ℕ, ℤ, pos, negsuc}

-- a negative number counts as one past every file and every record
abbrev pub nat_of : ℤ → ℕ
nat_of (pos n) = n
nat_of (negsuc n) = 4294967295
