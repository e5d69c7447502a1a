-- How far a byte of a value reaches in its field.
use Rattle.std.specs.Prelude.{ℕ, Bool, cond, ◌&&◌, eqb}

-- a mark in quotes stands twice
unfoldable pub width_of : Bool → ℕ → ℕ
width_of q b = cond (q && eqb b 34) 2 1
