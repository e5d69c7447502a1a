-- Digits behind a point.
use Rattle.std.specs.Prelude.{ℕ, ◌*◌, ◌/◌, ◌^◌, List, not, length, eqb, Option, Some, None, Bool}
use Rattle.meaning.specs.Forms.{digits, with_number}

-- the ten-millionths that digits behind a point write, further digits dropped, and whether one of them isn't 0
unfoldable pub decimals_of : List ℕ → Option (ℕ × Bool)
decimals_of v = with_number None (digits 0 v) (λ t. Some (t * 10000000 / 10 ^ length v, not (eqb t 0)))
