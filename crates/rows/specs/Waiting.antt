-- A record of stop_times that waits for the order of its trip's lines, and its last form.
use Rattle.std.specs.Prelude.{ℕ, zero, suc, ◌+◌, ◌*◌, ◌/◌, ◌%◌, List, [], ◌∷◌, ℤ, pos, negsuc, get_or}
use Rattle.rows.specs.Cells.{nat_at}

-- the timepoint that a mark stands for: 0 is an empty one
unfoldable pub unmark : ℕ → ℤ
unmark zero = negsuc 0
unmark (suc n) = pos n

-- a stop's record, pickup, drop-off and the mark of a timepoint in one number
unfoldable pub packed : ℕ → ℕ → ℕ → ℕ → ℕ
packed stop pickup drop_off mark = ((stop * 4 + pickup) * 4 + drop_off) * 4 + mark

-- the last form of the record that waits from a place on
unfoldable pub settled_at : List ℤ → ℕ → List ℤ
settled_at t at =
    let n = nat_at t (at + 1) in
    get_or t at (pos 0)
    ∷ pos (n / 64)
    ∷ get_or t (at + 2) (pos 0)
    ∷ get_or t (at + 3) (pos 0)
    ∷ get_or t (at + 4) (pos 0)
    ∷ pos (n / 16 % 4)
    ∷ pos (n / 4 % 4)
    ∷ unmark (n % 4)
    ∷ []
