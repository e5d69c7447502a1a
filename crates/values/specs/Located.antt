-- A line whose fields are located: where each known column's field lies, and its value.
use Rattle.std.specs.Prelude.{ℕ, ◌≤◌, ◌≡◌, List, get_or}
use Rattle.meaning.specs.declared.Bounds.{Bounds}
use Rattle.meaning.specs.Bytes.{bounds, part, value}
use Rattle.meaning.specs.Columns.{field_at}

-- where the field under known column k lies
abbrev pub field_in : List Bounds → ℕ → Bounds
field_in cells k = get_or cells k (bounds 0 0)

-- the value under known column k
abbrev pub value_in : List ℕ → List Bounds → ℕ → List ℕ
value_in l cells k = value (part l (field_in cells k))

-- the fields lie inside a line of n bytes
abbrev pub Within : ℕ → List Bounds → Type 0
Within n cells = (k : ℕ) → ((field_in cells k).start ≤ (field_in cells k).end) × ((field_in cells k).end ≤ n)

-- they are those in the columns ps of a line
abbrev pub Located : List ℕ → List ℕ → List Bounds → Type 0
Located l ps cells = (k : ℕ) → field_in cells k ≡ field_at l (get_or ps k 0)
