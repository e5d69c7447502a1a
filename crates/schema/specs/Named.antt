-- Which known column a value names.
use Rattle.std.specs.Prelude.{ℕ, ◌+◌, List, Option, Some, None}
use Rattle.meaning.specs.Lists.{same, place}
use Rattle.meaning.specs.Columns.{schema}

-- the known column of file f that a value names, counted from 1; 0 where it names none
unfoldable pub named_by : ℕ → List ℕ → ℕ
named_by f v = place (λ x. same v x.name) 1 (schema f)

-- a known column counted from 1; 0: none
abbrev pub counted : Option ℕ → ℕ
counted None = 0
counted (Some k) = k + 1
