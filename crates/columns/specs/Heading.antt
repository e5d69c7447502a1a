-- What a file's header tells a walk along its lines.
use Rattle.std.specs.Prelude.{ℕ, ◌≡◌, List, get_or, drop}
use Rattle.meaning.specs.Bytes.{lines_from, lines_of}
use Rattle.meaning.specs.Columns.{places, header_of}

-- the columns of its known names, and where the next line starts
pub record Heading (f : ℕ) (s known : List ℕ) (next : ℕ) : Type 0 where
  pub after : lines_from s next ≡ drop 1 (lines_of s)
  pub columns : (k : ℕ) → get_or known k 0 ≡ get_or (places f (header_of (lines_of s))) k 0
