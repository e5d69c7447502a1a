-- A table as the check has filled it.
use Rattle.std.specs.Prelude.{ℕ, ◌*◌, ◌≤◌, ◌≡◌, List, ℤ, length}
use Rattle.meaning.specs.Bytes.{count_lf}
use Rattle.meaning.specs.Columns.{Row, rows_of}
use Rattle.meaning.specs.Tables.{Feed, width_of, filled}

-- t is the table of file f, whose bytes are s and whose rows these are, for a feed
pub record Filled (f : ℕ) (w : Feed) (rows : List Row) (s : List ℕ) (t : List ℤ) : Type 0 where
  pub lent : List ℤ
  pub is : t ≡ filled f w s lent
  pub roomy : width_of f * count_lf s ≤ length lent
  pub read : rows ≡ rows_of f s
