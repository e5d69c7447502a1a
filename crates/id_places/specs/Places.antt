-- Where the ids of a file's records begin.
use Rattle.std.specs.Prelude.{ℕ, ◌+◌, ◌<◌, ◌≤◌, ◌≡◌, List, ℤ, get_or}
use Rattle.meaning.specs.Bytes.{Line, lines_of, count_lf}
use Rattle.meaning.specs.Columns.{places, field_at, header_of}
use Rattle.meaning.specs.Tables.{id_column}
use Rattle.meaning.specs.Promises.{no_line}
use Rattle.ordering.specs.Cells.{cell_at}

-- where the field in column p of a line begins, counted from the file's first byte
unfoldable pub start_in : ℕ → Line → ℕ
start_in p l = l.start + (field_at l.text p).start

-- the column of a file's own id
unfoldable pub own_column : ℕ → List ℕ → ℕ
own_column f s = get_or (places f (header_of (lines_of s))) (id_column f) 0

-- where the id of record r begins
unfoldable pub id_start : ℕ → List ℕ → ℕ → ℕ
id_start f s r = start_in (own_column f s) (get_or (lines_of s) r no_line)

-- a table of one number a record holds where the id of each of the n records begins
pub record Ids (f : ℕ) (s : List ℕ) (n : ℕ) (t : List ℤ) : Type 0 where
  pub count : n + 1 ≡ count_lf s
  pub starts : (r : ℕ) → 0 < r → r ≤ n → cell_at 0 t 1 r ≡ id_start f s r
