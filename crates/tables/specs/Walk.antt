-- What the walks along a file write into its table.
use Rattle.std.specs.Prelude.{ℕ, ◌+◌, ◌*◌, ◌-◌, ◌≤◌, ◌<◌, ◌≡◌, true, cond, List, [], ◌∷◌, ◌++◌, map, eqb, ℤ, pos, length, get_or, take, drop, replicate}
use Rattle.meaning.specs.declared.Bounds.{Bounds}
use Rattle.meaning.specs.Lists.{flat, laid}
use Rattle.meaning.specs.Bytes.{bounds, part, value, count_lf, Line, lines_of}
use Rattle.meaning.specs.Columns.{Row, field_at, places, header_of, row_of, rows_of}
use Rattle.meaning.specs.Forms.{date_of}
use Rattle.meaning.specs.Tables.{Feed, under, day, exception_date, refer, id_place, id_column, width_of}
use Rattle.rows.specs.Cells.{bounds_at}
use Rattle.ordering.specs.Ids.{Placed, Arranged}
use Rattle.seeking.specs.First.{Held}
use Rattle.records.specs.Refers.{Lists}
use Rattle.records.specs.Waiting.{waits, waiting_column, last_of, named_of, written_of}

-- where the field in a column of a line lies in the file
abbrev pub place_of : ℕ → Line → Bounds
place_of p x = bounds (x.start + (field_at x.text p).start) (x.start + (field_at x.text p).end)

-- record 0, and what g makes of each line after the header
unfoldable pub tabled : ℕ → (Line → List ℤ) → List ℕ → List (List ℤ)
tabled f g s = replicate (width_of f) (pos 0) ∷ map g (drop 1 (lines_of s))

-- the date of a line of file 6, which goes with its service
unfoldable pub date_key : ℕ → Row → ℤ
date_key f r = cond (eqb f 6) (day (date_of (exception_date r))) (pos 0)

-- The first walk: the place of a line's id, its date in file 6 and, since what a field names may stand on a later line or in a later file,
-- the place of the field that waits. Everything else is written when all ids are there.
unfoldable pub placing : ℕ → List ℕ → Line → List ℤ
placing f ps x =
    let p = place_of (get_or ps (waiting_column f) 0) x in
    take
    (width_of f)
    (id_place (get_or ps (id_column f) 0) x
    ++ (date_key f (row_of ps x.text) ∷ pos p.start ∷ pos p.end ∷ pos 0 ∷ pos 0 ∷ pos 0 ∷ []))

-- all that the first walk along a file writes
abbrev pub placed_of : ℕ → List ℕ → List (List ℤ)
placed_of f s = tabled f (placing f (places f (header_of (lines_of s)))) s

-- all that the second walk writes
abbrev pub written_all : ℕ → Feed → List ℕ → List (List ℤ)
written_all f w s = tabled f (written_of f w (places f (header_of (lines_of s)))) s

-- a file's table after the second walk
unfoldable pub written : ℕ → Feed → List ℕ → List ℤ → List ℤ
written f w s lent = laid (flat (written_all f w s)) lent

-- a table that is another from number m on
pub record Beyond (m : ℕ) (t u : List ℤ) : Type 0 where
  pub size : length u ≡ length t
  pub same : (j : ℕ) → m ≤ j → get_or u j (pos 0) ≡ get_or t j (pos 0)

-- the ids of a file
abbrev pub ids_of : ℕ → List ℕ → List (List ℕ)
ids_of f s = map (under (id_column f)) (rows_of f s)

-- a table u, lent as t, that holds the ids of file f and an order of its n records by them, and fields that wait where a record is wide enough
pub record Ordered (f : ℕ) (s : List ℕ) (n : ℕ) (t u : List ℤ) : Type 0 where
  pub count : n + 1 ≡ count_lf s
  pub held : Held s u (width_of f) (ids_of f s)
  pub arranged : Arranged s (width_of f) n u
  pub beyond : Beyond (count_lf s * width_of f) t u
  pub waiting :
      4 < width_of f
      → (r : ℕ)
      → 0 < r
      → r ≤ n
      → value (part s (bounds_at u (r * width_of f + 3))) ≡ under (waiting_column f) (get_or (rows_of f s) (r - 1) [])

-- the same for a file that may be not supplied: it has then no record, and its table is as lent
pub record OrderedIf (f : ℕ) (s : List ℕ) (n : ℕ) (t u : List ℤ) : Type 0 where
  pub supplied : 0 < length s → Ordered f s n t u
  pub lacking : length s ≡ 0 → (n ≡ 0) × (u ≡ t)

-- a table of n records in the order of their ids, of a file that may be not supplied
abbrev pub IndexedIf : List ℕ → List ℤ → ℕ → ℕ → Type 0
IndexedIf s t w n = 0 < length s → Placed s t w n × Arranged s w n t

-- .. holds these ids
abbrev pub ListsIf : List ℕ → List ℤ → ℕ → ℕ → List (List ℕ) → Type 0
ListsIf s t w n ids = (0 < length s → Lists s t w n ids) × (length s ≡ 0 → ids ≡ [])

-- the last number of each record of u below r, of width w, is the record among ids that the field waiting in t names
unfoldable pub Named : ℕ → List ℕ → ℕ → List (List ℕ) → List ℤ → List ℤ → Type 0
Named w s r ids t u =
    (k : ℕ)
    → 0 < k
    → k < r
    → get_or u (k * w + (w - 1)) (pos 0) ≡ pos (refer (value (part s (bounds_at t (k * w + 3)))) ids)

-- what a field of file f that waits names is settled in each record
unfoldable pub Settled : ℕ → Feed → List ℕ → List ℤ → Type 0
Settled f w s t =
    waits f ≡ true
    → (r : ℕ) → 0 < r → r < count_lf s → get_or t (last_of f r) (pos 0) ≡ pos (named_of f w (get_or (rows_of f s) (r - 1) []))
