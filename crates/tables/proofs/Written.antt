-- What each walk writes for a line: as wide as the record, the place of its id first.
use mathlib.Core.Path.{◌≡◌, refl}
use mathlib.Core.List.{List, [], ◌∷◌, ◌++◌}
use Prim.Native.Nat.{ℕ, ◌+◌, ◌≤◌, ◌<◌}
use native.Mathlib.Omega.{arith}
use lib.IntN.{ℤ, pos}
use lib.ListN.{length, get_or, take, replicate}
use lib.Seq.{get_or-take, length-take-le}
use Rattle.meaning.specs.declared.Bounds.{Bounds}
use Rattle.meaning.specs.Bytes.{Line, count_lf, lines_of}
use Rattle.meaning.specs.Columns.{places, header_of, row_of}
use Rattle.meaning.specs.Tables.{Feed, width_of, id_place, id_column, record_of, zeroth, records_of, filled}
use Rattle.text.proofs.Lines.{lines_all}
use Rattle.values.specs.Located.{field_in, Located}
use Rattle.records.specs.Line.{line}
use Rattle.records.specs.Waiting.{waiting_column}
use Rattle.records.proofs.LineRecords.{id_in}
use Rattle.records.proofs.Waiting.{written_record}
use Rattle.tables.specs.Walk.{place_of, tabled, date_key, placing, written}

-- the first two numbers are the place of the line's id
abbrev pub IdFirst : ℕ → List ℕ → (Line → List ℤ) → Type 0
IdFirst f ps g =
    (x : Line)
    → (get_or (g x) 0 (pos 0) ≡ pos (place_of (get_or ps (id_column f) 0) x).start)
    × (get_or (g x) 1 (pos 0) ≡ pos (place_of (get_or ps (id_column f) 0) x).end)

-- what the first walk writes for a line, of any width
module _ (f : ℕ) (ps : List ℕ) (x : Line) where
  abbrev eight : List ℤ
  eight =
      let p = place_of (get_or ps (waiting_column f) 0) x in
      id_place (get_or ps (id_column f) 0) x
      ++ (date_key f (row_of ps x.text) ∷ pos p.start ∷ pos p.end ∷ pos 0 ∷ pos 0 ∷ pos 0 ∷ [])

  pub placing_wide : width_of f ≤ 8 → length (placing f ps x) ≡ width_of f
  unfolding placing id_place
  placing_wide h = length-take-le (width_of f) eight h

  placing_at : (j : ℕ) → j < width_of f → get_or (placing f ps x) j (pos 0) ≡ get_or eight j (pos 0)
  unfolding placing
  placing_at j h = get_or-take (width_of f) eight j (pos 0) h

  pub placing_key : 2 < width_of f → get_or (placing f ps x) 2 (pos 0) ≡ date_key f (row_of ps x.text)
  unfolding id_place
  placing_key h = placing_at 2 h

  pub placing_start : 3 < width_of f → get_or (placing f ps x) 3 (pos 0) ≡ pos (place_of (get_or ps (waiting_column f) 0) x).start
  unfolding id_place
  placing_start h = placing_at 3 h

  pub placing_end : 4 < width_of f → get_or (placing f ps x) 4 (pos 0) ≡ pos (place_of (get_or ps (waiting_column f) 0) x).end
  unfolding id_place
  placing_end h = placing_at 4 h

pub placing_id : (f : ℕ) → 1 < width_of f → (ps : List ℕ) → IdFirst f ps (placing f ps)
unfolding id_place
placing_id f h ps x = (placing_at f ps x 0 (omega arith), placing_at f ps x 1 h)

-- .. from located fields
pub places_record :
    (ps l : List ℕ) (at : ℕ) (cells : List Bounds)
    → Located l ps cells
    → (f a e key from to : ℕ)
    → a ≡ at + (field_in cells (id_column f)).start
    → e ≡ at + (field_in cells (id_column f)).end
    → pos key ≡ date_key f (row_of ps l)
    → from ≡ at + (field_in cells (waiting_column f)).start
    → to ≡ at + (field_in cells (waiting_column f)).end
    → take (width_of f) (pos a ∷ pos e ∷ pos key ∷ pos from ∷ pos to ∷ pos 0 ∷ pos 0 ∷ pos 0 ∷ []) ≡ placing f ps (line at l)
unfolding placing
places_record ps l at cells loc f a e key from to p q k g h =
    rw (id_in ps l at cells loc (id_column f) a e p q, ← loc (waiting_column f), g, h, k)

-- a file that has a line has record 0 and a record for each line after the header
pub records_are :
    (f : ℕ) (w : Feed) (s : List ℕ)
    → 1 ≤ count_lf s
    → records_of f w s ≡ tabled f (record_of f w (places f (header_of (lines_of s)))) s
unfolding records_of tabled
records_are f w s some = go (lines_of s) (omega (arith, lines_all s)) _
  where
    go : (ls : List Line) → 1 ≤ length ls → (r : List (List ℤ)) → zeroth f ls ++ r ≡ replicate (width_of f) (pos 0) ∷ r
    go [] h r = absurd (omega arith)
    go (l ∷ ls) h r = refl

-- but for stop_times the second walk fills the table
pub written_filled :
    (f : ℕ) → (f ≡ 5 → ⊥) → (w : Feed) (s : List ℕ) → 1 ≤ count_lf s → (lent : List ℤ) → written f w s lent ≡ filled f w s lent
unfolding written filled
written_filled f h w s some lent = rw (written_record f h w (places f (header_of (lines_of s))), records_are f w s some)
