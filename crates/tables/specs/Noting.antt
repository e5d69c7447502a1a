-- What the first walk marks of a line.
use Rattle.std.specs.Prelude.{ℕ, ◌+◌, ◌≤◌, ◌<◌, ◌≡◌, List, [], Bool, true, false, not, cond, ◌&&◌, ◌||◌, length, get_or, eqb}
use Rattle.meaning.specs.Lists.{empty, some}
use Rattle.meaning.specs.Bytes.{count_lf}
use Rattle.meaning.specs.Columns.{Row, rows_of}
use Rattle.meaning.specs.Tables.{parent_station, route_short_name, route_long_name}
use Rattle.meaning.specs.Rules.{row, rule20, same_service_and_date}
use Rattle.marks.specs.Marks.{marked}
use Rattle.tables.specs.Walk.{ids_of}

-- does the line with index i repeat an earlier one: its id does, in file 6 its service and date
unfoldable pub repeated : ℕ → List ℕ → ℕ → Bool
repeated f s i =
    cond
    (eqb f 6)
    (some (λ j. same_service_and_date (row (rows_of 6 s) j) (row (rows_of 6 s) i)) 0 i)
    (rule20 (ids_of f s) i)

-- a stop has a parent, a route no name
unfoldable pub noted : ℕ → Row → Bool
noted f r =
    cond (eqb f 1) (not (empty (parent_station r)))
    (cond (eqb f 2) (empty (route_short_name r) && empty (route_long_name r)) false)

-- the mark of file f for it
abbrev pub note_mark : ℕ → ℕ
note_mark f = f + 6

-- mark k is set for each record from 1 to below r of which b says so, and nothing else changes
pub record Telling (b : ℕ → Bool) (k r : ℕ) (m m' : List ℕ) : Type 0 where
  pub size : length m' ≡ length m
  pub told : (i : ℕ) → 0 < i → i < r → i < length m → marked m' k i ≡ b i || marked m k i
  pub other : (c i : ℕ) → (c ≡ k → 0 < i → i < r → b i ≡ true → ⊥) → marked m' c i ≡ marked m c i

-- marks in which those of file f are set: the line repeats an earlier one, and what is noted of the text, which is nothing but for stops and routes
pub record Marking (f : ℕ) (s m m' : List ℕ) : Type 0 where
  pub size : length m' ≡ length m
  pub repeats :
      ((i : ℕ) → marked m f i ≡ false) → count_lf s ≤ length m → (i : ℕ) → i + 1 < count_lf s → marked m' f (i + 1) ≡ repeated f s i
  pub notes :
      ((i : ℕ) → marked m (note_mark f) i ≡ false)
      → count_lf s ≤ length m → (i : ℕ) → i + 1 < count_lf s → marked m' (note_mark f) (i + 1) ≡ noted f (get_or (rows_of f s) i [])
  pub other : (c i : ℕ) → (c ≡ f → ⊥) → (c ≡ note_mark f → f ≤ 2 → ⊥) → marked m' c i ≡ marked m c i
