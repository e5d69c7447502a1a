-- A file whose table has room for its records.
use Rattle.std.specs.Prelude.{ℕ, ◌*◌, ◌≤◌, ◌<◌, List, ℤ, length}
use Rattle.meaning.specs.Bytes.{count_lf}
use Rattle.meaning.specs.Tables.{file_of, width_of}
use Rattle.meaning.specs.Refusals.{max_bytes, max_lines}

-- a file that has a line, no longer than allowed, and a table with room for its records
pub record Room (f : ℕ) (s : List ℕ) (t : List ℤ) : Type 0 where
  pub lines : 1 ≤ count_lf s
  pub few : count_lf s ≤ max_lines
  pub size : length s ≤ max_bytes
  pub room : width_of f * count_lf s ≤ length t

-- marks with an entry for each line of a file
abbrev pub Covers : List ℕ → List ℕ → Type 0
Covers m s = count_lf s ≤ length m

-- and for each line of each of six files
abbrev pub CoversAll : List ℕ → List (List ℕ) → Type 0
CoversAll m files = (f : ℕ) → 1 ≤ f → f ≤ 6 → Covers m (file_of files f)

-- the same for a file that may be not supplied: it has a line where it is
pub record Fits (f : ℕ) (s : List ℕ) (t : List ℤ) : Type 0 where
  pub lines : 0 < length s → 1 ≤ count_lf s
  pub few : count_lf s ≤ max_lines
  pub size : length s ≤ max_bytes
  pub room : width_of f * count_lf s ≤ length t
