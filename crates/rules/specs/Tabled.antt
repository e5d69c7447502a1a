-- The filled tables of files, how many lines each file has, and their marks.
use Rattle.std.specs.Prelude.{ℕ, ◌-◌, ◌≤◌, ◌≡◌, List, [], map, ℤ, get_or}
use Rattle.meaning.specs.Bytes.{count_lf}
use Rattle.meaning.specs.Tables.{Feed, file_of, rows_in}
use Rattle.marks.specs.Noted.{Noted, TripsNoted}
use Rattle.held.specs.Held.{Filled}
use Rattle.file_rules.specs.Lines.{Named}

-- the table of file f
unfoldable pub table_of : List (List ℤ) → ℕ → List ℤ
table_of tables f = get_or tables (f - 1) []

-- the tables of a feed are filled from files of so many LF bytes each and its marks set, and no id and no reference of a trip or of a line of stop_times is empty
pub record Tabled (w : Feed) (counts : List ℕ) (tables : List (List ℤ)) (marks : List ℕ) : Type 0 where
  pub files : List (List ℕ)
  pub counted : counts ≡ map count_lf files
  pub filled : (f : ℕ) → 1 ≤ f → f ≤ 6 → Filled f w (rows_in w f) (file_of files f) (table_of tables f)
  pub noted : Noted w marks
  pub trips_noted : TripsNoted w marks
  pub named : Named w
