-- Services by date, document 02's E1, sentence by sentence, of a call that was lent these files and tables and ended with this outcome.
use Rattle.std.specs.Prelude.{ℕ, ◌+◌, ◌*◌, ◌-◌, ◌≤◌, ◌<◌, ◌≡◌, ◌↔◌, true, false, ℤ, pos, length, get_or}
use mathlib.Core.List.{List, [], map, Memᴰ}
use Rattle.meaning.specs.Lists.{same, empty}
use Rattle.meaning.specs.Bytes.{lines_of}
use Rattle.meaning.specs.Tables.{Feed, feed_of, file_of, refer, service_ids, dated_ids, exception_service, trip_service}
use Rattle.meaning.specs.Refusals.{claim, claims, rule4}
use Rattle.meaning.specs.Rules.{row, exception_day, rule20·dates, in_neither}
use Rattle.meaning.specs.Outcome.{Outcome}
use Rattle.meaning.specs.Held.{Names, line_count}
use Rattle.meaning.specs.Demands.{Reads}

-- an earlier line of file 6 has the service and the date of the line with index i
pub record Again (w : Feed) (i : ℕ) : Type 0 where
  pub line : ℕ
  pub earlier : line < i
  pub service : exception_service (row w.dates line) ≡ exception_service (row w.dates i)
  pub date : exception_day (row w.dates line) ≡ exception_day (row w.dates i)

-- no line has this id
abbrev pub NoLine : List ℕ → List (List ℕ) → Type 0
NoLine v ids = (j : ℕ) → j < length ids → same (get_or ids j []) v ≡ false

pub record ByDate (files : List (List ℕ)) (tables : List (List ℤ)) (o : Outcome) : Type 0 where
  -- an empty slice means "not supplied": it passes rule 4
  pub passes : (room : ℕ) → rule4 files 6 [] room ≡ false
  -- calendar.txt may be empty so only if file 6 isn't
  pub only_if : (room : ℕ) → rule4 files 3 [] room ≡ false ↔ empty (file_of files 6) ≡ false
  -- no other file may
  pub others : (f room : ℕ) → (f ≡ 3 → ⊥) → (f ≡ 6 → ⊥) → rule4 files f [] room ≡ true
  -- if both are empty, it is file 3 that breaks rule 4
  pub both : file_of files 3 ≡ [] → file_of files 6 ≡ [] → Memᴰ (claim 4 3 0 true) (claims files (map length tables))
  -- it isn't read on
  pub unread : (f : ℕ) → file_of files f ≡ [] → lines_of (file_of files f) ≡ []
  -- an empty file's table is left as lent
  pub left : (f : ℕ) → 1 ≤ f → f ≤ 6 → file_of files f ≡ [] → get_or o.tables (f - 1) [] ≡ get_or tables (f - 1) []
  -- and references into it are 0
  pub none_in_3 : file_of files 3 ≡ [] → (v : List ℕ) → refer v (service_ids (feed_of files)) ≡ 0
  pub none_in_6 : file_of files 6 ≡ [] → (v : List ℕ) → refer v (dated_ids (feed_of files)) ≡ 0
  -- rule 20 there means the same service and date
  pub twice : (i : ℕ) → rule20·dates (feed_of files) i ≡ true ↔ Again (feed_of files) i
  -- rule 21 for a trip's service means it stands in neither file
  pub neither :
      (v : List ℕ)
      → empty v ≡ false
      → in_neither (feed_of files) v ≡ true ↔ NoLine v (service_ids (feed_of files)) × NoLine v (dated_ids (feed_of files))
  -- the trip record gains an eighth number, the first file 6 record of that service or 0
  pub eighth :
      Reads files tables
      → (i : ℕ)
      → i + 1 < line_count files 4
      → Names (trip_service (row (feed_of files).trips i)) (dated_ids (feed_of files)) (get_or (get_or o.tables 3 []) ((i + 1) * 8 + 7) (pos 0))
