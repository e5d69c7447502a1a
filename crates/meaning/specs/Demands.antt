-- The three demands, sentence by sentence, of a call that was lent these files, tables, list and starting place, asked for the profile or not, and ended with this outcome.
use Rattle.std.specs.Prelude.{ℕ, ◌≤◌, ◌<◌, ◌≡◌, ◌↔◌, ◌⊎◌, ℤ, length, get_or}
use mathlib.Core.List.{List, [], map, Memᴰ}
use Rattle.meaning.specs.declared.Refusal.{Refusal}
use Rattle.meaning.specs.declared.Place.{Place}
use Rattle.meaning.specs.declared.Profile.{Profile}
use Rattle.meaning.specs.Columns.{column_of, count_of, rows_of}
use Rattle.meaning.specs.Tables.{feed_of, file_of}
use Rattle.meaning.specs.Refusals.{Claim, claims, slack}
use Rattle.meaning.specs.Rules.{row}
use Rattle.meaning.specs.Findings.{finding, findings_of, answer_numbers}
use Rattle.meaning.specs.Outcome.{Outcome}
use Rattle.meaning.specs.Promises.{Ordered, Each, says_accepted, says_refused, FileClaim, LineClaim, speaks_before, FirstBroken, NoneBroken, Ends, ValueKept, TimesNeverFall, SequencesDiffer, BrokenAt, comes_before, PageTold}
use Rattle.meaning.specs.Held.{TablesHeld}
use Rattle.meaning.specs.Calls.{Lending, Enough, CallsJoin}

-- the files can be read: no rule of 1 to 14 is broken anywhere
abbrev pub Reads : List (List ℕ) → List (List ℤ) → Type 0
Reads files tables = NoneBroken (claims files (map length tables))

pub record Demand1 (files : List (List ℕ)) (tables : List (List ℤ)) (list : List ℤ) (o : Outcome) : Type 0 where
  -- the check ends with accepted, findings, or a refusal numbered 1 to 14 with its file and line (line 0 for a whole file)
  pub ends : Ends files (answer_numbers o.answer)
  -- a refusal is given exactly when its rule is the first one broken
  pub first : (r : Refusal) → answer_numbers o.answer ≡ says_refused r ↔ FirstBroken (claims files (map length tables)) r
  -- in the order in which the documents have the rules speak
  pub order : Ordered speaks_before (claims files (map length tables))
  -- among all the rules at all the places
  pub all : (q : Claim) → Memᴰ q (claims files (map length tables)) ↔ (FileClaim files (map length tables) q ⊎ LineClaim files q)
  -- and it changes nothing in the tables or the list
  pub untouched : (r : Refusal) → answer_numbers o.answer ≡ says_refused r → (o.tables ≡ tables) × (o.list ≡ list)

pub record Demand2 (files : List (List ℕ)) (tables : List (List ℤ)) (asked : Profile) (o : Outcome) : Type 0 where
  -- when the files can be read, every value of a known column is there where it is needed, short where it is an id, and of its form
  pub values :
      Reads files tables
      → (f i k : ℕ)
      → 1 ≤ f
      → f ≤ 6
      → i < length (rows_of f (file_of files f))
      → k < count_of f
      → ValueKept (slack f (row (rows_of f (file_of files f)) i)) (column_of f k) (get_or (row (rows_of f (file_of files f)) i) k [])
  -- and the tables hold exactly those values and the row that each reference names
  pub held : Reads files tables → TablesHeld files tables o.tables
  -- every table is as long as it was lent
  pub long : map length o.tables ≡ map length tables
  -- the feed is accepted exactly when no finding exists, of the list so asked for
  pub accepted : answer_numbers o.answer ≡ says_accepted ↔ Reads files tables × (findings_of asked (feed_of files) ≡ [])
  -- in an accepted feed times never fall between any two timed lines of one trip, taken in trip order
  pub times : answer_numbers o.answer ≡ says_accepted → TimesNeverFall (feed_of files)
  -- which is the order of sequences: no two lines of one trip share one
  pub sequences : answer_numbers o.answer ≡ says_accepted → SequencesDiffer (feed_of files)

pub record Demand3 (files : List (List ℕ)) (tables : List (List ℤ)) (list : List ℤ) (p : Place) (asked : Profile) (o : Outcome) : Type 0 where
  -- the findings are all the places where a binding rule, of those asked for, is broken
  pub all : (f n r : ℕ) → Memᴰ (finding f n r) (findings_of asked (feed_of files)) ↔ BrokenAt asked (feed_of files) f n r
  -- each once, ordered by file, line, rule
  pub ordered : Ordered comes_before (findings_of asked (feed_of files))
  -- a call hands out those after its starting place, the earliest first and none skipped, as many as fit, and the true total
  pub handed_out : Reads files tables → PageTold (findings_of asked (feed_of files)) p list o
  -- the list is as long as it was lent
  pub long : length o.list ≡ length list
  -- over unchanged files and long enough tables, calls with room for at least one finding, the first from the list's beginning and each
  -- later one from the last finding handed out, until a call hands out none, together give the whole list; all ask for the profile, or all don't
  pub joins :
      Reads files tables
      → 3 ≤ length list
      → (lendings : List Lending)
      → Each (Enough files) lendings
      → CallsJoin asked files tables list lendings
