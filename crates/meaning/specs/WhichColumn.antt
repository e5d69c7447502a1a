-- Say which column, document 02's E7, sentence by sentence, of calls that are lent these files and tables.
use Rattle.std.specs.Prelude.{ℕ, ◌+◌, ◌-◌, ◌≤◌, ◌<◌, ◌≡◌, ◌↔◌, Bool, true, false, cond, List, [], ◌∷◌, map, ℤ, length, get_or, take}
use Rattle.meaning.specs.declared.Need.{Need}
use Rattle.meaning.specs.declared.Column.{Column}
use Rattle.meaning.specs.declared.Refusal.{Refusal}
use Rattle.meaning.specs.Lists.{same}
use Rattle.meaning.specs.Bytes.{lines_of, values}
use Rattle.meaning.specs.Columns.{name_of, column_of, count_of, places, row_of, header_of}
use Rattle.meaning.specs.Tables.{file_of}
use Rattle.meaning.specs.Refusals.{claims, rule8, rule9, rule11, rule12, rule13, slack, long, blank, formless}
use Rattle.meaning.specs.Promises.{FirstBroken}
use Rattle.meaning.specs.BadUtf8.{text_of}

-- a column, counted from 1, of which something holds, and of none to its left
pub record Leftmost (P : ℕ → Type 0) (c : ℕ) : Type 0 where
  pub counted : 1 ≤ c
  pub here : P c
  pub nowhere_left : (d : ℕ) → 1 ≤ d → d < c → P d → ⊥

-- how often a name stands among a header's values
unfoldable pub standings : List ℕ → List (List ℕ) → ℕ
standings name [] = 0
standings name (v ∷ r) = let k = standings name r in cond (same v name) (k + 1) k

-- the name in column c of a header is a known one
pub record KnownName (f : ℕ) (header : List (List ℕ)) (c : ℕ) : Type 0 where
  pub which : ℕ
  pub known : which < count_of f
  pub inside : c ≤ length header
  pub named : get_or header (c - 1) [] ≡ name_of f which

-- column c has a known name, and it stands just once to the left
pub record SecondStanding (f : ℕ) (header : List (List ℕ)) (c : ℕ) : Type 0 where
  pub name : KnownName f header c
  pub once : standings (name_of f name.which) (take (c - 1) header) ≡ 1

-- column c has a known name, and the value there breaks a test of it
pub record Breaks (P : Column → List ℕ → Bool) (f : ℕ) (header vs : List (List ℕ)) (c : ℕ) : Type 0 where
  pub name : KnownName f header c
  pub inside : c ≤ length vs
  pub broken : P (column_of f name.which) (get_or vs (c - 1) []) ≡ true

-- every value that a line says keeps a test, an absent column reading as empty
abbrev pub Keeps : (Column → List ℕ → Bool) → ℕ → List (List ℕ) → List ℕ → Type 0
Keeps P f header l = (k : ℕ) → k < count_of f → P (column_of f k) (get_or (row_of (places f header) l) k []) ≡ false

-- the values of a refusal's line, and the names in its file's header
abbrev pub values_at : List (List ℕ) → Refusal → List (List ℕ)
values_at files r = values (text_of files r.file r.line)

abbrev pub names_at : List (List ℕ) → Refusal → List (List ℕ)
names_at files r = header_of (lines_of (file_of files r.file))

-- what a refusal's line may leave open
abbrev pub slack_at : List (List ℕ) → Refusal → Need
slack_at files r = slack r.file (row_of (places r.file (names_at files r)) (text_of files r.file r.line))

-- the column of one refusal
pub record ColumnSaid (files : List (List ℕ)) (r : Refusal) : Type 0 where
  -- for 11, 12 and 13 it is the leftmost column that breaks the named rule
  pub long_value : r.number ≡ 11 → Leftmost (Breaks long r.file (names_at files r) (values_at files r)) r.column
  pub blank_value : r.number ≡ 12 → Leftmost (Breaks (blank (slack_at files r)) r.file (names_at files r) (values_at files r)) r.column
  pub formless_value : r.number ≡ 13 → Leftmost (Breaks formless r.file (names_at files r) (values_at files r)) r.column
  -- for 8 the second standing of a known name, leftmost if several
  pub second_standing : r.number ≡ 8 → Leftmost (SecondStanding r.file (names_at files r)) r.column
  -- for all others 0
  pub none : (r.number ≡ 8 → ⊥) → (r.number ≡ 11 → ⊥) → (r.number ≡ 12 → ⊥) → (r.number ≡ 13 → ⊥) → r.column ≡ 0

pub record WhichColumn (files : List (List ℕ)) (tables : List (List ℤ)) : Type 1 where
  -- a refusal gains a column, counted from 1
  pub said : (r : Refusal) → FirstBroken (claims files (map length tables)) r → ColumnSaid files r
  -- and no other column would do
  pub one : (P : ℕ → Type 0) (c d : ℕ) → Leftmost P c → Leftmost P d → c ≡ d
  -- which rule speaks first doesn't change: a header keeps 8 exactly where no known name stands twice
  pub kept_8 : (f : ℕ) (header : List (List ℕ)) → rule8 f header ≡ 0 ↔ ((k : ℕ) → k < count_of f → standings (name_of f k) header ≤ 1)
  -- and under a header that lacks nothing a line keeps 11, 12 and 13 exactly where each of its values does
  pub kept_11 : (f : ℕ) (header : List (List ℕ)) (l : List ℕ) → rule9 f header ≡ false → rule11 f (places f header) l ≡ 0 ↔ Keeps long f header l
  pub kept_12 : (f : ℕ) (header : List (List ℕ)) (l : List ℕ) → rule9 f header ≡ false → rule12 f (places f header) l ≡ 0 ↔ Keeps (blank (slack f (row_of (places f header) l))) f header l
  pub kept_13 : (f : ℕ) (header : List (List ℕ)) (l : List ℕ) → rule9 f header ≡ false → rule13 f (places f header) l ≡ 0 ↔ Keeps formless f header l
