-- Every refusal named at once, sentence by sentence, of a feed of these files.
use Rattle.std.specs.Prelude.{ℕ, ◌+◌, ◌-◌, ◌≤◌, ◌<◌, ◌≡◌, ◌↔◌, ◌⊎◌, Bool, true, false, ℤ, length, get_or, take, drop}
use mathlib.Core.List.{List, [], ◌∷◌, ◌++◌, map, Memᴰ}
use Rattle.meaning.specs.declared.Refusal.{Refusal}
use Rattle.meaning.specs.Bytes.{count_lf, lines_of, start_of, fields, values}
use Rattle.meaning.specs.Columns.{places}
use Rattle.meaning.specs.Tables.{file_of}
use Rattle.meaning.specs.Refusals.{Claim, on_line, max_bytes, max_lines, may_lack, rule4, text_tests, head_tests, line_tests, claims}
use Rattle.meaning.specs.Promises.{Ordered, Each, sooner3, FirstBroken, NoneBroken, SomeBroken}
use Rattle.meaning.specs.Demands.{Reads}
use Rattle.meaning.specs.Calls.{LongEnough}
use Rattle.faults.specs.List.{after_lf, texts_of, faults_of}

-- ---- a file's lines

-- bytes in two parts, the second after the last LF: the first is empty or ends with LF, the second has none
pub record LastLf (s front rest : List ℕ) : Type 0 where
  pub whole : s ≡ front ++ rest
  pub none : count_lf rest ≡ 0
  pub ends : (front ≡ []) ⊎ (get_or front (length front - 1) 0 ≡ 10)

-- the texts of a file's lines: those that an LF ends and, where bytes follow the last LF, these as a last one
pub record Texts (s : List ℕ) : Type 0 where
  pub ended : after_lf (drop (start_of s) s) ≡ [] → texts_of s ≡ map (λ l. l.text) (lines_of s)
  pub unended :
      (after_lf (drop (start_of s) s) ≡ [] → ⊥)
      → texts_of s ≡ map (λ l. l.text) (lines_of s) ++ (after_lf (drop (start_of s) s) ∷ [])

-- ---- one fault

-- the bytes of a fault's file, the texts of its lines, its header's and its own
abbrev pub bytes_at : List (List ℕ) → Refusal → List ℕ
bytes_at files d = file_of files d.file

abbrev pub texts_at : List (List ℕ) → Refusal → List (List ℕ)
texts_at files d = texts_of (bytes_at files d)

abbrev pub head_at : List (List ℕ) → Refusal → List ℕ
head_at files d = get_or (texts_at files d) 0 []

abbrev pub text_at : List (List ℕ) → Refusal → List ℕ
text_at files d = get_or (texts_at files d) (d.line - 1) []

-- what its header is put to
abbrev pub head_claims : List (List ℕ) → Refusal → List Claim
head_claims files d = on_line d.file 1 (head_tests d.file (head_at files d))

-- rules 1, 2 and 4 of each file as a whole (line 0)
pub data WholeRule (files : List (List ℕ)) (d : Refusal) : Type 0 where
  long : d.number ≡ 1 → max_bytes < length (bytes_at files d) → WholeRule files d
  many : d.number ≡ 2 → max_lines < count_lf (bytes_at files d) → WholeRule files d
  unclosed : d.number ≡ 4 → rule4 files d.file (bytes_at files d) 0 ≡ true → WholeRule files d

pub record OfWhole (files : List (List ℕ)) (d : Refusal) : Type 0 where
  pub line : d.line ≡ 0
  pub column : d.column ≡ 0
  pub rule : WholeRule files d

-- a line of a file that breaks neither 1 nor 2
pub record OfJudged (files : List (List ℕ)) (d : Refusal) : Type 0 where
  pub short : length (bytes_at files d) ≤ max_bytes
  pub few : count_lf (bytes_at files d) ≤ max_lines
  pub from : 1 ≤ d.line
  pub to : d.line ≤ length (texts_at files d)

-- on the header the first of its tests that it breaks, in the order in which they speak
pub record OfHeader (files : List (List ℕ)) (d : Refusal) : Type 0 where
  pub judged : OfJudged files d
  pub line : d.line ≡ 1
  pub first : FirstBroken (head_claims files d) d

-- on each later line the same, where the header is good
pub record OfLine (files : List (List ℕ)) (d : Refusal) : Type 0 where
  pub judged : OfJudged files d
  pub later : 2 ≤ d.line
  pub good : NoneBroken (head_claims files d)
  pub first :
      FirstBroken
      (on_line d.file d.line (line_tests d.file (places d.file (values (head_at files d))) (length (fields (head_at files d))) (text_at files d)))
      d

-- where the header is refused, only the tests that don't look at the header
pub record OfText (files : List (List ℕ)) (d : Refusal) : Type 0 where
  pub judged : OfJudged files d
  pub later : 2 ≤ d.line
  pub refused : SomeBroken (head_claims files d)
  pub first : FirstBroken (on_line d.file d.line (text_tests (text_at files d))) d

pub data Fault (files : List (List ℕ)) (d : Refusal) : Type 0 where
  of_whole : OfWhole files d → Fault files d
  of_header : OfHeader files d → Fault files d
  of_line_lem : OfLine files d → Fault files d
  of_text : OfText files d → Fault files d

-- the same of one of the files
pub record FaultOf (files : List (List ℕ)) (d : Refusal) : Type 0 where
  pub from : 1 ≤ d.file
  pub to : d.file ≤ length files
  pub fault : Fault files d

-- ---- the list

-- which of two faults comes first: by file, line, number
unfoldable pub fault_before : Refusal → Refusal → Bool
fault_before d e = sooner3 d.file d.line d.number e.file e.line e.number

-- the numbers of a fault: any rule but 3, one of the files, line 0 exactly for a whole file, at most one line more than rule 2 allows
pub record Nameable (files : List (List ℕ)) (d : Refusal) : Type 0 where
  pub lowest : 1 ≤ d.number
  pub highest : d.number ≤ 14
  pub not_3 : d.number ≡ 3 → ⊥
  pub file : (1 ≤ d.file) × (d.file ≤ length files)
  pub line : d.line ≡ 0 ↔ d.number ≤ 4
  pub last : d.line ≤ max_lines + 1
  pub column : d.column ≤ 32

pub record AtOnce (files : List (List ℕ)) : Type 1 where
  -- bytes after the last LF count as a last line
  pub texts : (s : List ℕ) → Texts s
  pub after_lf_lem : (s : List ℕ) → LastLf s (take (length s - length (after_lf s)) s) (after_lf s)
  -- a fault is in the list exactly when the words say so
  pub exactly : (d : Refusal) → Memᴰ d (faults_of files) ↔ FaultOf files d
  -- the list rises strictly, by file, line, number
  pub rises : Ordered fault_before (faults_of files)
  -- a line has one fault at most
  pub one : (d e : Refusal) → Memᴰ d (faults_of files) → Memᴰ e (faults_of files) → d.file ≡ e.file → d.line ≡ e.line → 1 ≤ d.line → d ≡ e
  -- an empty file has 4 and nothing else; a file not supplied has none
  pub empty : (d : Refusal) → bytes_at files d ≡ [] → Memᴰ d (faults_of files) → (d.number ≡ 4) × (may_lack files d.file ≡ false)
  -- with long enough tables, the feed is readable exactly when the list is empty
  pub readable : (tables : List (List ℤ)) → LongEnough files tables → Reads files tables ↔ faults_of files ≡ []
  -- and else the verdict's refusal is in the list
  pub verdict : (tables : List (List ℤ)) → LongEnough files tables → (r : Refusal) → FirstBroken (claims files (map length tables)) r → Memᴰ r (faults_of files)
  -- what a fault's numbers can be
  pub numbers : Each (Nameable files) (faults_of files)
