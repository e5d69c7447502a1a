-- The faults of a feed, from the same rules as the verdict. A fault is a refusal: its number, file, line and column.
use Rattle.std.specs.Prelude.{ℕ, ◌+◌, List, [], ◌∷◌, ◌++◌, map, cond, ◌||◌, length, drop, eqb, Result, Ok, Err}
use Rattle.meaning.specs.declared.Refusal.{Refusal}
use Rattle.meaning.specs.Lists.{empty}
use Rattle.meaning.specs.Bytes.{count_lf, start_of, lines_from, fields, values}
use Rattle.meaning.specs.Columns.{places}
use Rattle.meaning.specs.Refusals.{Test, test, on_line, rule1, rule2, rule4, text_tests, head_tests, line_tests, speaks}

-- the bytes after the last LF: all of them where there is none
unfoldable pub after_lf : List ℕ → List ℕ
after_lf [] = []
after_lf (b ∷ r) = let k = after_lf r in cond (eqb (count_lf (b ∷ r)) 0) (b ∷ r) k

-- Bytes after the last LF count as a last line here: what is left, as it stands.
unfoldable pub unended : List ℕ → List (List ℕ)
unended r = cond (empty (after_lf r)) [] (after_lf r ∷ [])

-- the texts of the lines from byte `at`, where one begins
unfoldable pub texts_from : List ℕ → ℕ → List (List ℕ)
texts_from s at = map (λ l. l.text) (lines_from s at) ++ unended (drop at s)

-- the texts of a file's lines
unfoldable pub texts_of : List ℕ → List (List ℕ)
texts_of s = texts_from s (start_of s)

-- what speaks is a fault
abbrev pub said : Result Unit Refusal → List Refusal
said (Ok tt) = []
said (Err r) = r ∷ []

-- At most one fault, at line n of file f (line 0: the file as a whole): the first of these tests that is broken, in the order in which they speak.
unfoldable pub fault_at : ℕ → ℕ → List Test → List Refusal
fault_at f n ts = said (speaks (on_line f n ts))

-- Rules 1, 2 and 4 of a file among the others, as a whole. They ask for no table; rule 3, which does, isn't in the list.
unfoldable pub whole_faults : List (List ℕ) → ℕ → List ℕ → List Refusal
whole_faults files f s =
    fault_at f 0 (test 1 (rule1 f s 0) ∷ [])
    ++ (fault_at f 0 (test 2 (rule2 f s 0) ∷ [])
    ++ fault_at f 0 (test 4 (rule4 files f s 0) ∷ []))

-- A line after the header h is put to all its tests where the header is good; where it is refused, only to those that don't look at it.
abbrev pub tests_under : Result Unit Refusal → ℕ → List ℕ → List ℕ → List Test
tests_under (Ok tt) f h l = line_tests f (places f (values h)) (length (fields h)) l
tests_under (Err r) f h l = text_tests l

-- what is said of a header
unfoldable pub head_said : ℕ → List ℕ → Result Unit Refusal
head_said f h = speaks (on_line f 1 (head_tests f h))

-- the lines after the header h, from line n
unfoldable pub later_faults : ℕ → List ℕ → ℕ → List (List ℕ) → List Refusal
later_faults f h n [] = []
later_faults f h n (l ∷ r) = fault_at f n (tests_under (head_said f h) f h l) ++ later_faults f h (n + 1) r

-- a file's lines: its header, then the others
unfoldable pub line_faults : ℕ → List (List ℕ) → List Refusal
line_faults f [] = []
line_faults f (h ∷ r) = fault_at f 1 (head_tests f h) ++ later_faults f h 2 r

-- a file among the others: its lines are judged where it breaks neither 1 nor 2
unfoldable pub file_faults : List (List ℕ) → ℕ → List ℕ → List Refusal
file_faults files f s =
    whole_faults files f s ++ cond (rule1 f s 0 || rule2 f s 0) [] (line_faults f (texts_of s))

-- files in order, from file f
unfoldable pub faults_from : List (List ℕ) → ℕ → List (List ℕ) → List Refusal
faults_from files f [] = []
faults_from files f (s ∷ r) = file_faults files f s ++ faults_from files (f + 1) r

-- the faults of a feed
unfoldable pub faults_of : List (List ℕ) → List Refusal
faults_of files = faults_from files 1 files
