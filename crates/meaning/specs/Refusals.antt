-- Refusals.
use Rattle.std.specs.Prelude.{ℕ, ◌+◌, ◌*◌, ◌-◌, List, [], ◌∷◌, ◌++◌, Bool, true, false, cond, not, ◌&&◌, ◌||◌, length, get_or, ltb, eqb, Result, Ok, Err}
use Rattle.meaning.specs.declared.Need.{Need}
use Rattle.meaning.specs.declared.Need.TheVariants.{Never, AllButInner, AllButPlaceless}
use Rattle.meaning.specs.declared.Column.{Column}
use Rattle.meaning.specs.declared.Refusal.{Refusal}
use Rattle.meaning.specs.Lists.{empty, some, find_again, least}
use Rattle.meaning.specs.Bytes.{Line, lines_of, count_lf, good, fields, values}
use Rattle.meaning.specs.Characters.{well_formed}
use Rattle.meaning.specs.Columns.{Row, rank, name_of, column_of, count_of, places, cell, row_of}
use Rattle.meaning.specs.Forms.{shape}
use Rattle.meaning.specs.Tables.{file_of, width_of, inner, placed}

-- a rule by its number, whether it is broken at the place that is looked at, and in which column of the line: 0 where it names none
pub record Test : Type 0 where
  pub number : ℕ
  pub column : ℕ
  pub broken : Bool

-- a rule that names no column
abbrev pub test : ℕ → Bool → Test
test n b = record { number = n; column = 0; broken = b }

-- a rule that names a column, counted from 1 over the line's own fields, unread ones included: 0 where it is kept
abbrev pub test_at : ℕ → ℕ → Test
test_at n c = record { number = n; column = c; broken = not (eqb c 0) }

-- a rule, a place, and whether it is broken there
pub record Claim : Type 0 where
  pub number : ℕ
  pub file : ℕ
  pub line : ℕ
  pub column : ℕ
  pub broken : Bool

-- the claim of a test at line n of file f
abbrev pub claim_of : ℕ → ℕ → Test → Claim
claim_of f n t = record { number = t.number; file = f; line = n; column = t.column; broken = t.broken }

-- the same of a rule that names no column
abbrev pub claim : ℕ → ℕ → ℕ → Bool → Claim
claim r f n b = claim_of f n (test r b)

-- the tests of line n of file f
unfoldable pub on_line : ℕ → ℕ → List Test → List Claim
on_line f n [] = []
on_line f n (t ∷ r) = claim_of f n t ∷ on_line f n r

-- the limits of rules 1 and 2: every size that follows from them names these two
abbrev pub max_bytes : ℕ
max_bytes = 134217728

abbrev pub max_lines : ℕ
max_lines = 1048576

-- so many lines have the files of a small feed, for which smaller arrays do
abbrev pub few_lines : ℕ
few_lines = 65536

-- 1: file longer than 134,217,728 bytes
unfoldable pub rule1 : ℕ → List ℕ → ℕ → Bool
rule1 f s room = ltb max_bytes (length s)

-- 2: more than 1,048,576 LF bytes
unfoldable pub rule2 : ℕ → List ℕ → ℕ → Bool
rule2 f s room = ltb max_lines (count_lf s)

-- 3: table shorter than its width times the file's LF count
unfoldable pub rule3 : ℕ → List ℕ → ℕ → Bool
rule3 f s room = ltb room (width_of f * count_lf s)

-- An empty slice means "not supplied": file 6 may be empty so, and calendar.txt only if file 6 isn't.
unfoldable pub may_lack : List (List ℕ) → ℕ → Bool
may_lack files f = eqb f 6 || (eqb f 3 && not (empty (file_of files 6)))

-- is the last byte LF
unfoldable pub ended : List ℕ → Bool
ended s = eqb (get_or s (length s - 1) 0) 10

-- 4: last byte isn't LF, or the file is empty and may not be
unfoldable pub rule4 : List (List ℕ) → ℕ → List ℕ → ℕ → Bool
rule4 files f s room = cond (empty s) (not (may_lack files f)) (not (ended s))

-- 5: tab, or CR outside an ending (a line's text has no ending)
unfoldable pub rule5 : List ℕ → Bool
rule5 [] = false
rule5 (b ∷ r) = let k = rule5 r in cond (eqb b 9) true (cond (eqb b 13) true k)

-- 6: quoting table says bad
unfoldable pub rule6 : List ℕ → Bool
rule6 l = not (good l)

-- 7: more than 32 fields
unfoldable pub rule7 : List ℕ → Bool
rule7 l = ltb 32 (length (fields l))

-- 8: a known name stands twice in the header: the column is its second standing, the leftmost if several
unfoldable pub rule8 : ℕ → List (List ℕ) → ℕ
rule8 f header = least (λ k. find_again (name_of f k) 1 header) (count_of f)

-- 9: a must-be-present name is missing
unfoldable pub rule9 : ℕ → List (List ℕ) → Bool
rule9 f header = some (λ k. (column_of f k).must && eqb (get_or (places f header) k 0) 0) 0 (count_of f)

-- 10: field count differs from the header's
unfoldable pub rule10 : ℕ → List ℕ → Bool
rule10 count l = not (eqb (length (fields l)) count)

-- a value longer than 64 bytes under a column that bounds it
unfoldable pub long : Column → List ℕ → Bool
long c v = c.ident && ltb 64 (length v)

-- up to which need a line may leave values empty: a node or a boarding area its name, one without a coordinate its place too, any other line none
unfoldable pub slack : ℕ → Row → Need
slack f r = cond (eqb f 1 && inner r) (cond (placed r) AllButInner AllButPlaceless) Never

-- an empty value where a line with this slack needs one
unfoldable pub blank : Need → Column → List ℕ → Bool
blank free c v = ltb (rank free) (rank c.need) && empty v

-- a value not of its form
unfoldable pub formless : Column → List ℕ → Bool
formless c v = not (empty v) && not (shape c.form v)

-- the leftmost column whose value breaks a test, among those in which the first n known names of file f stand
unfoldable pub leftmost : (Column → List ℕ → Bool) → ℕ → List ℕ → List ℕ → ℕ → ℕ
leftmost P f ps l n = least (λ k. let p = get_or ps k 0 in cond (P (column_of f k) (cell l p)) p 0) n

-- 11: a value under a known column named `..._id`, or parent_station, longer than 64 bytes
unfoldable pub rule11 : ℕ → List ℕ → List ℕ → ℕ
rule11 f ps l = leftmost long f ps l (count_of f)

-- 12: an empty value where one is needed
unfoldable pub rule12 : ℕ → List ℕ → List ℕ → ℕ
rule12 f ps l = leftmost (blank (slack f (row_of ps l))) f ps l (count_of f)

-- 13: a value not of its form
unfoldable pub rule13 : ℕ → List ℕ → List ℕ → ℕ
rule13 f ps l = leftmost formless f ps l (count_of f)

-- 14: not well-formed UTF-8 (a line's text has no leading mark and no ending)
unfoldable pub rule14 : List ℕ → Bool
rule14 l = not (well_formed l)

-- the tests of any line, in the order in which they speak: 14 is tested after 5 and before 6, despite its number
unfoldable pub text_tests : List ℕ → List Test
text_tests l = test 5 (rule5 l) ∷ test 14 (rule14 l) ∷ test 6 (rule6 l) ∷ test 7 (rule7 l) ∷ []

-- the tests of a header
unfoldable pub head_tests : ℕ → List ℕ → List Test
head_tests f h = text_tests h ++ (test_at 8 (rule8 f (values h)) ∷ test 9 (rule9 f (values h)) ∷ [])

-- the tests of a line's values, where a header's known names stand in the columns ps
unfoldable pub value_tests : ℕ → List ℕ → List ℕ → List Test
value_tests f ps l = test_at 11 (rule11 f ps l) ∷ test_at 12 (rule12 f ps l) ∷ test_at 13 (rule13 f ps l) ∷ []

-- the tests of a line after the header, whose known names stand in the columns ps and whose fields are count
unfoldable pub line_tests : ℕ → List ℕ → ℕ → List ℕ → List Test
line_tests f ps count l = text_tests l ++ (test 10 (rule10 count l) ∷ value_tests f ps l)

-- lines in order, from line n
unfoldable pub on_lines : ℕ → List ℕ → ℕ → ℕ → List Line → List Claim
on_lines f ps count n [] = []
on_lines f ps count n (l ∷ r) = on_line f n (line_tests f ps count l.text) ++ on_lines f ps count (n + 1) r

-- a file: its header, then its lines
unfoldable pub in_file : ℕ → List Line → List Claim
in_file f [] = []
in_file f (h ∷ r) =
    on_line f 1 (head_tests f h.text)
    ++ on_lines f (places f (values h.text)) (length (fields h.text)) 2 r

-- files are read in order, from file f
unfoldable pub in_files : ℕ → List (List ℕ) → List Claim
in_files f [] = []
in_files f (s ∷ r) = in_file f (lines_of s) ++ in_files (f + 1) r

-- one rule of whole files over the files, from file f, each with its table's length
unfoldable pub over_files : ℕ → (ℕ → List ℕ → ℕ → Bool) → ℕ → List (List ℕ) → List ℕ → List Claim
over_files n P f [] rooms = []
over_files n P f (s ∷ r) [] = []
over_files n P f (s ∷ r) (m ∷ rooms) = claim n f 0 (P f s m) ∷ over_files n P (f + 1) r rooms

-- Rules 1 to 4 go rule by rule, each over files 1 to 6. Then files are read in order, lines in order, and on one line the lowest number speaks, but 14 after 5 and before 6.
unfoldable pub claims : List (List ℕ) → List ℕ → List Claim
claims files rooms =
    over_files 1 rule1 1 files rooms
    ++ (over_files 2 rule2 1 files rooms
    ++ (over_files 3 rule3 1 files rooms
    ++ (over_files 4 (rule4 files) 1 files rooms
    ++ in_files 1 files)))

abbrev pub refusal : Claim → Refusal
refusal p = record { number = p.number; file = p.file; line = p.line; column = p.column }

-- the first that is broken speaks
unfoldable pub speaks : List Claim → Result Unit Refusal
speaks [] = Ok tt
speaks (p ∷ r) = let k = speaks r in cond p.broken (Err (refusal p)) k

-- can six files be read, with tables of these lengths
unfoldable pub verdict_of : List (List ℕ) → List ℕ → Result Unit Refusal
verdict_of files rooms = speaks (claims files rooms)

-- what document 01 calls each case of the verdict: a refusal's number, file, line and column, and nothing where all six files read
unfoldable pub verdict_numbers : Result Unit Refusal → List ℕ
verdict_numbers (Ok tt) = []
verdict_numbers (Err r) = r.number ∷ r.file ∷ r.line ∷ r.column ∷ []
