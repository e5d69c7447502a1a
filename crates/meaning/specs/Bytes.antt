-- From bytes to fields.
use Rattle.std.specs.Prelude.{ℕ, ◌+◌, ◌-◌, List, [], ◌∷◌, map, Bool, true, false, cond, ◌&&◌, length, get_or, take, drop, ltb, eqb}
use Rattle.meaning.specs.declared.Bounds.{Bounds}
use Rattle.meaning.specs.Lists.{same}

abbrev pub bounds : ℕ → ℕ → Bounds
bounds a e = record { start = a; end = e }

-- the bytes within bounds
unfoldable pub part : List ℕ → Bounds → List ℕ
part s p = take (p.end - p.start) (drop p.start s)

-- Three bytes EF BB BF at the start of a file are dropped.
unfoldable pub leading_mark : List ℕ
leading_mark = 0xEF ∷ 0xBB ∷ 0xBF ∷ []

-- where the first line starts
unfoldable pub start_of : List ℕ → ℕ
start_of s = cond (same (take 3 s) leading_mark) 3 0

-- how many LF bytes stand in a file
unfoldable pub count_lf : List ℕ → ℕ
count_lf [] = 0
count_lf (b ∷ r) = let k = count_lf r in cond (eqb b 10) (k + 1) k

-- A line ends with LF: where each line starts and where its LF stands, the first having begun at st. Bytes after the last LF are no line.
unfoldable pub cuts : ℕ → ℕ → List ℕ → List Bounds
cuts st at [] = []
cuts st at (b ∷ r) =
    let y = bounds st at ∷ cuts (at + 1) (at + 1) r in
    let n = cuts st (at + 1) r in
    cond (eqb b 10) y n

-- One CR directly before it belongs to the ending: where the text of a line from `at` with its LF at e ends.
unfoldable pub end_of : List ℕ → ℕ → ℕ → ℕ
end_of s at e = cond (ltb at e && eqb (get_or s (e - 1) 0) 13) (e - 1) e

-- a line: where it starts, counted from the file's first byte, and its text without the ending
pub record Line : Type 0 where
  pub start : ℕ
  pub text : List ℕ

unfoldable pub line_of : List ℕ → Bounds → Line
line_of s p = record { start = p.start; text = part s (bounds p.start (end_of s p.start p.end)) }

-- the lines from byte `at`, where one begins
unfoldable pub lines_from : List ℕ → ℕ → List Line
lines_from s at = map (line_of s) (cuts at at (drop at s))

-- the lines of a file
unfoldable pub lines_of : List ℕ → List Line
lines_of s = lines_from s (start_of s)

-- The states of the quoting table, and a fifth for bad, which stays bad.
abbrev pub start : ℕ
start = 0

abbrev pub bare : ℕ
bare = 1

abbrev pub quoted : ℕ
quoted = 2

abbrev pub closed : ℕ
closed = 3

abbrev pub bad : ℕ
bad = 4

-- the byte classes: comma, mark, other
unfoldable pub class_of : ℕ → ℕ
class_of b = cond (eqb b 44) 0 (cond (eqb b 34) 1 2)

-- The quoting rule is a table of four states against three byte classes.
unfoldable pub quoting : List (List ℕ)
quoting =
    (start ∷ quoted ∷ bare ∷ [])
    ∷ (start ∷ bad ∷ bare ∷ [])
    ∷ (quoted ∷ closed ∷ quoted ∷ [])
    ∷ (start ∷ quoted ∷ bad ∷ [])
    ∷ (bad ∷ bad ∷ bad ∷ [])
    ∷ []

-- the table's last column: is the line's end good in each state
unfoldable pub endings : List Bool
endings = true ∷ true ∷ false ∷ true ∷ false ∷ []

-- the state after a byte
unfoldable pub next : ℕ → ℕ → ℕ
next q b = get_or (get_or quoting q []) (class_of b) 0

-- the state after bytes
unfoldable pub run : ℕ → List ℕ → ℕ
run q [] = q
run q (b ∷ r) = run (next q b) r

-- does the quoting table call a line good
unfoldable pub good : List ℕ → Bool
good l = get_or endings (run start l) false

-- the raw fields of a line, the first having begun at st: a byte after which the state is start ends a field
unfoldable pub fields_go : ℕ → ℕ → ℕ → List ℕ → List Bounds
fields_go q st at [] = bounds st at ∷ []
fields_go q st at (b ∷ r) =
    let y = bounds st at ∷ fields_go (next q b) (at + 1) (at + 1) r in
    let n = fields_go (next q b) st (at + 1) r in
    cond (eqb (next q b) start) y n

-- the raw fields of a line, counted from its start
unfoldable pub fields : List ℕ → List Bounds
fields l = fields_go start 0 0 l

-- A field is bare or quoted.
unfoldable pub marked : List ℕ → Bool
marked raw = eqb (get_or raw 0 0) 34

-- what stands inside the quotes
unfoldable pub content : List ℕ → List ℕ
content raw = cond (marked raw) (take (length raw - 2) (drop 1 raw)) raw

-- Inside quotes a doubled mark means one mark.
unfoldable pub undouble : Bool → List ℕ → List ℕ
undouble q [] = []
undouble q (b ∷ []) = b ∷ []
undouble q (b ∷ c ∷ r) =
    let y = b ∷ undouble q r in
    let n = b ∷ undouble q (c ∷ r) in
    cond (q && eqb b 34) y n

-- the value of a raw field; values are compared by `same`
unfoldable pub value : List ℕ → List ℕ
value raw = undouble (marked raw) (content raw)

-- the values of a line's fields
unfoldable pub values_of : List ℕ → List Bounds → List (List ℕ)
values_of l [] = []
values_of l (p ∷ r) = value (part l p) ∷ values_of l r

unfoldable pub values : List ℕ → List (List ℕ)
values l = values_of l (fields l)
