-- A step along the fields of a line.
use Rattle.std.specs.Prelude.{ℕ, ◌+◌, ◌≤◌, ◌≡◌, Option, Some, None, List, [], ◌∷◌, Bool, true, cond, ◌||◌, length, set, take, drop, ltb, eqb}
use Rattle.meaning.specs.declared.Bounds.{Bounds}
use Rattle.meaning.specs.Bytes.{bounds, part, start, bare, closed, next, fields_go, value, values_of}
use Rattle.text.specs.Lines.{to_first}
use Rattle.text.specs.declared.Cursor.{Cursor}

-- how many fields a line has from a state on
unfoldable pub field_count : ℕ → List ℕ → ℕ
field_count q [] = 1
field_count q (b ∷ r) = let k = field_count (next q b) r in cond (eqb (next q b) start) (k + 1) k

-- how many bytes stand before the end of a field from a state on
unfoldable pub field_len : ℕ → List ℕ → ℕ
field_len q [] = 0
field_len q (b ∷ r) = let k = field_len (next q b) r + 1 in cond (eqb (next q b) start) 0 k

-- is a byte a quotation mark; is it one or a comma, at which a field may end
abbrev pub is_mark : ℕ → Bool
is_mark b = eqb b 34

abbrev pub is_break : ℕ → Bool
is_break b = eqb b 44 || is_mark b

-- how many bytes stand before the first mark, and before the first comma or mark
abbrev pub to_mark : List ℕ → ℕ
to_mark r = to_first is_mark r

abbrev pub to_break : List ℕ → ℕ
to_break r = to_first is_break r

-- is the quoting table asked for a byte in a state, or does the byte keep the state: in a bare field a comma or a mark is asked for, past a closing mark
-- any byte, else a mark; and how many bytes stand before the first that is
unfoldable pub asked : ℕ → ℕ → Bool
asked q b = cond (eqb q bare) (is_break b) (cond (eqb q closed) true (is_mark b))

abbrev pub to_asked : ℕ → List ℕ → ℕ
to_asked q r = to_first (asked q) r

-- the state at the end of a field from a state on: start where a comma ends it
unfoldable pub field_state : ℕ → List ℕ → ℕ
field_state q [] = q
field_state q (b ∷ r) = let k = field_state (next q b) r in cond (eqb (next q b) start) start k

-- a table in which the places past the ends of fields are noted, from number n on
unfoldable pub past_ends : List Bounds → ℕ → List ℕ → List ℕ
past_ends [] n t = t
past_ends (b ∷ bs) n t = past_ends bs (n + 1) (set t n (b.end + 1))

-- a count of fields as a walk along a line tells it: 33 is one more than rule 7 allows, and stands for any greater
unfoldable pub up_to33 : ℕ → ℕ
up_to33 n = cond (ltb n 33) n 33

-- does a byte end a line: the LF of its ending, or the CR before it
unfoldable pub ends_line : ℕ → Bool
ends_line b = eqb b 10 || eqb b 13

-- how many bytes stand before the end of a field in a file, whose lines end where an ending begins
unfoldable pub field_run : ℕ → List ℕ → ℕ
field_run q [] = 0
field_run q (b ∷ r) = let k = field_run (next q b) r + 1 in cond (ends_line b) 0 (cond (eqb (next q b) start) 0 k)

-- the raw field that begins at a byte of a file
unfoldable pub field_on : List ℕ → ℕ → List ℕ
field_on s at = take (field_run start (drop at s)) (drop at s)

-- the step of a cursor that has come to `at`, where a field begins: where the field lies, and the moved cursor, which has the state in which the field
-- ended; none past the line's end
unfoldable pub step_at : List ℕ → ℕ → Option (Bounds × Cursor)
step_at l at =
    let e = at + field_len start (drop at l) in
    cond (ltb (length l) at) None (Some (bounds at e, record { at = e + 1; state = field_state start (drop at l) }))

-- the fields from byte `at`, where one begins: none past the line's end
unfoldable pub fields_from : List ℕ → ℕ → List Bounds
fields_from l at = cond (ltb (length l) at) [] (fields_go start at at (drop at l))

-- the values from byte `at`, where a field begins
unfoldable pub values_from : List ℕ → ℕ → List (List ℕ)
values_from l at = values_of l (fields_from l at)

-- what a step from `at` to a field tells: it is the first of the fields from there, the others are those from past its end, and all lies within the line
pub record FieldStands (l : List ℕ) (at a e n : ℕ) : Type 0 where
  pub starts : a ≡ at
  pub ordered : a ≤ e
  pub within : e ≤ length l
  pub moves : n ≡ e + 1
  pub fields : fields_from l at ≡ bounds a e ∷ fields_from l n
  pub values : values_from l at ≡ value (part l (bounds a e)) ∷ values_from l n

-- bounds that lie within n bytes
pub record Inside (n : ℕ) (p : Bounds) : Type 0 where
  pub ordered : p.start ≤ p.end
  pub within : p.end ≤ n
