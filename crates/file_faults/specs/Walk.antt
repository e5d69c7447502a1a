-- A step along all the lines of a file, bytes after the last LF being one; and the fault that a line's first broken rule is.
use Rattle.std.specs.Prelude.{Option, Some, None, ℕ, ◌≤◌, ◌<◌, ◌≡◌, List, [], ◌∷◌, ◌++◌, Bool, true, false, cond, length, get_or, ltb, IfSome, is_some, Result, Ok, Err}
use Rattle.meaning.specs.declared.Bounds.{Bounds}
use Rattle.meaning.specs.declared.Refusal.{Refusal}
use Rattle.meaning.specs.Bytes.{bounds, part, fields, values}
use Rattle.meaning.specs.Refusals.{test, Test, text_tests, line_tests}
use Rattle.text.specs.Lines.{line_at}
use Rattle.reading.specs.declared.Fault.{Fault}
use Rattle.columns.specs.declared.Columns.{Columns}
use Rattle.columns.specs.Columns.{places_of}
use Rattle.faults.specs.List.{texts_from, fault_at, head_said}

-- where no LF ends a line, the bytes from `at` to the file's end are one, if there are any
abbrev pub or_rest : List ℕ → ℕ → Option (Bounds × ℕ) → Option (Bounds × ℕ)
or_rest s at (Some x) = Some x
or_rest s at None = cond (ltb at (length s)) (Some (bounds at (length s), length s)) None

-- the step where a line begins at `at`
unfoldable pub any_at : List ℕ → ℕ → Option (Bounds × ℕ)
any_at s at = or_rest s at (line_at s at)

-- what a step from `at` to a line tells: it is the first of the lines from there, the others are those from n, and all lies within the file
pub record AnyStands (s : List ℕ) (at a e n : ℕ) : Type 0 where
  pub ordered : a ≤ e
  pub within : e ≤ length s
  pub further : at < n
  pub inside : n ≤ length s
  pub texts : texts_from s at ≡ part s (bounds a e) ∷ texts_from s n

-- the fault at line n of file f, by its rule and column, where one is broken
unfoldable pub fault_of : ℕ → ℕ → Option Fault → List Refusal
fault_of f n None = []
fault_of f n (Some t) = record { number = t.rule; file = f; line = n; column = t.column } ∷ []

-- is a header good, by what is said of it
abbrev pub is_good : Result Unit Refusal → Bool
is_good (Ok tt) = true
is_good (Err r) = false

-- what is told of a header with text h: whether it is good, and if so, in which columns its known names stand, and how many fields it has
pub record Heads (f : ℕ) (h : List ℕ) (header : Option Columns) : Type 0 where
  pub said : is_some header ≡ is_good (head_said f h)
  pub columns : IfSome header (λ c. c.at ≡ places_of f (values h))
  pub wide : IfSome header (λ c. c.count ≡ length (fields h))

-- and that there is such a header
pub record Header (f : ℕ) (header : Option Columns) : Type 0 where
  pub text : List ℕ
  pub heads : Heads f text header

-- the tests of a line after the header: all where the header is good, else those that don't look at it
abbrev pub tests_by : ℕ → Option Columns → List ℕ → List Test
tests_by f None l = text_tests l
tests_by f (Some c) l = line_tests f c.at c.count l

-- rules 1, 2 and 4 of a whole file, by the marks of its rules 1 to 4
unfoldable pub marked_faults : ℕ → List Bool → List Refusal
marked_faults f whole =
    fault_at f 0 (test 1 (get_or whole 0 false) ∷ [])
    ++ (fault_at f 0 (test 2 (get_or whole 1 false) ∷ [])
    ++ fault_at f 0 (test 4 (get_or whole 3 false) ∷ []))
