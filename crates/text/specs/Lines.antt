-- A step along the lines of a file.
use Rattle.std.specs.Prelude.{ℕ, ◌+◌, ◌≤◌, ◌<◌, ◌≡◌, Option, Some, None, List, [], ◌∷◌, Bool, cond, length, drop, ltb, eqb}
use Rattle.meaning.specs.Bytes.{bounds, part, end_of, lines_from}
use Rattle.meaning.specs.declared.Bounds.{Bounds}

-- is a byte LF
abbrev pub is_lf : ℕ → Bool
is_lf b = eqb b 10

-- how many bytes stand before the first of which a test holds
unfoldable pub to_first : (ℕ → Bool) → List ℕ → ℕ
to_first P [] = 0
to_first P (b ∷ r) = let k = to_first P r + 1 in cond (P b) 0 k

-- how many stand before the first LF
abbrev pub to_lf : List ℕ → ℕ
to_lf r = to_first is_lf r

-- where the line lies that begins at `at` and whose LF, if there is one, stands at e, and where the next one starts
unfoldable pub line_to : List ℕ → ℕ → ℕ → Option (Bounds × ℕ)
line_to s at e = cond (ltb e (length s)) (Some (bounds at (end_of s at e), e + 1)) None

-- the same of the line that begins at `at`
unfoldable pub line_at : List ℕ → ℕ → Option (Bounds × ℕ)
line_at s at = line_to s at (at + to_lf (drop at s))

-- what a step from `at` to a line tells: it is the first of the lines from there, the others are those from n, and all lies within the file
pub record LineStands (s : List ℕ) (at a e n : ℕ) : Type 0 where
  pub starts : a ≡ at
  pub ordered : a ≤ e
  pub before : e < n
  pub within : n ≤ length s
  pub lines : lines_from s at ≡ record { start = a; text = part s (bounds a e) } ∷ lines_from s n
