-- A walk along the lines of a file that notes where the field in a column of each begins.
use mathlib.Core.Path.{◌≡◌, ◌∙◌}
use mathlib.Core.List.{List, []}
use Prim.Native.Nat.{ℕ, ◌+◌, ◌*◌, ◌^◌, ◌≤◌, ◌<◌}
use native.Mathlib.Omega.{arith}
use lib.IntN.{ℤ, pos}
use lib.ListN.{length, get_or, set, drop}
use Rattle.meaning.specs.Bytes.{bounds, part, count_lf, lines_from, lines_of}
use Rattle.meaning.specs.Columns.{field_at}
use Rattle.meaning.specs.Tables.{id_column}
use Rattle.meaning.specs.Refusals.{max_bytes}
use Rattle.meaning.specs.Promises.{no_line}
use Rattle.text.specs.Lines.{LineStands}
use Rattle.text.proofs.Laws.{part_length}
use Rattle.text.proofs.Lines.{lines_all}
use Rattle.text.proofs.Walk.{line_inside, line_here, line_past}
use Rattle.ordering.specs.Cells.{cell_at}
use Rattle.ordering.proofs.Laws.{Alike, yes, no, alike, put_here, put_other}
use Rattle.columns.specs.Heading.{Heading}
use Rattle.id_places.specs.Places.{start_in, own_column, id_start, Ids}

-- noted are the lines before line r, counted from 0
abbrev pub Noted : ℕ → List ℕ → ℕ → List ℤ → Type 0
Noted p s r t = (k : ℕ) → 0 < k → k < r → cell_at 0 t 1 k ≡ start_in p (get_or (lines_of s) k no_line)

pub noted_first : (p : ℕ) (s : List ℕ) (t : List ℤ) → Noted p s 1 t
noted_first p s t k a b = absurd (omega arith)

-- a turn along the lines, of which line r is next
module _ (s : List ℕ) (here r : ℕ) (left : lines_from s here ≡ drop r (lines_of s)) where
  module _ (a e n : ℕ) (stands : LineStands s here a e n) where
    pub turn_inside : r < count_lf s
    turn_inside = omega (arith, line_inside s (lines_of s) here r left a e n stands, lines_all s)

    -- where the field begins fits a number
    pub turn_fits : (v : ℕ) → v ≤ length (part s (bounds a e)) → length s ≤ max_bytes → a + v < 2 ^ 31
    turn_fits v h m = omega (arith, part_length s a e (omega (arith, stands.before, stands.within)), stands.ordered, stands.before, stands.within)

    pub turn_noted : (p v : ℕ) (t u : List ℤ) → (r + 1) * 1 ≤ length t → v ≡ (field_at (part s (bounds a e)) p).start → u ≡ set t (r * 1 + 0) (pos (a + v))
        → Noted p s r t → Noted p s (r + 1) u
    unfolding start_in
    turn_noted p v t u room f e' before k x y = rw e' (go (alike k r))
      where
        here_is : get_or (lines_of s) r no_line ≡ record { start = a; text = part s (bounds a e) }
        here_is = line_here s (lines_of s) here r left a e n stands no_line

        go : Alike k r → cell_at 0 (set t (r * 1 + 0) (pos (a + v))) 1 k ≡ start_in p (get_or (lines_of s) k no_line)
        go (yes q) = rw (q, here_is, ← f) (put_here t 1 r (pos (a + v)) (omega arith) room)
        go (no q) = put_other t 1 r (pos (a + v)) (omega arith) k q ∙ before k x (omega (arith, y, q))

  pub turn_past : lines_from s here ≡ [] → r ≤ count_lf s → r ≡ count_lf s
  turn_past none h = omega (arith, line_past s (lines_of s) here r left none, lines_all s)

-- the column of a file's own id, as its header tells it
pub own_is : (f : ℕ) (s known : List ℕ) (next k : ℕ) → Heading f s known next → k ≡ id_column f → get_or known k 0 ≡ own_column f s
unfolding own_column
own_is f s known next k h e = rw e (h.columns (id_column f))

pub own_starts : (f : ℕ) (s known : List ℕ) (next p n : ℕ) (t : List ℤ) → Heading f s known next → n + 1 ≡ count_lf s
    → p ≡ own_column f s → Noted p s (n + 1) t → Ids f s n t
unfolding id_start
own_starts f s known next p n t h c q noted = record { count = c; starts = λ r a b. rw (← q) (noted r a (omega arith)) }
