-- Laws of a walk along the lines of a file: the header, the line that the walk has come to, and what is left.
use mathlib.Core.Path.{◌≡◌, sym, ap, ◌∙◌}
use mathlib.Core.List.{List, [], ◌∷◌}
use Prim.Native.Nat.{ℕ, suc, ◌+◌, ◌≤◌, ◌<◌}
use native.Mathlib.Omega.{arith}
use native.Mathlib.Nat.{add-zero}
use lib.ListN.{length, get_or, drop, length-drop}
use lib.Seq.{get_or-drop, drop-drop}
use Rattle.meaning.specs.Bytes.{Line, bounds, part, values, count_lf, start_of, lines_from, lines_of}
use Rattle.meaning.specs.Columns.{header_of}
use Rattle.text.specs.Lines.{LineStands}
use Rattle.text.proofs.Lines.{lines_all}

-- a walk that begins where the first line does
module _ (s : List ℕ) (at : ℕ) (starts : at ≡ start_of s) where
  module _ (a e n : ℕ) (stands : LineStands s at a e n) where
    header_first : lines_of s ≡ record { start = a; text = part s (bounds a e) } ∷ lines_from s n
    unfolding lines_of
    header_first = rw (← starts) stands.lines

    pub header_is : values (part s (bounds a e)) ≡ header_of (lines_of s)
    unfolding header_of
    header_is = rw header_first

    pub header_past : lines_from s n ≡ drop 1 (lines_of s)
    header_past = rw header_first

  pub no_header : lines_from s at ≡ [] → count_lf s ≡ 0
  unfolding lines_of
  no_header none = sym (lines_all s) ∙ rw (← starts, none)

-- a walk that has come to byte `at`, where line i of some lines begins, counted from 0
module _ (s : List ℕ) (lines : List Line) (at i : ℕ) (left : lines_from s at ≡ drop i lines) where
  module _ (a e n : ℕ) (stands : LineStands s at a e n) where
    begins : drop i lines ≡ record { start = a; text = part s (bounds a e) } ∷ lines_from s n
    begins = sym left ∙ stands.lines

    pub line_inside : i < length lines
    line_inside =
        let k : length (drop i lines) ≡ suc (length (lines_from s n)) = ap length begins in
        omega (arith, length-drop i lines)

    pub line_here : (d : Line) → get_or lines i d ≡ record { start = a; text = part s (bounds a e) }
    line_here d = ap (λ k. get_or lines k d) (sym (add-zero i)) ∙ sym (get_or-drop i lines 0 d) ∙ ap (λ l. get_or l 0 d) begins

    pub line_next : lines_from s n ≡ drop (i + 1) lines
    line_next = sym (ap (drop 1) begins) ∙ drop-drop 1 i lines

  pub line_past : lines_from s at ≡ [] → length lines ≤ i
  line_past none =
      let k : length (drop i lines) ≡ 0 = ap length (sym left ∙ none) in
      omega (arith, length-drop i lines)
