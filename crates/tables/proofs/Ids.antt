-- A table that was laid for a file holds its ids, and its numbers are those of the records.
use Rattle.std.specs.Prelude.{Option, Some, None}
use mathlib.Core.Path.{◌≡◌, refl, sym, ap, ◌∙◌}
use mathlib.Core.List.{List, [], map}
use Prim.Native.Nat.{ℕ, zero, suc, ◌+◌, ◌*◌, ◌-◌, ◌≤◌, ◌<◌}
use native.Mathlib.Nat.{add-zero}
use native.Mathlib.Omega.{arith}
use lib.IntN.{ℤ, pos}
use lib.ListN.{length, get_or, drop, length-append, length-drop, length-map}
use lib.Seq.{get_or-drop}
use Rattle.meaning.specs.Lists.{flat, laid}
use Rattle.meaning.specs.Bytes.{Line, bounds, part, value, count_lf, lines_from, lines_of, start_of}
use Rattle.meaning.specs.Columns.{Row, places, header_of, field_at, cell, row_of, rows_of}
use Rattle.meaning.specs.Tables.{under, width_of, id_column}
use Rattle.meaning.specs.declared.Bounds.{Bounds}
use Rattle.text.specs.Lines.{LineStands, line_at}
use Rattle.text.proofs.Laws.{part_length, part_part}
use Rattle.text.proofs.Lines.{lines_all, line_found, line_none}
use Rattle.text.proofs.Fields.{field_inside}
use Rattle.meaning.proofs.Laws.{get_d_map_in}
use Rattle.rows.proofs.Records.{flat_length, laid_cell}
use Rattle.meaning.proofs.Columns.{row_at}
use Rattle.seeking.specs.First.{IdAt, Held}
use Rattle.records.specs.Line.{line}
use Rattle.tables.specs.Walk.{place_of, tabled}
use Rattle.text.proofs.Walk.{line_here}
use Rattle.tables.proofs.Turns.{three_wide, wide, table_length, table_at, walk_inside}
use Rattle.tables.proofs.Written.{IdFirst}

-- a line lies inside its file
pub record LineIn (s : List ℕ) (x : Line) : Type 0 where
  pub end : ℕ
  pub ordered : x.start ≤ end
  pub within : end ≤ length s
  pub text : x.text ≡ part s (bounds x.start end)

line_in : (s : List ℕ) (at a e n : ℕ) → LineStands s at a e n → LineIn s (line a (part s (bounds a e)))
line_in s at a e n h = record { end = e; ordered = h.ordered; within = omega (arith, h.before, h.within); text = refl }

none_in : {s : List ℕ} {x : Line} (at j : ℕ) → lines_from s at ≡ [] → j < length (lines_from s at) → LineIn s x
none_in {s} {x} at j e h = let z : length (lines_from s at) ≡ 0 = rw e in absurd (omega arith)

pub lines_in_lem : (s : List ℕ) (at j : ℕ) (d : Line) → j < length (lines_from s at) → LineIn s (get_or (lines_from s at) j d)
lines_in_lem s at zero d h = go (line_at s at) refl
  where
    go : (k : Option (Bounds × ℕ)) → line_at s at ≡ k → LineIn s (get_or (lines_from s at) zero d)
    go (Some (b, n)) p = let q = line_found s at b.start b.end n p in rw q.lines (line_in s at b.start b.end n q)
    go None p = none_in at zero (line_none s at p) h
lines_in_lem s at (suc j) d h = go (line_at s at) refl (λ n q. lines_in_lem s n j d q)
  where
    go : (k : Option (Bounds × ℕ)) → line_at s at ≡ k → ((n : ℕ) → j < length (lines_from s n) → LineIn s (get_or (lines_from s n) j d)) → LineIn s (get_or (lines_from s at) (suc j) d)
    go (Some (b, n)) p ih =
        let q = line_found s at b.start b.end n p in
        let m : length (lines_from s at) ≡ suc (length (lines_from s n)) = rw q.lines in
        rw q.lines (ih n (omega arith))
    go None p ih = none_in at (suc j) (line_none s at p) h

-- a field of a line, found by its place in the file
pub place_value :
    (s : List ℕ) (x : Line) (p : ℕ)
    → LineIn s x
    → (x.start + (field_at x.text p).end ≤ length s)
    × (value (part s (place_of p x)) ≡ cell x.text p)
unfolding cell
place_value s x p h =
    let b = field_at x.text p in
    let i = field_inside x.text p in
    let m : length x.text ≡ h.end - x.start = rw h.text (part_length s x.start h.end h.within) in
    let k : x.start + b.end ≤ h.end = omega (arith, i.within, h.ordered) in
    let e : part x.text b ≡ part s (place_of p x) =
    ap (λ (l : List ℕ). part l b) h.text ∙ part_part s x.start h.end b.start b.end k in
    (omega (arith, h.within), rw e)

-- as many rows as lines after the header
pub rows_count : (f : ℕ) (s : List ℕ) → length (rows_of f s) ≡ count_lf s - 1
unfolding rows_of
rows_count f s =
    length-map (drop 1 (lines_of s)) (λ (l : Line). row_of (places f (header_of (lines_of s))) l.text)
    ∙ length-drop 1 (lines_of s)
    ∙ ap (λ (n : ℕ). n - 1) (lines_all s)

-- row k is that of line k + 1, counted from 0
pub row_of_line :
    (f : ℕ) (s : List ℕ) (k : ℕ) (d : Line)
    → k + 1 < count_lf s
    → get_or (rows_of f s) k [] ≡ row_of (places f (header_of (lines_of s))) (get_or (lines_of s) (k + 1) d).text
unfolding rows_of
row_of_line f s k d h =
    let g : Line → Row = λ l. row_of (places f (header_of (lines_of s))) l.text in
    let i : k < length (drop 1 (lines_of s)) = omega (arith, length-drop 1 (lines_of s), lines_all s) in
    let one : 1 + k ≡ k + 1 = omega arith in
    get_d_map_in g (drop 1 (lines_of s)) k d [] i ∙ ap g (get_or-drop 1 (lines_of s) k d ∙ ap (λ (j : ℕ). get_or (lines_of s) j d) one)

-- the row of the line that a walk has come to
pub row_here :
    (f : ℕ) (s : List ℕ) (at r : ℕ) (left : lines_from s at ≡ drop r (lines_of s)) (a e n : ℕ) (stands : LineStands s at a e n)
    → 1 ≤ r
    → row_of (places f (header_of (lines_of s))) (part s (bounds a e)) ≡ get_or (rows_of f s) (r - 1) []
row_here f s at r left a e n stands h =
    let x : Line = line a (part s (bounds a e)) in
    let g : r - 1 + 1 ≡ r = omega arith in
    let i : r - 1 + 1 < count_lf s = rw g (walk_inside s at r left a e n stands) in
    sym
    (row_of_line f s (r - 1) x i
    ∙ ap (λ (k : ℕ). row_of (places f (header_of (lines_of s))) (get_or (lines_of s) k x).text) g
    ∙ ap (λ (y : Line). row_of (places f (header_of (lines_of s))) y.text) (line_here s (lines_of s) at r left a e n stands x))

-- a table that was laid for a file
module _ (f : ℕ) (s : List ℕ) (lent : List ℤ) (some : 1 ≤ count_lf s) (g : Line → List ℤ) (long : (x : Line) → length (g x) ≡ width_of f) where
  -- number j of record r
  pub cell_of :
      (r j : ℕ) (d : Line)
      → 1 ≤ r
      → r < count_lf s
      → j < width_of f
      → get_or (laid (flat (tabled f g s)) lent) (r * width_of f + j) (pos 0) ≡ get_or (g (get_or (lines_of s) r d)) j (pos 0)
  cell_of r j d h k l =
      laid_cell (width_of f) (tabled f g s) lent r j (pos 0) (wide f s g long) (omega (arith, table_length f s g long some)) l
      ∙ ap (λ (v : List ℤ). get_or v j (pos 0)) (table_at f s g long r d h k)

  laid_count : length (flat (tabled f g s)) ≡ count_lf s * width_of f
  laid_count = flat_length (width_of f) (tabled f g s) (wide f s g long) ∙ rw (table_length f s g long some)

  module _ (low : 1 ≤ f) (high : f ≤ 6) (first : IdFirst f (places f (header_of (lines_of s))) g) where
    column : ℕ
    column = get_or (places f (header_of (lines_of s))) (id_column f) 0

    at_line : ℕ → Line
    at_line k = get_or (lines_of s) (k + 1) (line 0 [])

    table : List ℤ
    table = laid (flat (tabled f g s)) lent

    module _ (k : ℕ) (inside : k + 1 < count_lf s) where
      id_start_lem : get_or table ((k + 1) * width_of f) (pos 0) ≡ pos (place_of column (at_line k)).start
      unfolding table column at_line
      id_start_lem =
          let j : 0 < width_of f = omega (arith, three_wide f low high) in
          rw (add-zero ((k + 1) * width_of f)) at (cell_of (k + 1) 0 (line 0 []) (omega arith) inside j) ∙ (first (at_line k)).0

      id_end : get_or table ((k + 1) * width_of f + 1) (pos 0) ≡ pos (place_of column (at_line k)).end
      unfolding table column at_line
      id_end =
          cell_of (k + 1) 1 (line 0 []) (omega arith) inside (omega (arith, three_wide f low high)) ∙ (first (at_line k)).1

      id_line : LineIn s (at_line k)
      unfolding at_line lines_of
      id_line = lines_in_lem s (start_of s) (k + 1) (line 0 []) (omega (arith, lines_all s))

      id_value : value (part s (place_of column (at_line k))) ≡ under (id_column f) (get_or (rows_of f s) k [])
      unfolding column at_line
      id_value =
          (place_value s (at_line k) column id_line).1
          ∙ sym (row_at (places f (header_of (lines_of s))) (at_line k).text (id_column f))
          ∙ ap (under (id_column f)) (sym (row_of_line f s k (line 0 []) inside))

      id_at : IdAt s table ((k + 1) * width_of f) (under (id_column f) (get_or (rows_of f s) k []))
      id_at =
          let i = field_inside (at_line k).text column in
          record {
            ordered = rw (id_start_lem, id_end) (omega (arith, i.ordered));
            inside = rw id_end (place_value s (at_line k) column id_line).0;
            equal = rw (id_start_lem, id_end) id_value;
          }

    -- what the resolver asks of a table
    pub ids_laid : Held s (laid (flat (tabled f g s)) lent) (width_of f) (map (under (id_column f)) (rows_of f s))
    unfolding table laid
    ids_laid =
        let n : length (map (under (id_column f)) (rows_of f s)) ≡ count_lf s - 1 =
        length-map (rows_of f s) (under (id_column f)) ∙ rows_count f s in
        let m : length (map (under (id_column f)) (rows_of f s)) + 1 ≡ count_lf s = omega arith in
        record {
          room = rw m (omega (arith, laid_count, length-append (flat (tabled f g s)) (drop (length (flat (tabled f g s))) lent)));
          at = λ k h.
              rw (get_d_map_in (under (id_column f)) (rows_of f s) k [] [] (omega (arith, rows_count f s))) (id_at k (omega arith));
        }
