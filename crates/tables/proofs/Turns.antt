-- A walk along the lines of a file that writes a record for each.
use mathlib.Core.Path.{◌≡◌, ap, ◌∙◌}
use mathlib.Core.Bool.{Bool, true, false, cond}
use mathlib.Core.List.{List, [], ◌∷◌, map}
use Prim.Native.Nat.{ℕ, zero, suc, ◌+◌, ◌*◌, ◌-◌, ◌≤◌, ◌<◌}
use native.Mathlib.Omega.{arith}
use native.Mathlib.Nat.{mul-le-mul_left, mul-le-mul_right, mul_comm}
use lib.Dec.{eqb}
use lib.IntN.{ℤ, pos}
use lib.ListN.{length, get_or, take, drop, replicate, length-drop, length-map, length-replicate}
use lib.Seq.{get_or-drop, take_all}
use Rattle.meaning.specs.Lists.{flat, laid}
use Rattle.meaning.specs.Bytes.{Line, bounds, part, count_lf, lines_from, lines_of}
use Rattle.meaning.specs.Tables.{widths, width_of}
use Rattle.text.specs.Lines.{LineStands}
use Rattle.text.proofs.Laws.{part_length}
use Rattle.text.proofs.Lines.{lines_all}
use Rattle.text.proofs.Walk.{line_inside, line_here, line_past}
use Rattle.rows.specs.Cells.{put_at}
use Rattle.meaning.proofs.Laws.{get_d_map_in}
use Rattle.rows.proofs.Records.{Wide, wide_map, rows_first, rows_turn}
use Rattle.records.specs.Line.{line}
use Rattle.tables.specs.Fill.{Room}
use Rattle.tables.specs.Walk.{tabled}

pub three_wide : (f : ℕ) → 1 ≤ f → f ≤ 6 → 2 < width_of f
unfolding width_of widths
three_wide zero h k = absurd (omega arith)
three_wide (suc zero) h k = omega arith
three_wide (suc (suc zero)) h k = omega arith
three_wide (suc (suc (suc zero))) h k = omega arith
three_wide (suc (suc (suc (suc zero)))) h k = omega arith
three_wide (suc (suc (suc (suc (suc zero))))) h k = omega arith
three_wide (suc (suc (suc (suc (suc (suc zero)))))) h k = omega arith
three_wide (suc (suc (suc (suc (suc (suc (suc f))))))) h k = absurd (omega arith)

pub eight_wide : (f : ℕ) → width_of f ≤ 8
unfolding width_of widths
eight_wide zero = omega arith
eight_wide (suc zero) = omega arith
eight_wide (suc (suc zero)) = omega arith
eight_wide (suc (suc (suc zero))) = omega arith
eight_wide (suc (suc (suc (suc zero)))) = omega arith
eight_wide (suc (suc (suc (suc (suc zero))))) = omega arith
eight_wide (suc (suc (suc (suc (suc (suc zero)))))) = omega arith
eight_wide (suc (suc (suc (suc (suc (suc (suc f))))))) = omega arith

-- what g makes of each line, each as wide as the file's records
module _ (f : ℕ) (s : List ℕ) (g : Line → List ℤ) (long : (x : Line) → length (g x) ≡ width_of f) where
  pub wide : Wide (width_of f) (tabled f g s)
  unfolding tabled
  wide = (length-replicate (width_of f) (pos 0), wide_map (width_of f) g (drop 1 (lines_of s)) long)

  pub table_length : 1 ≤ count_lf s → length (tabled f g s) ≡ count_lf s
  unfolding tabled
  table_length h =
      let e : length (map g (drop 1 (lines_of s))) ≡ length (lines_of s) - 1 =
      length-map (drop 1 (lines_of s)) g ∙ length-drop 1 (lines_of s) in
      omega (arith, lines_all s)

  -- record r is that of line r, counted from 0
  pub table_at : (r : ℕ) (d : Line) → 1 ≤ r → r < count_lf s → get_or (tabled f g s) r [] ≡ g (get_or (lines_of s) r d)
  unfolding tabled
  table_at zero d h k = absurd (omega arith)
  table_at (suc r) d h k =
      let i : r < length (drop 1 (lines_of s)) = omega (arith, length-drop 1 (lines_of s), lines_all s) in
      let one : 1 + r ≡ suc r = omega arith in
      get_d_map_in g (drop 1 (lines_of s)) r d [] i ∙ ap g (get_or-drop 1 (lines_of s) r d ∙ ap (λ (j : ℕ). get_or (lines_of s) j d) one)

-- a walk that has come to byte `at`, where line r begins
module _ (s : List ℕ) (at r : ℕ) (left : lines_from s at ≡ drop r (lines_of s)) where
  module _ (a e n : ℕ) (stands : LineStands s at a e n) where
    pub walk_inside : r < count_lf s
    walk_inside = omega (arith, line_inside s (lines_of s) at r left a e n stands, lines_all s)

    pub walk_room : (width room : ℕ) → width * count_lf s ≤ room → r * width + width ≤ room
    walk_room width room h =
        let m : (r + 1) * width ≤ count_lf s * width = mul-le-mul_right {m = r + 1} {n = count_lf s} width (omega (arith, walk_inside)) in
        let c : count_lf s * width ≡ width * count_lf s = mul_comm (count_lf s) width in
        omega arith

    pub walk_count : (width room : ℕ) → 1 ≤ width → width * count_lf s ≤ room → r < room
    walk_count width room h k =
        let m : 1 * count_lf s ≤ width * count_lf s = mul-le-mul_right {m = 1} {n = width} (count_lf s) h in
        omega (arith, walk_inside)

    pub walk_size : (n : ℕ) → length s ≤ n → a + length (part s (bounds a e)) ≤ n
    walk_size n h = omega (arith, part_length s a e (omega (arith, stands.before, stands.within)), stands.ordered, stands.before, stands.within)

    module _ (f : ℕ) (g : Line → List ℤ) (long : (x : Line) → length (g x) ≡ width_of f) where
      -- the line's record is written after those before it
      pub walk_turn :
          (t t' t₀ : List ℤ)
          → 1 ≤ r
          → t ≡ laid (flat (take r (tabled f g s))) t₀
          → t' ≡ put_at t (r * width_of f) (g (line a (part s (bounds a e))))
          → t' ≡ laid (flat (take (r + 1) (tabled f g s))) t₀
      walk_turn t t' t₀ h inv p =
          let x = line a (part s (bounds a e)) in
          let i : r < length (tabled f g s) = omega (arith, walk_inside, table_length f s g long (omega (arith, walk_inside))) in
          let k : get_or (tabled f g s) r [] ≡ g x = table_at f s g long r x h walk_inside ∙ ap g (line_here s (lines_of s) at r left a e n stands x) in
          p ∙ rw (← k) (rows_turn (width_of f) (tabled f g s) (wide f s g long) t t₀ r i inv)

  -- no line is left
  pub walk_past : lines_from s at ≡ [] → count_lf s ≤ r
  walk_past e = omega (arith, line_past s (lines_of s) at r left e, lines_all s)

  pub walk_end :
      (f : ℕ) (g : Line → List ℤ)
      → ((x : Line) → length (g x) ≡ width_of f)
      → (t t₀ : List ℤ)
      → 1 ≤ count_lf s
      → lines_from s at ≡ []
      → t ≡ laid (flat (take r (tabled f g s))) t₀
      → t ≡ laid (flat (tabled f g s)) t₀
  walk_end f g long t t₀ some e inv =
      let h : length (tabled f g s) ≤ r = omega (arith, walk_past e, table_length f s g long some) in
      inv ∙ rw (take_all r (tabled f g s) h)

-- record 0 is written
pub walk_first :
    (f : ℕ) (g : Line → List ℤ) (s : List ℕ) (t t₀ : List ℤ)
    → t ≡ laid (replicate (width_of f) (pos 0)) t₀
    → t ≡ laid (flat (take 1 (tabled f g s))) t₀
unfolding tabled
walk_first f g s t t₀ e = e ∙ rows_first (replicate (width_of f) (pos 0)) (map g (drop 1 (lines_of s))) t₀

-- room for record 0
pub first_room : (f : ℕ) (s : List ℕ) (t : List ℤ) (width : ℕ) → Room f s t → width ≡ width_of f → width ≤ length t
first_room f s t width h e =
    let m : width_of f * 1 ≤ width_of f * count_lf s = mul-le-mul_left {m = 1} {n = count_lf s} (width_of f) h.lines in
    omega (arith, h.room)

-- a file has no more lines than bytes
pub count_length : (s : List ℕ) → count_lf s ≤ length s
unfolding count_lf
count_length [] = omega arith
count_length (b ∷ r) = go (eqb b 10) (count_length r)
  where
    go : (t : Bool) → count_lf r ≤ length r → cond t (count_lf r + 1) (count_lf r) ≤ suc (length r)
    go true h = omega arith
    go false h = omega arith
