-- Laws of a filled table: how long it is, and which number stands where.
use Prim.Native.Nat.{ℕ, zero, suc, ◌+◌, ◌*◌, ◌-◌, ◌≤◌, ◌<◌}
use native.Mathlib.Omega.{arith}
use native.Mathlib.Nat.{add-mul, mul_comm, mul-le-mul_right}
use mathlib.Core.Path.{◌≡◌, refl, ◌∙◌}
use mathlib.Core.List.{List, [], ◌∷◌, ◌++◌, append_assoc, append-nil, map}
use mathlib.Core.Bool.{Bool, true, false, cond, not}
use lib.IntN.{ℤ, pos}
use lib.ListN.{length, get_or, drop, replicate, length-append, length-drop, length-map, length-replicate, get_or-replicate, get_or-append}
use lib.Seq.{get_or-append-add, get_or-drop, drop_at}
use lib.Dec.{eqb}
use borrow.Author.Tests.{eq-eqb, ne_eqb, eqb-true, eqb-false}
use Rattle.meaning.specs.Lists.{same, empty, flat, laid}
use Rattle.meaning.specs.Bytes.{Line, leading_mark, start_of, count_lf, cuts, line_of, lines_from, lines_of}
use Rattle.meaning.specs.Columns.{places, header_of, row_of, rows_of}
use Rattle.meaning.specs.Tables.{Feed, stop_numbers, route_numbers, service_numbers, trip_numbers, time_numbers, exception_numbers, widths, width_of, numbers_of, id_place, record_of, zeroth, records_of, filled}
use Rattle.meaning.specs.Refusals.{may_lack, ended, rule4}
use Rattle.meaning.specs.Promises.{no_line}
use Rattle.meaning.proofs.ListLaws.{both}
use Rattle.meaning.proofs.Laws.{get_d_map_in}

-- ---- records of one width, laid one after the other

module _ {A B : Type 0} (w : ℕ) (g : B → List A) (wide : (b : B) → length (g b) ≡ w) where
  flat_length : (bs : List B) → length (flat (map g bs)) ≡ length bs * w
  unfolding flat
  flat_length [] = omega arith
  flat_length (b ∷ bs) = length-append (g b) (flat (map g bs)) ∙ omega (arith, flat_length bs, wide b)

  -- number j of record k
  flat_at :
      (bs : List B) (rest : List A) (k j : ℕ) (d : B) (e : A)
      → k < length bs
      → j < w
      → get_or (flat (map g bs) ++ rest) (k * w + j) e ≡ get_or (g (get_or bs k d)) j e
  unfolding flat
  flat_at [] rest k j d e h l = absurd (omega arith)
  flat_at (b ∷ bs) rest zero j d e h l =
      let z : zero * w + j ≡ j = omega arith in
      rw (z, append_assoc) (get_or-append (g b) (flat (map g bs) ++ rest) e j (omega (arith, wide b)))
  flat_at (b ∷ bs) rest (suc k) j d e h l =
      let z : suc k * w + j ≡ length (g b) + (k * w + j) = omega (arith, wide b) in
      rw (z, append_assoc, get_or-append-add) (flat_at bs rest k j d e (omega arith) l)

pub flat_append : {A : Type 0} (xs ys : List (List A)) → flat (xs ++ ys) ≡ flat xs ++ flat ys
unfolding flat
flat_append [] ys = refl
flat_append (x ∷ xs) ys = rw (flat_append xs ys, append_assoc)

pub laid_length : {A : Type 0} (xs lent : List A) → length xs ≤ length lent → length (laid xs lent) ≡ length lent
unfolding laid
laid_length xs lent h = simp (length-append, length-drop) (omega arith)

-- ---- lines

-- each LF ends a line
pub cuts_count : (st at : ℕ) (s : List ℕ) → length (cuts st at s) ≡ count_lf s
unfolding cuts count_lf
cuts_count st at [] = refl
cuts_count st at (b ∷ r) = go (eqb b 10) (cuts_count (at + 1) (at + 1) r) (cuts_count st (at + 1) r)
  where
    go : (t : Bool) → length (cuts (at + 1) (at + 1) r) ≡ count_lf r → length (cuts st (at + 1) r) ≡ count_lf r
        → length (cond t (record { start = st; end = at } ∷ cuts (at + 1) (at + 1) r) (cuts st (at + 1) r)) ≡ cond t (count_lf r + 1) (count_lf r)
    go true e k = omega arith
    go false e k = k

count_tail : (b : ℕ) (r : List ℕ) → count_lf r ≤ count_lf (b ∷ r)
unfolding count_lf
count_tail b r = go (eqb b 10)
  where
    go : (t : Bool) → count_lf r ≤ cond t (count_lf r + 1) (count_lf r)
    go true = omega arith
    go false = omega arith

count_drop : (n : ℕ) (s : List ℕ) → count_lf (drop n s) ≤ count_lf s
count_drop zero s = omega arith
count_drop (suc n) [] = omega arith
count_drop (suc n) (b ∷ r) = omega (arith, count_drop n r, count_tail b r)

-- a file has no more lines than LF bytes
lines_few : (s : List ℕ) → length (lines_of s) ≤ count_lf s
unfolding lines_of lines_from
lines_few s =
    let cs = cuts (start_of s) (start_of s) (drop (start_of s) s) in
    omega (arith, length-map cs (line_of s), cuts_count (start_of s) (start_of s) (drop (start_of s) s), count_drop (start_of s) s)

-- an LF counts
pub count_some : (s : List ℕ) (i : ℕ) → i < length s → get_or s i 0 ≡ 10 → 1 ≤ count_lf s
unfolding count_lf
count_some [] i h e = absurd (omega arith)
count_some (b ∷ r) zero h e = rw (eq-eqb b 10 e) (omega arith)
count_some (b ∷ r) (suc i) h e = omega (arith, count_some r i (omega arith) e, count_tail b r)

-- a file that isn't empty and that rule 4 lets pass has an LF
pub ended_count : (files : List (List ℕ)) (f : ℕ) (s : List ℕ) (room : ℕ) → rule4 files f s room ≡ false → 0 < length s → 1 ≤ count_lf s
unfolding rule4 empty ended
ended_count files f s room p h = go (eqb (get_or s (length s - 1) 0) 10) refl (rw (ne_eqb (length s) 0 (λ e. omega arith)) at p)
  where
    go : (u : Bool) → eqb (get_or s (length s - 1) 0) 10 ≡ u → not u ≡ false → 1 ≤ count_lf s
    go false q z = both true refl z
    go true q z = count_some s (length s - 1) (omega arith) (eqb-true _ 10 q)

-- a file that must be supplied and that rule 4 lets pass isn't empty
pub supplied : (files : List (List ℕ)) (f : ℕ) (s : List ℕ) (room : ℕ) → rule4 files f s room ≡ false → may_lack files f ≡ false → 0 < length s
unfolding rule4 empty
supplied files f s room p m = go (eqb (length s) 0) refl p
  where
    go : (t : Bool) → eqb (length s) 0 ≡ t → cond t (not (may_lack files f)) (not (ended s)) ≡ false → 0 < length s
    go true t z = both (not (may_lack files f)) (rw m) z
    go false t z = let n : length s ≡ 0 → ⊥ = eqb-false (length s) 0 t in omega arith

-- ---- a file's table

-- a record has as many numbers as its file's width says
pub record_wide : (f : ℕ) (w : Feed) (ps : List ℕ) (l : Line) → 0 < f → f < 7 → length (record_of f w ps l) ≡ width_of f
unfolding record_of id_place numbers_of stop_numbers route_numbers service_numbers trip_numbers time_numbers exception_numbers width_of widths
record_wide zero w ps l a b = absurd (omega arith)
record_wide (suc zero) w ps l a b = refl
record_wide (suc (suc zero)) w ps l a b = refl
record_wide (suc (suc (suc zero))) w ps l a b = refl
record_wide (suc (suc (suc (suc zero)))) w ps l a b = refl
record_wide (suc (suc (suc (suc (suc zero))))) w ps l a b = refl
record_wide (suc (suc (suc (suc (suc (suc zero)))))) w ps l a b = refl
record_wide (suc (suc (suc (suc (suc (suc (suc f))))))) w ps l a b = absurd (omega arith)

-- there is a row for each line after the header
pub rows_count : (f : ℕ) (s : List ℕ) → length (rows_of f s) ≡ length (lines_of s) - 1
unfolding rows_of
rows_count f s = simp (length-map, length-drop) refl

module _ (f : ℕ) (low : 1 ≤ f) (high : f ≤ 6) (w : Feed) (s : List ℕ) (lent : List ℤ) where
  abbrev columns : List ℕ
  columns = places f (header_of (lines_of s))

  abbrev zeros : List ℤ
  zeros = flat (zeroth f (lines_of s))

  abbrev body : List ℤ
  body = flat (map (record_of f w columns) (drop 1 (lines_of s)))

  wide : (l : Line) → length (record_of f w columns l) ≡ width_of f
  wide l = record_wide f w columns l low (omega arith)

  -- record 0 stands there, all zero, where there is a line
  zeros_are : 0 < length (lines_of s) → zeros ≡ replicate (width_of f) (pos 0)
  unfolding flat
  zeros_are = go (lines_of s)
    where
      go : (ls : List Line) → 0 < length ls → flat (zeroth f ls) ≡ replicate (width_of f) (pos 0)
      go [] h = absurd (omega arith)
      go (l ∷ ls) h = append-nil _

  -- a table is a record for each line, the header's all zero, and what was lent behind them
  written_count : length (zeros ++ body) ≡ length (lines_of s) * width_of f
  unfolding flat
  written_count = go (lines_of s)
    where
      go : (ls : List Line) → length (flat (zeroth f ls) ++ flat (map (record_of f w columns) (drop 1 ls))) ≡ length ls * width_of f
      go [] = omega arith
      go (l ∷ ls) =
          rw append-nil
          (length-append (replicate (width_of f) (pos 0)) (flat (map (record_of f w columns) ls))
          ∙ omega (arith, length-replicate (width_of f) (pos 0), flat_length (width_of f) (record_of f w columns) wide ls))

  table_is : filled f w s lent ≡ (zeros ++ body) ++ drop (length (lines_of s) * width_of f) lent
  unfolding filled records_of laid
  table_is = rw (flat_append (zeroth f (lines_of s)) (map (record_of f w columns) (drop 1 (lines_of s))), written_count)

  pub zero_held : 0 < length (lines_of s) → (j : ℕ) → j < width_of f → (d : ℤ) → get_or (filled f w s lent) j d ≡ pos 0
  zero_held some j h d =
      let k : j < length (replicate (width_of f) (pos 0)) = omega (arith, length-replicate (width_of f) (pos 0)) in
      rw (table_is, zeros_are some, append_assoc)
      (get_or-append (replicate (width_of f) (pos 0)) (body ++ drop (length (lines_of s) * width_of f) lent) d j k ∙ get_or-replicate (width_of f) j (pos 0) d h)

  pub rest_held : drop (length (lines_of s) * width_of f) (filled f w s lent) ≡ drop (length (lines_of s) * width_of f) lent
  rest_held = rw table_is (drop_at (zeros ++ body) (drop (length (lines_of s) * width_of f) lent) (length (lines_of s) * width_of f) written_count)

  pub length_held : width_of f * count_lf s ≤ length lent → length (filled f w s lent) ≡ length lent
  unfolding filled records_of
  length_held k =
      let m : length (lines_of s) * width_of f ≤ count_lf s * width_of f = mul-le-mul_right (width_of f) (lines_few s) in
      rw (flat_append (zeroth f (lines_of s)) (map (record_of f w columns) (drop 1 (lines_of s))))
      (laid_length (zeros ++ body) lent (omega (arith, written_count, mul_comm (count_lf s) (width_of f))))

  -- number j of the record of row i
  pub number_held :
      (i j : ℕ)
      → i < length (rows_of f s)
      → j < width_of f
      → get_or (filled f w s lent) ((i + 1) * width_of f + j) (pos 0) ≡ get_or (record_of f w columns (get_or (lines_of s) (i + 1) no_line)) j (pos 0)
  number_held i j h l =
      let some : 0 < length (lines_of s) = omega (arith, rows_count f s) in
      let z : (i + 1) * width_of f + j ≡ length (replicate (width_of f) (pos 0)) + (i * width_of f + j) = omega (arith, length-replicate (width_of f) (pos 0), add-mul i 1 (width_of f)) in
      let one : 1 + i ≡ i + 1 = omega arith in
      rw (table_is, zeros_are some, z, append_assoc, get_or-append-add)
      (flat_at (width_of f) (record_of f w columns) wide (drop 1 (lines_of s)) (drop (length (lines_of s) * width_of f) lent) i j no_line (pos 0) (omega (arith, rows_count f s, length-drop 1 (lines_of s))) l
      ∙ rw (get_or-drop 1 (lines_of s) i no_line, one))

  pub row_held : (i : ℕ) → i < length (rows_of f s) → get_or (rows_of f s) i [] ≡ row_of columns (get_or (lines_of s) (i + 1) no_line).text
  unfolding rows_of
  row_held i h =
      let one : 1 + i ≡ i + 1 = omega arith in
      get_d_map_in (λ l. row_of columns l.text) (drop 1 (lines_of s)) i no_line [] (omega (arith, rows_count f s, length-drop 1 (lines_of s)))
      ∙ rw (get_or-drop 1 (lines_of s) i no_line, one)

-- a file that isn't supplied has no line, no row, and leaves its table as lent
pub no_lines : lines_of [] ≡ []
unfolding lines_of lines_from start_of leading_mark cuts same
no_lines = refl

pub no_rows : (f : ℕ) → rows_of f [] ≡ []
unfolding rows_of
no_rows f = rw no_lines

pub unsupplied : (f : ℕ) (w : Feed) (lent : List ℤ) → filled f w [] lent ≡ lent
unfolding filled records_of laid flat
unsupplied f w lent = rw no_lines
