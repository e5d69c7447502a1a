-- Say which column: each sentence of document 02's E7.
use Prim.Native.Nat.{ℕ, ◌+◌, ◌-◌, ◌≤◌, ◌<◌}
use native.Mathlib.Omega.{arith}
use native.Mathlib.Decide.{ℕ_discrete}
use mathlib.Core.Path.{◌≡◌, refl, sym, ap, ◌∙◌}
use mathlib.Core.Logic.{inr, ⊎_elim}
use mathlib.Core.Bool.{Bool, true, false, cond, not}
use mathlib.Core.List.Memᴰ
use mathlib.Core.List.{List, [], ◌∷◌, map}
use lib.IntN.{ℤ}
use lib.ListN.{length, get_or}
use lib.Dec.{eqb}
use borrow.Author.Tests.{eq-eqb, ne_eqb, eqb-true, not-false}
use Rattle.meaning.specs.declared.Column.{Column}
use Rattle.meaning.specs.declared.Refusal.{Refusal}
use Rattle.meaning.specs.Lists.{same, place, find, find_again}
use Rattle.meaning.specs.Bytes.{Line, lines_of, fields, values}
use Rattle.meaning.specs.Columns.{name_of, column_of, count_of, places, cell, row_of, header_of}
use Rattle.meaning.specs.Tables.{file_of}
use Rattle.meaning.specs.Refusals.{Claim, test, test_at, claims, refusal, leftmost, rule8, rule10, rule11, rule12, rule13, slack, long, blank, formless, text_tests, head_tests, line_tests}
use Rattle.meaning.specs.Promises.{First, absent, found, field_count, tests_on, no_line, test_of, FileClaim, LineClaim, line_order, turn, FirstBroken}
use Rattle.meaning.specs.WhichColumn.{Leftmost, SecondStanding, Breaks, ColumnSaid, WhichColumn}
use Rattle.meaning.proofs.ListLaws.{both, same_equal, same_self}
use Rattle.meaning.proofs.Tests.{Standing, below, level, over, standing}
use Rattle.meaning.proofs.References.{find_first}
use Rattle.meaning.proofs.Claims.{file_number}
use Rattle.meaning.proofs.Columns as C
use Rattle.meaning.proofs.Sayable as S

-- at most one column is leftmost
leftmost_one : (P : ℕ → Type 0) (c d : ℕ) → Leftmost P c → Leftmost P d → c ≡ d
leftmost_one P c d a b = go (standing c d)
  where
    go : Standing c d → c ≡ d
    go (below h) = absurd (b.nowhere_left c a.counted h a.here)
    go (level e) = e
    go (over h) = absurd (a.nowhere_left d b.counted h b.here)

module _ (f : ℕ) (header : List (List ℕ)) where
  -- a name that stands in a column of the header
  named_same : (c k : ℕ) → get_or header (c - 1) [] ≡ name_of f k → same (get_or header (c - 1) []) (name_of f k) ≡ true
  named_same c k e = rw e (same_self (name_of f k))

  -- rule 8 names the leftmost second standing of a known name
  second_leftmost : 1 ≤ rule8 f header → Leftmost (SecondStanding f header) (rule8 f header)
  unfolding rule8
  second_leftmost h = record { counted = h; here = here (C.again_is (name_of f low.which) 1 header) low.is; nowhere_left = left }
    where
      low : C.Lowest (λ k. find_again (name_of f k) 1 header) (count_of f) (rule8 f header)
      low = C.least_one (λ k. find_again (name_of f k) 1 header) (count_of f) (rule8 f header) refl h

      here : {r : ℕ} → C.Again (name_of f low.which) 1 header r → r ≡ rule8 f header → SecondStanding f header (rule8 f header)
      here (C.never z g) e = absurd (omega arith)
      here (C.again i r g s u) e =
          let j : rule8 f header - 1 ≡ i = omega arith in
          record { name = record { which = low.which; known = low.below_n; inside = omega arith; named = rw j (same_equal _ _ s) }; once = rw j u }

      left : (d : ℕ) → 1 ≤ d → d < rule8 f header → SecondStanding f header d → ⊥
      left d a less x =
          let k = x.name.which in
          let e : find_again (name_of f k) 1 header ≡ 1 + (d - 1) = C.again_of (name_of f k) 1 header (d - 1) (omega (arith, x.name.inside)) (named_same d k x.name.named) x.once in
          omega (arith, low.no_less k x.name.known (omega arith))

  -- and a rule of values the leftmost column whose value breaks it, where no known name stands twice and the line has no fewer fields
  module _ (P : Column → List ℕ → Bool) (l : List ℕ) (once : rule8 f header ≡ 0) (wide : length header ≤ length (values l)) where
    abbrev column : ℕ
    column = leftmost P f (places f header) l (count_of f)

    abbrev at : ℕ → ℕ
    at k = get_or (places f header) k 0

    value_leftmost : 1 ≤ column → Leftmost (Breaks P f header (values l)) column
    unfolding leftmost
    value_leftmost h = record { counted = h; here = here (P (column_of f k) (cell l (at k))) refl low.is (find_first (name_of f k) 1 header) (C.place_at f k header low.below_n); nowhere_left = left }
      where
        low : C.Lowest (λ k. cond (P (column_of f k) (cell l (at k))) (at k) 0) (count_of f) column
        low = C.least_one (λ k. cond (P (column_of f k) (cell l (at k))) (at k) 0) (count_of f) column refl h

        k : ℕ
        k = low.which

        here : (t : Bool) → P (column_of f k) (cell l (at k)) ≡ t → cond t (at k) 0 ≡ column → {r : ℕ} → First (name_of f k) 1 header r → r ≡ at k → Breaks P f header (values l) column
        here false b e a p = absurd (omega arith)
        here true b e (absent z g) p = absurd (omega arith)
        here true b e (found i r g s u) p =
            let j : column - 1 ≡ i = omega arith in
            let y : at k ≡ column = e in
            record { name = record { which = k; known = low.below_n; inside = omega arith; named = rw j (same_equal _ _ s) }; inside = omega arith; broken = rw (← C.cell_at l column h) (rw y at b) }

        left : (d : ℕ) → 1 ≤ d → d < column → Breaks P f header (values l) d → ⊥
        left d a less x =
            let j = x.name.which in
            let g = x.name.known in
            let e : find (name_of f j) 1 header ≡ 1 + (d - 1) = C.only_one (name_of f j) 1 header (d - 1) ((C.kept_8 f header).0 once j g) (omega (arith, x.name.inside)) (named_same d j x.name.named) in
            let y : at j ≡ d = omega (arith, C.place_at f j header g) in
            let z : cond (P (column_of f j) (cell l (at j))) (at j) 0 ≡ d = rw (y, C.cell_at l d a, x.broken) in
            omega (arith, low.no_less j g (omega arith))

-- a header has as many names as fields
count_is : (ls : List Line) → field_count ls ≡ length (header_of ls)
unfolding field_count header_of
count_is [] = refl
count_is (h ∷ r) = sym (C.values_count h.text)

-- a broken rule that names a column has one
has_column : (c : ℕ) (b : Bool) → b ≡ not (eqb c 0) → b ≡ true → 1 ≤ c
has_column c b e t = go (ℕ_discrete c 0)
  where
    go : Dec (c ≡ 0) → 1 ≤ c
    go (yes z) = both b t (e ∙ ap not (eq-eqb c 0 z))
    go (no z) = omega (arith, z)

module _ (files : List (List ℕ)) (rooms : List ℕ) (r : Refusal) (b : FirstBroken (claims files rooms) r) where
  abbrev p : Claim
  p = S.spoken files rooms r b

  module _ (t : LineClaim files p) where
    abbrev ls : List Line
    ls = lines_of (file_of files p.file)

    abbrev header : List (List ℕ)
    header = header_of ls

    abbrev text : List ℕ
    text = (get_or ls (p.line - 1) no_line).text

    -- a header that repeats a known name speaks first
    once : turn 8 < turn p.number → rule8 p.file header ≡ 0
    unfolding head_tests
    once h =
        let l = (get_or ls 0 no_line).text in
        let e = S.on_header files rooms r b t (test_at 8 (rule8 p.file (values l))) (Memᴰ.append_right (text_tests l) (Memᴰ.head refl)) h in
        rw (S.header_is files rooms r b t) at (eqb-true (rule8 p.file (values l)) 0 (not-false _ e))

    -- and so does a line that has another number of fields
    wide : turn 10 < turn p.number → length header ≤ length (values text)
    unfolding tests_on line_tests rule10
    wide h = go (ℕ_discrete p.line 1)
      where
        go : Dec (p.line ≡ 1) → length header ≤ length (values text)
        go (yes e) =
            let z : p.line - 1 ≡ 0 = omega arith in
            omega (arith, ap (λ (i : ℕ). length (values (get_or ls i no_line).text)) z, ap length (S.header_is files rooms r b t))
        go (no e) =
            let k = S.earlier files rooms r b t p.line t.first t.last (test 10 (rule10 (field_count ls) text)) (rw (ne_eqb p.line 1 e) (Memᴰ.append_right (text_tests text) (Memᴰ.head refl))) (inr (refl, h)) in
            let z = eqb-true (length (fields text)) (field_count ls) (not-false _ k) in
            omega (arith, z, count_is ls, C.values_count text)

    -- the column of a rule of values
    of_value : (P : Column → List ℕ → Bool) (n : ℕ) → turn 10 < turn n → turn 8 < turn n → S.Columned (test_of p) n (leftmost P p.file (places p.file header) text (count_of p.file))
        → Leftmost (Breaks P p.file header (values text)) p.column
    of_value P n late later c =
        rw c.1
        (value_leftmost p.file header P text (once (rw c.0 later)) (wide (rw c.0 late)) (has_column _ p.broken c.2 b.broken))

    said_line : S.Fit p.file header text (test_of p) → ColumnSaid files (refusal p)
    unfolding turn place line_order rule11 rule12 rule13
    said_line (S.plain e z) = record {
      long_value = λ n. both (S.names p.number) (rw n) e;
      blank_value = λ n. both (S.names p.number) (rw n) e;
      formless_value = λ n. both (S.names p.number) (rw n) e;
      second_standing = λ n. both (S.names p.number) (rw n) e;
      none = λ x y w v. z;
    }
    said_line (S.again c) = record {
      long_value = λ n. absurd (omega (arith, c.0));
      blank_value = λ n. absurd (omega (arith, c.0));
      formless_value = λ n. absurd (omega (arith, c.0));
      second_standing = λ n. rw c.1 (second_leftmost p.file header (has_column _ p.broken c.2 b.broken));
      none = λ x y z w. absurd (x c.0);
    }
    said_line (S.long c) = record {
      long_value = λ n. of_value long 11 (omega arith) (omega arith) c;
      blank_value = λ n. absurd (omega (arith, c.0));
      formless_value = λ n. absurd (omega (arith, c.0));
      second_standing = λ n. absurd (omega (arith, c.0));
      none = λ x y z w. absurd (y c.0);
    }
    said_line (S.blank c) = record {
      long_value = λ n. absurd (omega (arith, c.0));
      blank_value = λ n. of_value (blank (slack p.file (row_of (places p.file header) text))) 12 (omega arith) (omega arith) c;
      formless_value = λ n. absurd (omega (arith, c.0));
      second_standing = λ n. absurd (omega (arith, c.0));
      none = λ x y z w. absurd (z c.0);
    }
    said_line (S.formless c) = record {
      long_value = λ n. absurd (omega (arith, c.0));
      blank_value = λ n. absurd (omega (arith, c.0));
      formless_value = λ n. of_value formless 13 (omega arith) (omega arith) c;
      second_standing = λ n. absurd (omega (arith, c.0));
      none = λ x y z w. absurd (w c.0);
    }

  said_whole : FileClaim files rooms p → ColumnSaid files (refusal p)
  said_whole t =
      let k = file_number files rooms p t in
      record {
        long_value = λ n. absurd (omega (arith, k.1));
        blank_value = λ n. absurd (omega (arith, k.1));
        formless_value = λ n. absurd (omega (arith, k.1));
        second_standing = λ n. absurd (omega (arith, k.1));
        none = λ x y z w. S.whole_column files rooms r b t;
      }

  column_said : ColumnSaid files r
  column_said = rw b.spoken at (⊎_elim said_whole (λ t. said_line t (S.fits files rooms r b t)) (S.among files rooms r b))

pub which_column : (files : List (List ℕ)) (tables : List (List ℤ)) → WhichColumn files tables
which_column files tables = record {
  said = column_said files (map length tables);
  one = leftmost_one;
  kept_8 = C.kept_8;
  kept_11 = λ f header l lacks. C.kept_11 f header lacks l;
  kept_12 = λ f header l lacks. C.kept_12 f header lacks l;
  kept_13 = λ f header l lacks. C.kept_13 f header lacks l;
}
