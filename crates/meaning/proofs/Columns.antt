-- Laws of columns: the values of a line by column, the least of several columns, a name's second standing, the leftmost column that breaks a test.
use Prim.Native.Nat.{ℕ, zero, suc, ◌+◌, ◌-◌, ◌≤◌, ◌<◌}
use native.Mathlib.Omega.{arith}
use native.Mathlib.Decide.{ℕ_discrete}
use mathlib.Core.Path.{◌≡◌, refl, sym, ap, ◌∙◌}
use mathlib.Core.Logic.{◌↔◌}
use mathlib.Core.Bool.{Bool, true, false, cond, ◌&&◌, ◌||◌}
use mathlib.Core.List.{List, [], ◌∷◌}
use lib.Dec.{T, ltb, eqb}
use lib.ListN.{length, get_or, take, get_or-map}
use lib.Seq.{take_all}
use borrow.Author.Tests.{eq-eqb, ne_eqb, le-ltb, ltb-true, ltb-false}
use Rattle.meaning.specs.declared.Bounds.{Bounds}
use Rattle.meaning.specs.declared.Need.{Need}
use Rattle.meaning.specs.declared.Need.TheVariants.{Never, AllButInner, AllButPlaceless, Always}
use Rattle.meaning.specs.declared.Column.{Column}
use Rattle.meaning.specs.Lists.{same, empty, place, find, find_again, lesser, least}
use Rattle.meaning.specs.Bytes.{bounds, part, fields, marked, content, undouble, value, values_of, values}
use Rattle.meaning.specs.Columns.{Known, Row, rank, unknown, stops_columns, routes_columns, calendar_columns, trips_columns, stop_times_columns, calendar_dates_columns, schemas, schema, known_at, name_of, column_of, count_of, places, field_at, cell, row_of}
use Rattle.meaning.specs.Tables.{inner, placed}
use Rattle.meaning.specs.Refusals.{slack, long, blank, formless, leftmost, rule8, rule9, rule11, rule12, rule13}
use Rattle.meaning.specs.Promises.{First, absent, found}
use Rattle.meaning.specs.WhichColumn.{standings, Keeps}
use Rattle.meaning.proofs.Computed.{all, get_d_all}
use Rattle.meaning.proofs.ListLaws.{both}
use Rattle.meaning.proofs.Laws.{get_d_map_in}
use Rattle.meaning.proofs.Tests.{some_none}
use Rattle.meaning.proofs.References.{find_first}

-- ---- the values of a line, by field and by column

-- as many values as fields
values_of_count : (l : List ℕ) (ps : List Bounds) → length (values_of l ps) ≡ length ps
unfolding values_of
values_of_count l [] = refl
values_of_count l (p ∷ r) = ap suc (values_of_count l r)

pub values_count : (l : List ℕ) → length (values l) ≡ length (fields l)
unfolding values
values_count l = values_of_count l (fields l)

-- each value is that of its field, and so is the default
values_of_at : (l : List ℕ) (ps : List Bounds) (j : ℕ) → get_or (values_of l ps) j [] ≡ value (part l (get_or ps j (bounds 0 0)))
unfolding values_of part value marked content undouble
values_of_at l [] j = refl
values_of_at l (p ∷ r) zero = refl
values_of_at l (p ∷ r) (suc j) = values_of_at l r j

-- the value in a column, from the line's values; an absent column reads as empty
cell_none : (l : List ℕ) → cell l 0 ≡ []
unfolding cell field_at part value marked content undouble
cell_none l = refl

pub cell_at : (l : List ℕ) (p : ℕ) → 1 ≤ p → cell l p ≡ get_or (values l) (p - 1) []
unfolding cell field_at values
cell_at l p h = let z : p ≡ 0 → ⊥ = λ e. omega arith in rw (ne_eqb p 0 z) (sym (values_of_at l (fields l) (p - 1)))

pub row_at : (ps l : List ℕ) (k : ℕ) → get_or (row_of ps l) k [] ≡ cell l (get_or ps k 0)
unfolding row_of cell field_at part value marked content undouble
row_at ps l k = get_or-map (cell l) ps k 0

-- the column of a known name
pub place_at : (f k : ℕ) (header : List (List ℕ)) → k < count_of f → find (name_of f k) 1 header ≡ get_or (places f header) k 0
unfolding places count_of name_of known_at
place_at f k header h = sym (get_d_map_in (λ x. find x.name 1 header) (schema f) k unknown 0 h)

-- ---- the least of several columns

-- what holds below n, and of n
below : (n : ℕ) (Q : ℕ → Type 0) → ((j : ℕ) → j < n → Q j) → Q n → (j : ℕ) → j < suc n → Q j
below n Q h q j g = go (ℕ_discrete j n)
  where
    go : Dec (j ≡ n) → Q j
    go (yes e) = rw e q
    go (no e) = h j (omega (arith, e))

-- what it is to be the least of n numbers, 0 being none
pub data Least (g : ℕ → ℕ) (n r : ℕ) : Type 0 where
  none : r ≡ 0 → ((k : ℕ) → k < n → g k ≡ 0) → Least g n r
  one : (k : ℕ) → k < n → g k ≡ r → 1 ≤ r → ((j : ℕ) → j < n → 1 ≤ g j → r ≤ g j) → Least g n r

-- one number more
module _ (g : ℕ → ℕ) (n x : ℕ) (e : g n ≡ x) where
  more_none : Least g n 0 → Least g (suc n) x
  more_none (one k i p b h) = absurd (omega arith)
  more_none (none z h) = go (ℕ_discrete x 0)
    where
      go : Dec (x ≡ 0) → Least g (suc n) x
      go (yes d) = none d (below n (λ k. g k ≡ 0) h (e ∙ d))
      go (no d) = one n (omega arith) e (omega (arith, d)) (below n (λ j. 1 ≤ g j → x ≤ g j) (λ j i b. absurd (omega (arith, h j i))) (λ b. omega arith))

  more_one : (r k : ℕ) → k < n → g k ≡ r → 1 ≤ r → ((j : ℕ) → j < n → 1 ≤ g j → r ≤ g j) → Least g (suc n) (cond (eqb x 0) r (cond (ltb x r) x r))
  more_one r k i p b h = go (ℕ_discrete x 0) (ltb x r) refl
    where
      go : Dec (x ≡ 0) → (t : Bool) → ltb x r ≡ t → Least g (suc n) (cond (eqb x 0) r (cond t x r))
      go (yes d) t q = rw (eq-eqb x 0 d) (one k (omega arith) p b (below n (λ j. 1 ≤ g j → r ≤ g j) h (λ c. absurd (omega arith))))
      go (no d) true q = rw (ne_eqb x 0 d) (one n (omega arith) e (omega (arith, d)) (below n (λ j. 1 ≤ g j → x ≤ g j) (λ j c y. omega (arith, h j c y, ltb-true x r q)) (λ c. omega arith)))
      go (no d) false q = rw (ne_eqb x 0 d) (one k (omega arith) p b (below n (λ j. 1 ≤ g j → r ≤ g j) h (λ c. omega (arith, ltb-false x r q))))

least_more : (g : ℕ → ℕ) (n r x : ℕ) → g n ≡ x → Least g n r → Least g (suc n) (lesser r x)
unfolding lesser
least_more g n r x e l = go (ℕ_discrete r 0) l
  where
    go : Dec (r ≡ 0) → Least g n r → Least g (suc n) (cond (eqb r 0) x (cond (eqb x 0) r (cond (ltb x r) x r)))
    go (yes d) l = rw (eq-eqb r 0 d) (more_none g n x e (rw d at l))
    go (no d) (none z h) = absurd (d z)
    go (no d) (one k i p b h) = rw (ne_eqb r 0 d) (more_one g n x e r k i p b h)

pub least_is : (g : ℕ → ℕ) (n : ℕ) → Least g n (least g n)
unfolding least
least_is g zero = none refl (λ k h. absurd (omega arith))
least_is g (suc n) = least_more g n (least g n) (g n) refl (least_is g n)

-- there is none exactly where each number is 0
pub least_none : (g : ℕ → ℕ) (n : ℕ) → least g n ≡ 0 ↔ ((k : ℕ) → k < n → g k ≡ 0)
least_none g n = (λ e. there (least_is g n) e, λ h. back (least_is g n) h)
  where
    there : {r : ℕ} → Least g n r → r ≡ 0 → (k : ℕ) → k < n → g k ≡ 0
    there (none z h) e = h
    there (one k i p b h) e = absurd (omega arith)

    back : {r : ℕ} → Least g n r → ((k : ℕ) → k < n → g k ≡ 0) → r ≡ 0
    back (none z h) all = z
    back (one k i p b h) all = absurd (omega (arith, all k i))

-- a least number is one of them, and the others aren't less
pub record Lowest (g : ℕ → ℕ) (n r : ℕ) : Type 0 where
  pub which : ℕ
  pub below_n : which < n
  pub is : g which ≡ r
  pub no_less : (j : ℕ) → j < n → 1 ≤ g j → r ≤ g j

pub least_one : (g : ℕ → ℕ) (n r : ℕ) → least g n ≡ r → 1 ≤ r → Lowest g n r
least_one g n r e h = rw e at (go (least_is g n) (rw (← e) at h))
  where
    go : {q : ℕ} → Least g n q → 1 ≤ q → Lowest g n q
    go (none z all) h = absurd (omega arith)
    go (one k i p b all) h = record { which = k; below_n = i; is = p; no_less = all }

-- where all others are 0 it is the one that may not be
pub least_only : (g : ℕ → ℕ) (n k : ℕ) → k < n → ((j : ℕ) → j < n → (j ≡ k → ⊥) → g j ≡ 0) → least g n ≡ g k
least_only g n k h others = go (least_is g n)
  where
    here : (r j : ℕ) → j < n → g j ≡ r → 1 ≤ r → Dec (j ≡ k) → r ≡ g k
    here r j i p b (yes e) = sym p ∙ ap g e
    here r j i p b (no e) = absurd (omega (arith, others j i e))

    go : {r : ℕ} → Least g n r → r ≡ g k
    go (none z all) = z ∙ sym (all k h)
    go (one j i p b low) = here _ j i p b (ℕ_discrete j k)

-- ---- a name's standings

module _ (v : List ℕ) where
  standings_none : (vs : List (List ℕ)) (k : ℕ) → ((j : ℕ) → j < k → same (get_or vs j []) v ≡ false) → standings v (take k vs) ≡ 0
  unfolding standings
  standings_none vs zero h = refl
  standings_none [] (suc k) h = refl
  standings_none (w ∷ vs) (suc k) h = rw (h 0 (omega arith)) (standings_none vs k (λ j g. h (suc j) (omega arith)))

  -- a value that stands at i, and as often to its left as it does
  standings_more : (vs : List (List ℕ)) (i : ℕ) → i < length vs → same (get_or vs i []) v ≡ true → standings v (take i vs) + 1 ≤ standings v vs
  unfolding standings
  standings_more [] i h e = absurd (omega arith)
  standings_more (w ∷ vs) zero h e = rw e (omega arith)
  standings_more (w ∷ vs) (suc i) h e = go (same w v) (standings_more vs i (omega arith) e)
    where
      go : (t : Bool) → standings v (take i vs) + 1 ≤ standings v vs
          → cond t (standings v (take i vs) + 1) (standings v (take i vs)) + 1 ≤ cond t (standings v vs + 1) (standings v vs)
      go true g = omega arith
      go false g = g

  -- where it stands just once it is found
  pub only_one : (n : ℕ) (vs : List (List ℕ)) (i : ℕ) → standings v vs ≤ 1 → i < length vs → same (get_or vs i []) v ≡ true → find v n vs ≡ n + i
  unfolding standings find place
  only_one n [] i s h e = absurd (omega arith)
  only_one n (w ∷ vs) zero s h e = rw e (omega arith)
  only_one n (w ∷ vs) (suc i) s h e = go (same w v) refl (only_one (n + 1) vs i)
    where
      go : (t : Bool) → same w v ≡ t → (standings v vs ≤ 1 → i < length vs → same (get_or vs i []) v ≡ true → find v (n + 1) vs ≡ n + 1 + i) → cond t n (find v (n + 1) vs) ≡ n + suc i
      go true t ih = let z : standings v vs + 1 ≤ 1 = rw t at s in absurd (omega (arith, standings_more vs i (omega arith) e))
      go false t ih = omega (arith, ih (rw t at s) (omega arith) e)

  -- found where it doesn't stand to the left
  find_of : (n : ℕ) (vs : List (List ℕ)) (i : ℕ) → i < length vs → same (get_or vs i []) v ≡ true → standings v (take i vs) ≡ 0 → find v n vs ≡ n + i
  unfolding standings find place
  find_of n [] i h e s = absurd (omega arith)
  find_of n (w ∷ vs) zero h e s = rw e (omega arith)
  find_of n (w ∷ vs) (suc i) h e s = go (same w v) refl (find_of (n + 1) vs i (omega arith) e)
    where
      go : (t : Bool) → same w v ≡ t → (standings v (take i vs) ≡ 0 → find v (n + 1) vs ≡ n + 1 + i) → cond t n (find v (n + 1) vs) ≡ n + suc i
      go true t ih = let z : standings v (take i vs) + 1 ≡ 0 = rw t at s in absurd (omega arith)
      go false t ih = omega (arith, ih (rw t at s))

  -- found again where it stands once to the left
  pub again_of : (n : ℕ) (vs : List (List ℕ)) (i : ℕ) → i < length vs → same (get_or vs i []) v ≡ true → standings v (take i vs) ≡ 1 → find_again v n vs ≡ n + i
  unfolding standings find_again
  again_of n [] i h e s = absurd (omega arith)
  again_of n (w ∷ vs) zero h e s = absurd (omega arith)
  again_of n (w ∷ vs) (suc i) h e s = go (same w v) refl (again_of (n + 1) vs i (omega arith) e)
    where
      go : (t : Bool) → same w v ≡ t → (standings v (take i vs) ≡ 1 → find_again v (n + 1) vs ≡ n + 1 + i) → cond t (find v (n + 1) vs) (find_again v (n + 1) vs) ≡ n + suc i
      go true t ih =
          let z : standings v (take i vs) + 1 ≡ 1 = rw t at s in
          omega (arith, find_of (n + 1) vs i (omega arith) e (omega arith))
      go false t ih = omega (arith, ih (rw t at s))

  -- what it is to be the second place of a value among values that are counted from n, or 0
  pub data Again (n : ℕ) (vs : List (List ℕ)) (r : ℕ) : Type 0 where
    never : r ≡ 0 → standings v vs ≤ 1 → Again n vs r
    again : (i : ℕ) → r ≡ n + i → i < length vs → same (get_or vs i []) v ≡ true → standings v (take i vs) ≡ 1 → Again n vs r

  pub again_is : (n : ℕ) (vs : List (List ℕ)) → Again n vs (find_again v n vs)
  unfolding find_again standings
  again_is n [] = never refl (omega arith)
  again_is n (w ∷ vs) = go (same w v) refl (again_is (n + 1) vs) (find_first v (n + 1) vs)
    where
      once : standings v vs ≡ 0 → standings v (w ∷ vs) ≤ 1
      once z = at_most (same w v)
        where
          at_most : (t : Bool) → cond t (standings v vs + 1) (standings v vs) ≤ 1
          at_most true = omega arith
          at_most false = omega arith

      go : (t : Bool) → same w v ≡ t → Again (n + 1) vs (find_again v (n + 1) vs) → First v (n + 1) vs (find v (n + 1) vs)
          → Again n (w ∷ vs) (cond t (find v (n + 1) vs) (find_again v (n + 1) vs))
      go true t a (absent r h) = never r (once (rw (take_all (length vs) vs (omega arith)) at (standings_none vs (length vs) h)))
      go true t a (found k r h s u) = again (suc k) (omega arith) (omega arith) s (rw (t, standings_none vs k u))
      go false t (never r h) f = never r (rw t h)
      go false t (again i r h s u) f = again (suc i) (omega arith) (omega arith) s (rw t u)

-- ---- columns stay within the header

find_within : (v : List ℕ) (vs : List (List ℕ)) → find v 1 vs ≤ length vs
find_within v vs = go (find_first v 1 vs)
  where
    go : {r : ℕ} → First v 1 vs r → r ≤ length vs
    go (absent z h) = omega arith
    go (found k r h s u) = omega arith

again_within : (v : List ℕ) (vs : List (List ℕ)) → find_again v 1 vs ≤ length vs
again_within v vs = go (again_is v 1 vs)
  where
    go : {r : ℕ} → Again v 1 vs r → r ≤ length vs
    go (never z h) = omega arith
    go (again i r h s u) = omega arith

least_within : (g : ℕ → ℕ) (n m : ℕ) → ((k : ℕ) → k < n → g k ≤ m) → least g n ≤ m
least_within g n m h = go (least_is g n)
  where
    go : {r : ℕ} → Least g n r → r ≤ m
    go (none z all) = omega arith
    go (one k i p b all) = omega (arith, h k i)

module _ (f : ℕ) (header : List (List ℕ)) where
  pub rule8_within : rule8 f header ≤ length header
  unfolding rule8
  rule8_within = least_within (λ k. find_again (name_of f k) 1 header) (count_of f) (length header) (λ k h. again_within (name_of f k) header)

  pub leftmost_within : (P : Column → List ℕ → Bool) (l : List ℕ) → leftmost P f (places f header) l (count_of f) ≤ length header
  unfolding leftmost
  leftmost_within P l = least_within _ (count_of f) (length header) (λ k h. go k h (P (column_of f k) (cell l (get_or (places f header) k 0))))
    where
      go : (k : ℕ) → k < count_of f → (t : Bool) → cond t (get_or (places f header) k 0) 0 ≤ length header
      go k h true = rw (← place_at f k header h) (find_within (name_of f k) header)
      go k h false = omega arith

-- ---- where rules 8, 11, 12 and 13 are kept

-- a known column in which a value is needed must be present
must_have : (f k : ℕ) → (column_of f k).must ≡ false → (column_of f k).need ≡ Never
unfolding column_of known_at schema schemas stops_columns routes_columns calendar_columns trips_columns stop_times_columns calendar_dates_columns
must_have f k e =
    go (column_of f k).must (column_of f k).need
    (get_d_all right unknown tt (get_or schemas f []) (get_d_all (λ (ks : List Known). all right ks) [] tt schemas tt f) k) e
  where
    right : Known → Bool
    right x = x.column.must || eqb (rank x.column.need) 0

    go : (m : Bool) (n : Need) → T (m || eqb (rank n) 0) → m ≡ false → n ≡ Never
    go true n t e = both true refl e
    go false Never t e = refl
    go false AllButInner t e = absurd t
    go false AllButPlaceless t e = absurd t
    go false Always t e = absurd t

-- an empty value keeps every rule but 12, and that where none is needed
module _ (c : Column) where
  short : long c [] ≡ false
  unfolding long
  short = go c.ident
    where
      go : (b : Bool) → (b && false) ≡ false
      go true = refl
      go false = refl

  needless : (free : Need) → c.need ≡ Never → blank free c [] ≡ false
  unfolding blank
  needless free e = rw (e, le-ltb (rank free) 0 (omega arith))

  -- no line may leave open what is needed always
  pub blank_always : (f : ℕ) (r : Row) (v : List ℕ) → c.need ≡ Always → blank (slack f r) c v ≡ empty v
  unfolding blank slack
  blank_always f r v e = rw e (go (eqb f 1 && inner r) (placed r))
    where
      go : (a b : Bool) → (ltb (rank (cond a (cond b AllButInner AllButPlaceless) Never)) 3 && empty v) ≡ empty v
      go true true = refl
      go true false = refl
      go false b = refl

  formed : formless c [] ≡ false
  unfolding formless empty
  formed = refl

module _ (f : ℕ) (header : List (List ℕ)) where
  -- a header keeps rule 8 exactly where no known name stands twice
  pub kept_8 : rule8 f header ≡ 0 ↔ ((k : ℕ) → k < count_of f → standings (name_of f k) header ≤ 1)
  unfolding rule8
  kept_8 =
      let none = least_none (λ k. find_again (name_of f k) 1 header) (count_of f) in
      (λ e k h. there k (again_is (name_of f k) 1 header) (none.0 e k h), λ all. none.1 (λ k h. back k (again_is (name_of f k) 1 header) (all k h)))
    where
      there : (k : ℕ) {r : ℕ} → Again (name_of f k) 1 header r → r ≡ 0 → standings (name_of f k) header ≤ 1
      there k (never z h) e = h
      there k (again i r h s u) e = absurd (omega arith)

      back : (k : ℕ) {r : ℕ} → Again (name_of f k) 1 header r → standings (name_of f k) header ≤ 1 → r ≡ 0
      back k (never z h) e = z
      back k (again i r h s u) e = absurd (omega (arith, standings_more (name_of f k) header i h s))

  -- where the header lacks nothing, a line keeps a rule of values exactly where each of its values does
  module _ (lacks : rule9 f header ≡ false) (l : List ℕ) where
    abbrev at : ℕ → ℕ
    at k = get_or (places f header) k 0

    kept : (P : Column → List ℕ → Bool) → ((k : ℕ) → k < count_of f → at k ≡ 0 → P (column_of f k) [] ≡ false) → leftmost P f (places f header) l (count_of f) ≡ 0 ↔ Keeps P f header l
    unfolding leftmost
    kept P unread =
        let none = least_none (λ k. cond (P (column_of f k) (cell l (at k))) (at k) 0) (count_of f) in
        (λ e k h. rw (row_at (places f header) l k) (there k h (ℕ_discrete (at k) 0) (P (column_of f k) (cell l (at k))) refl (none.0 e k h)), λ all. none.1 (λ k h. rw (rw (row_at (places f header) l k) at (all k h))))
      where
        there : (k : ℕ) → k < count_of f → Dec (at k ≡ 0) → (t : Bool) → P (column_of f k) (cell l (at k)) ≡ t → cond t (at k) 0 ≡ 0 → t ≡ false
        there k h (yes d) t e z = sym e ∙ rw (d, cell_none l) (unread k h d)
        there k h (no d) true e z = absurd (d z)
        there k h (no d) false e z = refl

    pub kept_11 : rule11 f (places f header) l ≡ 0 ↔ Keeps long f header l
    unfolding rule11
    kept_11 = kept long (λ k h z. short (column_of f k))

    pub kept_12 : rule12 f (places f header) l ≡ 0 ↔ Keeps (blank (slack f (row_of (places f header) l))) f header l
    unfolding rule12 rule9
    kept_12 = kept (blank (slack f (row_of (places f header) l))) (λ k h z. needless (column_of f k) _ (must_have f k (present k (rw (eq-eqb (at k) 0 z) at (some_none _ 0 (count_of f) lacks k (omega arith) (omega arith))))))
      where
        present : (k : ℕ) → ((column_of f k).must && true) ≡ false → (column_of f k).must ≡ false
        present k e = go (column_of f k).must e
          where
            go : (b : Bool) → (b && true) ≡ false → b ≡ false
            go true e = e
            go false e = refl

    pub kept_13 : rule13 f (places f header) l ≡ 0 ↔ Keeps formless f header l
    unfolding rule13
    kept_13 = kept formless (λ k h z. formed (column_of f k))
