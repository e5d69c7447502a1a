-- Laws of headers, of tables of ten, and of a line's fields under them.
use mathlib.Core.Path.{◌≡◌, refl, sym, ap, ◌∙◌, subst}
use mathlib.Core.Bool.{Bool, true, false, cond, ◌&&◌, ◌||◌}
use Rattle.std.specs.List.{list_any, range_with_len}
use mathlib.Core.List.{List, [], ◌∷◌, map}
use Prim.Native.Nat.{ℕ, zero, suc, ◌+◌, ◌-◌, ◌≤◌, ◌<◌}
use native.Mathlib.Omega.{arith}
use native.Mathlib.Decide.{ℕ_discrete}
use Rattle.std.proofs.Common.{Option, Some, None}
use native.Mathlib.Numerals.{add-one}
use native.Mathlib.Nat.{not-suc-le-zero}
use lib.Dec.{eqb, ltb}
use lib.ListN.{length, get_or, take, drop, set, replicate, length-take, length-drop, get_or-eq_default, get_or-map, length-map}
use lib.Seq.{get_or-drop, get_or-take, drop-drop, get_or-set_same, get_or-set_other, ext_get_or}
use Rattle.std.proofs.lemmas.List.{get_or-map as get_or-map-in}
use borrow.Author.Tests.{eq-eqb, ne_eqb, eqb-true, eqb-false, lt-ltb, le-ltb, ltb-true, ltb-false}
use Rattle.meaning.specs.declared.Bounds.{Bounds}
use Rattle.meaning.specs.Lists.{some, find}
use Rattle.meaning.specs.Bytes.{bounds, part, value, fields, values_of}
use Rattle.meaning.specs.Columns.{schema, column_of, count_of, places, field_at, cell, row_of}
use Rattle.meaning.specs.Refusals.{rule9}
use Rattle.meaning.proofs.Columns.{row_at}
use Rattle.text.specs.Fields.{fields_from, past_ends, FieldStands, Inside}
use Rattle.text.proofs.Fields.{from_over, from_start, field_inside, fields_begin, fields_adjoin}
use Rattle.text.proofs.Spans.{past_length, past_before, past_at}
use Rattle.schema.proofs.Laws.{count_le}
use Rattle.columns.specs.Columns.{tab, places_of, lacking, noted, fields_at, field_by, told, Noted}

-- a loop over numbers, for a test that holds of some
module _ (P : ℕ → Bool) (k n : ℕ) (r : Bool) (inv : some P k (n - k) ≡ r) where
  pub some_over : n ≤ k → false ≡ r
  unfolding some
  some_over g = let z : n - k ≡ 0 = omega arith in rw z at inv

  module _ (more : k < n) where
    z : n - k ≡ suc (n - (k + 1))
    z = omega arith

    pub some_here : P k ≡ true → true ≡ r
    unfolding some
    some_here q = rw (z, q) at inv

    pub some_next : P k ≡ false → some P (k + 1) (n - (k + 1)) ≡ r
    unfolding some
    some_next q = rw (z, q) at inv

-- it is std's `any` along the numbers
pub some_any : (P : ℕ → Bool) (k n : ℕ) → list_any P (range_with_len k n) ≡ some P k n
unfolding some
some_any P k zero = refl
some_any P k (suc n) = go (P k) (some_any P (k + 1) n)
  where
    go : (t : Bool) → {a b : Bool} → a ≡ b → (t || a) ≡ cond t true b
    go true e = refl
    go false e = e

-- two tests that agree everywhere
pub some_same : (P Q : ℕ → Bool) → ((k : ℕ) → P k ≡ Q k) → (k n : ℕ) → some P k n ≡ some Q k n
unfolding some
some_same P Q e k zero = refl
some_same P Q e k (suc n) = rw (e k, some_same P Q e (k + 1) n)

-- reading a table that is wide enough is reading what it is made from, where that is 0 from its end on
tab_at : (g : ℕ → ℕ) (j n w k : ℕ) → n ≤ w → ((i : ℕ) → n ≤ i → g (j + i) ≡ 0) → get_or (tab g j n w) k 0 ≡ g (j + k)
unfolding tab
tab_at g j n zero k h e = sym (e k (omega arith))
tab_at g j zero (suc w) zero h e = sym (e 0 (omega arith))
tab_at g j zero (suc w) (suc k) h e =
    tab_at g j zero w k (omega arith) e ∙ (e k (omega arith) ∙ sym (e (suc k) (omega arith)))
tab_at g j (suc n) (suc w) zero h e = let z : j + 0 ≡ j = omega arith in rw z
tab_at g j (suc n) (suc w) (suc k) h e =
    let z : j + suc k ≡ j + 1 + k = omega arith in
    rw z (tab_at g (j + 1) n w k (omega arith) (λ i b. let y : j + 1 + i ≡ j + suc i = omega arith in rw y (e (suc i) (omega arith))))

pub place_none : (f k : ℕ) (header : List (List ℕ)) → count_of f ≤ k → get_or (places f header) k 0 ≡ 0
unfolding places count_of
place_none f k header h =
    get_or-eq_default (map (λ x. find x.name 1 header) (schema f)) 0 {n = k} (rw length-map h)

-- the table of ten reads as the columns do
pub places_at : (f : ℕ) (header : List (List ℕ)) (k : ℕ) → get_or (places_of f header) k 0 ≡ get_or (places f header) k 0
unfolding places_of
places_at f header k =
    let z : 0 + k ≡ k = omega arith in
    rw z at (tab_at (λ k. get_or (places f header) k 0) 0 (count_of f) 10 k (count_le f)
    (λ i b. let y : 0 + i ≡ i = omega arith in rw y (place_none f i header b)))

tab_wide : (g : ℕ → ℕ) (j n w : ℕ) → length (tab g j n w) ≡ w
unfolding tab
tab_wide g j n zero = refl
tab_wide g j zero (suc w) = ap suc (tab_wide g j zero w)
tab_wide g j (suc n) (suc w) = ap suc (tab_wide g (j + 1) n w)

pub places_ten : (f : ℕ) (header : List (List ℕ)) → length (places_of f header) ≡ 10
unfolding places_of
places_ten f header = tab_wide _ 0 (count_of f) 10

pub lacking_is : (f : ℕ) (header : List (List ℕ)) → lacking f (places_of f header) ≡ rule9 f header
unfolding lacking rule9
lacking_is f header =
    some_same _ _ (λ k. ap (λ (p : ℕ). (column_of f k).must && eqb p 0) (places_at f header k)) 0 (count_of f)

-- what a told column says of its number
pub told_some : (r c : ℕ) → told r ≡ Some c → (c ≡ r) × (c ≡ 0 → ⊥)
told_some r c e = go (ℕ_discrete r 0)
  where
    go : Dec (r ≡ 0) → (c ≡ r) × (c ≡ 0 → ⊥)
    go (yes z) = let y : ◌≡◌ {A = Option ℕ} None (Some c) = rw (eq-eqb r 0 z) at e in absurd cc
    go (no z) =
        let y : ◌≡◌ {A = Option ℕ} (Some r) (Some c) = rw (ne_eqb r 0 z) at e in
        let x : c ≡ r = cc in
        (x, λ n. z (sym x ∙ n))

pub told_none : (r : ℕ) → told r ≡ None → r ≡ 0
told_none r e = go (ℕ_discrete r 0)
  where
    go : Dec (r ≡ 0) → r ≡ 0
    go (yes z) = z
    go (no z) = let y : ◌≡◌ {A = Option ℕ} (Some r) None = rw (ne_eqb r 0 z) at e in absurd cc

-- one known column more
module _ (j : ℕ) (v : Bounds) where
  noted_yes : (ps : List ℕ) (k : ℕ) (xs : List Bounds) → k < length ps → get_or ps k 0 ≡ j → set (noted ps j v k xs) k v ≡ noted ps j v (suc k) xs
  unfolding noted
  noted_yes [] k xs h e = absurd (not-suc-le-zero h)
  noted_yes (p ∷ ps) zero [] h e = refl
  noted_yes (p ∷ ps) (suc k) [] h e = refl
  noted_yes (p ∷ ps) zero (x ∷ xs) h e = rw (eq-eqb p j e)
  noted_yes (p ∷ ps) (suc k) (x ∷ xs) h e = ap (λ (l : List Bounds). cond (eqb p j) v x ∷ l) (noted_yes ps k xs (omega arith) e)

  noted_no : (ps : List ℕ) (k : ℕ) (xs : List Bounds) → k < length ps → (get_or ps k 0 ≡ j → ⊥) → noted ps j v k xs ≡ noted ps j v (suc k) xs
  unfolding noted
  noted_no [] k xs h e = absurd (not-suc-le-zero h)
  noted_no (p ∷ ps) zero [] h e = refl
  noted_no (p ∷ ps) (suc k) [] h e = refl
  noted_no (p ∷ ps) zero (x ∷ xs) h e = rw (ne_eqb p j e)
  noted_no (p ∷ ps) (suc k) (x ∷ xs) h e = ap (λ (l : List Bounds). cond (eqb p j) v x ∷ l) (noted_no ps k xs (omega arith) e)

  module _ (ps : List ℕ) (k : ℕ) (more : k < length ps) (xs r : List Bounds) (inv : r ≡ noted ps j v k xs) where
    pub note_yes : get_or ps k 0 ≡ j → set r k v ≡ noted ps j v (k + 1) xs
    note_yes e = rw (inv, add-one k) (noted_yes ps k xs more e)

    pub note_no : (get_or ps k 0 ≡ j → ⊥) → r ≡ noted ps j v (k + 1) xs
    note_no e = rw (inv, add-one k) (noted_no ps k xs more e)

-- what is known of a line's fields before field n, and no bounds for those to come
unfoldable pub seen : List ℕ → ℕ → List ℕ → List Bounds
seen l n ps = map (λ p. cond (ltb p n) (field_at l p) (bounds 0 0)) ps

none_at : (l : List ℕ) → field_at l 0 ≡ bounds 0 0
unfolding field_at
none_at l = refl

pub seen_first : (l ps : List ℕ) (w : ℕ) → length ps ≡ w → replicate w (bounds 0 0) ≡ seen l 1 ps
unfolding seen
seen_first l [] w e = rw (← e)
seen_first l (p ∷ ps) w e = rw (← e) (go p (seen_first l ps (length ps) refl))
  where
    go : (p : ℕ) → replicate (length ps) (bounds 0 0) ≡ seen l 1 ps → bounds 0 0 ∷ replicate (length ps) (bounds 0 0) ≡ cond (ltb p 1) (field_at l p) (bounds 0 0) ∷ seen l 1 ps
    go zero ih = rw (none_at l, ← ih)
    go (suc p) ih = rw (le-ltb (suc p) 1 (omega arith), ← ih)

pub seen_turn : (l ps : List ℕ) (n w : ℕ) (v : Bounds) → length ps ≤ w → v ≡ field_at l n → noted ps n v w (seen l n ps) ≡ seen l (n + 1) ps
unfolding seen noted
seen_turn l [] n zero v h e = refl
seen_turn l [] n (suc w) v h e = refl
seen_turn l (p ∷ ps) n zero v h e = absurd (not-suc-le-zero h)
seen_turn l (p ∷ ps) n (suc w) v h e = rw (seen_turn l ps n w v (omega arith) e) (go (eqb p n) refl)
  where
    go : (t : Bool) → eqb p n ≡ t → cond (eqb p n) v (cond (ltb p n) (field_at l p) (bounds 0 0)) ∷ seen l (n + 1) ps
        ≡ cond (ltb p (n + 1)) (field_at l p) (bounds 0 0) ∷ seen l (n + 1) ps
    go true t = let y : p ≡ n = eqb-true p n t in rw (t, y, lt-ltb n (n + 1) (omega arith), e)
    go false t = let y : p ≡ n → ⊥ = eqb-false p n t in rw t (step (ltb p n) refl y)
      where
        step : (u : Bool) → ltb p n ≡ u → (p ≡ n → ⊥) → cond (ltb p n) (field_at l p) (bounds 0 0) ∷ seen l (n + 1) ps
            ≡ cond (ltb p (n + 1)) (field_at l p) (bounds 0 0) ∷ seen l (n + 1) ps
        step true u y = let x : p < n = ltb-true p n u in rw (u, lt-ltb p (n + 1) (omega arith))
        step false u y = let x : n ≤ p = ltb-false p n u in rw (u, le-ltb p (n + 1) (omega arith))

field_over : (l : List ℕ) (p : ℕ) → length (fields l) < p → field_at l p ≡ bounds 0 0
unfolding field_at
field_over l p h =
    let z : p ≡ 0 → ⊥ = λ e. omega arith in
    rw (ne_eqb p 0 z) (get_or-eq_default (fields l) (bounds 0 0) {n = p - 1} (omega arith))

pub seen_last : (l ps : List ℕ) (n : ℕ) → length (fields l) < n → seen l n ps ≡ map (field_at l) ps
unfolding seen
seen_last l [] n h = refl
seen_last l (p ∷ ps) n h = rw (seen_last l ps n h) (go (ltb p n) refl)
  where
    go : (t : Bool) → ltb p n ≡ t → cond (ltb p n) (field_at l p) (bounds 0 0) ∷ map (field_at l) ps ≡ field_at l p ∷ map (field_at l) ps
    go true t = rw t
    go false t = let y : n ≤ p = ltb-false p n t in rw (t, field_over l p (omega arith))

-- a turn along the fields of a line, of which n is the next
module _ (l : List ℕ) (at n : ℕ) (first : 1 ≤ n) (left : drop (n - 1) (fields l) ≡ fields_from l at) where
  pub field_here : (a e m : ℕ) → FieldStands l at a e m → field_at l n ≡ bounds a e
  unfolding field_at
  field_here a e m s =
      let z : n ≡ 0 → ⊥ = λ e. omega arith in
      let y : n - 1 + 0 ≡ n - 1 = omega arith in
      rw (ne_eqb n 0 z) (sym (rw (left, s.fields, y) at (get_or-drop (n - 1) (fields l) 0 (bounds 0 0))))

  pub field_next : (a e m : ℕ) → FieldStands l at a e m → drop (n + 1 - 1) (fields l) ≡ fields_from l m
  field_next a e m s =
      let y : n + 1 - 1 ≡ n - 1 + 1 = omega arith in
      rw (y, ← drop-drop 1 (n - 1) (fields l), left, s.fields)

  pub fields_over : length l < at → length (fields l) < n
  fields_over h = let z : length (drop (n - 1) (fields l)) ≡ 0 = rw (left, from_over l at h) in omega (arith, length-drop (n - 1) (fields l))

-- past the last field there is none, and none in column 0
pub field_absent : (l : List ℕ) (p n : ℕ) → length (fields l) < n → (p < n → p ≡ 0) → 0 ≡ (field_at l p).start
unfolding field_at
field_absent l p n h none = go (ltb p n) refl
  where
    go : (t : Bool) → ltb p n ≡ t → 0 ≡ (cond (eqb p 0) (bounds 0 0) (get_or (fields l) (p - 1) (bounds 0 0))).start
    go true t = rw (none (ltb-true p n t))
    go false t = let y : n ≤ p = ltb-false p n t in ap (λ (b : Bounds). b.start) (sym (field_over l p (omega arith)))

-- bounds put down one after the other, each from its column
module _ (f : ℕ → Bounds) (ps : List ℕ) where
  pub put_more :
      (bs : List Bounds) (k : ℕ) (b : Bounds)
      → k < length bs
      → b ≡ f (get_or ps k 0)
      → ((i : ℕ) → i < k → get_or bs i (bounds 0 0) ≡ f (get_or ps i 0))
      → (i : ℕ)
      → i < k + 1
      → get_or (set bs k b) i (bounds 0 0) ≡ f (get_or ps i 0)
  put_more bs k b h e inv i l = go (ℕ_discrete i k)
    where
      go : Dec (i ≡ k) → get_or (set bs k b) i (bounds 0 0) ≡ f (get_or ps i 0)
      go (yes z) = rw z (get_or-set_same bs k b (bounds 0 0) h ∙ e)
      go (no z) = get_or-set_other bs k i b (bounds 0 0) z ∙ inv i (omega arith)

  pub put_all : (bs : List Bounds) (k : ℕ) → length bs ≡ length ps → length ps ≤ k → ((i : ℕ) → i < k → get_or bs i (bounds 0 0) ≡ f (get_or ps i 0)) → bs ≡ map f ps
  put_all bs k e h inv =
      ext_get_or (bounds 0 0) bs (map f ps) (rw length-map e)
      (λ i l. inv i (omega arith) ∙ sym (get_or-map-in f ps i 0 (bounds 0 0) (omega arith)))

-- a field by a table of starts, in the order of the code
module _ (n : ℕ) (t : List ℕ) (p : ℕ) where
  pub by_none : p ≡ 0 → bounds 0 0 ≡ field_by n t p
  unfolding field_by
  by_none e = rw (eq-eqb p 0 e)

  pub by_past : (p ≡ 0 → ⊥) → n < p → bounds 0 0 ≡ field_by n t p
  unfolding field_by
  by_past z h = rw (ne_eqb p 0 z, lt-ltb n p h)

  pub by_table : (p ≡ 0 → ⊥) → p ≤ n → bounds (get_or t (p - 1) 0) (get_or t p 0 - 1) ≡ field_by n t p
  unfolding field_by
  by_table z h = rw (ne_eqb p 0 z, le-ltb n p h)

-- it is the line's, where the table is
module _ (l t : List ℕ) (n : ℕ) (counted : n ≡ length (fields l)) (noted : Noted l t) (wide : n < length t) where
  -- a field that is there ends before the place that is noted for it, and starts at the one before
  by_end : (j : ℕ) → j < length (fields l) → get_or t (j + 1) 0 - 1 ≡ (get_or (fields l) j (bounds 0 0)).end
  unfolding field_at
  by_end j h =
      let z : j + 1 ≡ 0 → ⊥ = λ e. omega arith in
      let y : j + 1 - 1 ≡ j = omega arith in
      let x : get_or t (j + 1) 0 ≡ (get_or (fields l) j (bounds 0 0)).end + 1 = rw (ne_eqb (j + 1) 0 z, y) at (noted.past (j + 1) (omega arith) (omega arith) (omega arith)) in
      omega arith

  by_start : (j : ℕ) → j < length (fields l) → get_or t j 0 ≡ (get_or (fields l) j (bounds 0 0)).start
  unfolding field_at
  by_start zero h = noted.first ∙ sym (fields_begin l)
  by_start (suc j) h =
      let z : suc j ≡ 0 → ⊥ = λ e. omega arith in
      let y : suc j - 1 ≡ j = omega arith in
      (rw (ne_eqb (suc j) 0 z, y) at (noted.past (suc j) (omega arith) (omega arith) (omega arith))) ∙ sym (fields_adjoin l j h)

  pub by_line_lem : (p : ℕ) → field_by n t p ≡ field_at l p
  unfolding field_by field_at
  by_line_lem p = go (eqb p 0) (ltb n p) refl refl
    where
      go : (u v : Bool) → eqb p 0 ≡ u → ltb n p ≡ v → field_by n t p ≡ field_at l p
      go true v e d = rw e
      go false true e d = sym (by_past n t p (eqb-false p 0 e) (ltb-true n p d)) ∙ sym (field_over l p (rw (← counted) (ltb-true n p d)))
      go false false e d =
          let z : p ≡ 0 → ⊥ = eqb-false p 0 e in
          let h : p ≤ n = ltb-false n p d in
          let y : p - 1 + 1 ≡ p = omega arith in
          rw (e, d, by_start (p - 1) (omega arith)) (rw y at (ap (λ (x : ℕ). bounds (get_or (fields l) (p - 1) (bounds 0 0)).start x) (by_end (p - 1) (omega arith))))

  pub inside_by : (p : ℕ) (b : Bounds) → b ≡ field_by n t p → Inside (length l) b
  inside_by p b e = subst (λ (x : Bounds). Inside (length l) x) (sym (e ∙ by_line_lem p)) (field_inside l p)

  -- so the cells by the table are the line's
  cells_same : (ps : List ℕ) → map (field_by n t) ps ≡ map (field_at l) ps
  cells_same [] = refl
  cells_same (p ∷ ps) = rw (by_line_lem p, cells_same ps)

  pub cells_by : (ps : List ℕ) (bs : List Bounds) → bs ≡ map (field_by n t) ps → bs ≡ fields_at l ps
  unfolding fields_at
  cells_by ps bs e = e ∙ cells_same ps

  -- and no place past an end is 0
  pub past_some : (k : ℕ) → 0 < k → k ≤ n → 0 < get_or t k 0
  past_some k h w = omega (arith, noted.past k h (omega arith) (omega arith))

-- a walk along a line notes such a table in one that starts with 0
pub noted_by : (l t u : List ℕ) → t ≡ replicate 33 0 → u ≡ past_ends (take 33 (fields l)) 1 t → Noted l u
unfolding field_at
noted_by l t u z e =
    let bs : List Bounds = take 33 (fields l) in
    let w : length u ≡ 33 = rw (e, past_length bs 1 t, z) in
    let v : length t ≡ 33 = rw z in
    record {
      short = omega arith;
      first = rw e (past_before bs 1 t 0 (omega arith) ∙ rw z);
      past = λ k a b c.
          let n : k ≡ 0 → ⊥ = λ x. omega arith in
          let y : 1 + (k - 1) ≡ k = omega arith in
          let g : get_or bs (k - 1) (bounds 0 0) ≡ get_or (fields l) (k - 1) (bounds 0 0) = get_or-take 33 (fields l) (k - 1) (bounds 0 0) (omega arith) in
          rw (e, ne_eqb k 0 n) (rw (y, g) at (past_at bs 1 t (k - 1) (omega (arith, length-take 33 (fields l))) (omega arith)));
    }

pub fields_first : (l : List ℕ) (at : ℕ) → at ≡ 0 → drop (1 - 1) (fields l) ≡ fields_from l at
fields_first l at e = rw (e, from_start l)

-- the bounds that `locate` gives at k are those of the field in the column at k, and the value there is the row's
module _ (l ps : List ℕ) (k : ℕ) where
  pub cell_at : get_or (fields_at l ps) k (bounds 0 0) ≡ field_at l (get_or ps k 0)
  unfolding fields_at field_at
  cell_at = get_or-map (field_at l) ps k 0

  pub cell_of : value (part l (get_or (fields_at l ps) k (bounds 0 0))) ≡ cell l (get_or ps k 0)
  unfolding cell
  cell_of = rw cell_at

pub row_in_lem : (l ps : List ℕ) → values_of l (fields_at l ps) ≡ row_of ps l
unfolding values_of fields_at row_of cell
row_in_lem l [] = refl
row_in_lem l (p ∷ ps) = rw (row_in_lem l ps)

-- the same by the cells that `locate` gave
module _ (l ps : List ℕ) (bs : List Bounds) (e : bs ≡ fields_at l ps) (k : ℕ) where
  pub located_at : get_or bs k (bounds 0 0) ≡ field_at l (get_or ps k 0)
  located_at = rw e (cell_at l ps k)

  pub located_inside : Inside (length l) (get_or bs k (bounds 0 0))
  located_inside = rw located_at (field_inside l (get_or ps k 0))

  pub located_cell : value (part l (get_or bs k (bounds 0 0))) ≡ cell l (get_or ps k 0)
  located_cell = rw e (cell_of l ps k)

  pub located_value : value (part l (get_or bs k (bounds 0 0))) ≡ get_or (values_of l bs) k []
  located_value = rw (e, row_in_lem l ps, row_at ps l k) (cell_of l ps k)

  pub located_row : values_of l bs ≡ row_of ps l
  located_row = rw e (row_in_lem l ps)
