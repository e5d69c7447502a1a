-- The names of a header, met one after the other: first standings, and the leftmost second one.
use mathlib.Core.Path.{◌≡◌, refl, sym, ◌∙◌}
use mathlib.Core.Bool.{Bool, true, false, cond}
use mathlib.Core.List.{List, [], ◌∷◌}
use Rattle.std.specs.Option.{option_or}
use Rattle.std.proofs.Common.{Some}
use Prim.Native.Nat.{ℕ, zero, suc, ◌+◌, ◌-◌, ◌≤◌, ◌<◌}
use native.Mathlib.Omega.{arith}
use native.Mathlib.Decide.{ℕ_discrete}
use native.Mathlib.Numerals.{unary_clauses}
use lib.Dec.{eqb, ltb}
use lib.ListN.{length, get_or, set, drop, replicate, length-set, get_or-replicate}
use lib.Seq.{get_or-set_same, get_or-set_other, ext_get_or}
use borrow.Author.Tests.{eq-eqb, ne_eqb, eqb-true, ltb-true, ltb-false}
use Rattle.meaning.specs.Lists.{same, place, find, find_again}
use Rattle.meaning.specs.declared.Bounds.{Bounds}
use Rattle.meaning.specs.Bytes.{bounds, part, value, fields, values_of, values}
use Rattle.meaning.specs.Columns.{name_of, count_of, places, field_at}
use Rattle.meaning.specs.Refusals.{rule8}
use Rattle.meaning.proofs.Columns.{Least, none, one, least_is, least_none, place_at}
use Rattle.text.specs.Fields.{values_from, FieldStands}
use Rattle.text.proofs.Fields.{values_start}
use Rattle.schema.specs.Named.{named_by}
use Rattle.schema.proofs.Laws.{count_le, named_is, named_le}
use Rattle.columns.specs.Columns.{places_of, firsts_with, again_with, told}
use Rattle.columns.proofs.Laws.{places_at, place_none, places_ten}

-- ---- one name

-- where a name that was met in column p, 0 being in none, stands first, if these values are left from column n on
abbrev stands_first : List ℕ → ℕ → ℕ → List (List ℕ) → ℕ
stands_first name p n vs = cond (eqb p 0) (find name n vs) p

-- and for the second time, if it was met once at most
abbrev stands_again : List ℕ → ℕ → ℕ → List (List ℕ) → ℕ
stands_again name p n vs = cond (eqb p 0) (find_again name n vs) (find name n vs)

-- the column in which it was met first, a value more: is it the name
abbrev met : Bool → ℕ → ℕ → ℕ
met t p n = cond t (cond (eqb p 0) n p) p

module _ (name v : List ℕ) (p n : ℕ) (vs : List (List ℕ)) where
  first_turn : 1 ≤ n → stands_first name p n (v ∷ vs) ≡ stands_first name (met (same v name) p n) (n + 1) vs
  unfolding find place
  first_turn h = go (same v name) (ℕ_discrete p 0)
    where
      go : (t : Bool) → Dec (p ≡ 0) → cond (eqb p 0) (cond t n (find name (n + 1) vs)) p ≡ stands_first name (met t p n) (n + 1) vs
      go true (yes e) = rw (eq-eqb p 0 e, ne_eqb n 0 (λ z. omega arith))
      go true (no e) = rw (ne_eqb p 0 e, ne_eqb p 0 e)
      go false d = refl

  again_turn : 1 ≤ n → (same v name ≡ true → p ≡ 0) → stands_again name p n (v ∷ vs) ≡ stands_again name (met (same v name) p n) (n + 1) vs
  unfolding find_again find place
  again_turn h once = go (same v name) refl
    where
      go : (t : Bool) → same v name ≡ t
          → cond (eqb p 0) (cond t (find name (n + 1) vs) (find_again name (n + 1) vs)) (cond t n (find name (n + 1) vs)) ≡ stands_again name (met t p n) (n + 1) vs
      go true e = rw (eq-eqb p 0 (once e), ne_eqb n 0 (λ z. omega arith))
      go false e = refl

  -- a name that was met stands here for the second time
  again_here : same v name ≡ true → (p ≡ 0 → ⊥) → stands_again name p n (v ∷ vs) ≡ n
  unfolding find place
  again_here e z = rw (ne_eqb p 0 z, e)

find_from : (name : List ℕ) (n : ℕ) (vs : List (List ℕ)) → 1 ≤ find name n vs → n ≤ find name n vs
unfolding find place
find_from name n [] h = absurd (omega arith)
find_from name n (w ∷ vs) h = go (same w name) h (find_from name (n + 1) vs)
  where
    go : (t : Bool) → {q : ℕ} → 1 ≤ cond t n q → (1 ≤ q → n + 1 ≤ q) → n ≤ cond t n q
    go true b rest = omega arith
    go false b rest = omega (arith, rest b)

again_from : (name : List ℕ) (n : ℕ) (vs : List (List ℕ)) → 1 ≤ find_again name n vs → n ≤ find_again name n vs
unfolding find_again
again_from name n [] h = absurd (omega arith)
again_from name n (w ∷ vs) h = go (same w name) h (again_from name (n + 1) vs)
  where
    go : (t : Bool) → {q : ℕ} → 1 ≤ cond t (find name (n + 1) vs) q → (1 ≤ q → n + 1 ≤ q) → n ≤ cond t (find name (n + 1) vs) q
    go true b rest = omega (arith, find_from name (n + 1) vs b)
    go false b rest = omega (arith, rest b)

stands_from : (name : List ℕ) (p n : ℕ) (vs : List (List ℕ)) → 1 ≤ stands_again name p n vs → n ≤ stands_again name p n vs
stands_from name p n vs = go (eqb p 0)
  where
    go : (t : Bool) → 1 ≤ cond t (find_again name n vs) (find name n vs) → n ≤ cond t (find_again name n vs) (find name n vs)
    go true = again_from name n vs
    go false = find_from name n vs

-- ---- all names of a file

-- one more standing, name by name
firsts_at : (at : List ℕ) (k n j : ℕ) → j < length at → get_or (firsts_with at k n) j 0 ≡ met (eqb k (j + 1)) (get_or at j 0) n
unfolding firsts_with
firsts_at at k n j h = go (ℕ_discrete k 0) (ℕ_discrete (get_or at (k - 1) 0) 0) (ℕ_discrete k (j + 1))
  where
    go : Dec (k ≡ 0) → Dec (get_or at (k - 1) 0 ≡ 0) → Dec (k ≡ j + 1)
        → get_or (cond (eqb k 0) at (cond (eqb (get_or at (k - 1) 0) 0) (set at (k - 1) n) at)) j 0 ≡ met (eqb k (j + 1)) (get_or at j 0) n
    go (yes z) p (yes e) = absurd (omega arith)
    go (yes z) p (no e) = rw (eq-eqb k 0 z, ne_eqb k (j + 1) e)
    go (no z) (yes p) (yes e) =
        let y : k - 1 ≡ j = omega arith in
        let x : get_or at j 0 ≡ 0 = rw y at p in
        rw (ne_eqb k 0 z, eq-eqb k (j + 1) e, y, eq-eqb (get_or at j 0) 0 x) (get_or-set_same at j n 0 h)
    go (no z) (yes p) (no e) =
        let y : j ≡ k - 1 → ⊥ = λ y. e (omega arith) in
        rw (ne_eqb k 0 z, ne_eqb k (j + 1) e, eq-eqb (get_or at (k - 1) 0) 0 p) (get_or-set_other at (k - 1) j n 0 y)
    go (no z) (no p) (yes e) =
        let y : k - 1 ≡ j = omega arith in
        let x : get_or at j 0 ≡ 0 → ⊥ = rw y at p in
        rw (ne_eqb k 0 z, eq-eqb k (j + 1) e, y, ne_eqb (get_or at j 0) 0 x)
    go (no z) (no p) (no e) = rw (ne_eqb k 0 z, ne_eqb k (j + 1) e, ne_eqb (get_or at (k - 1) 0) 0 p)

firsts_ten : (at : List ℕ) (k n : ℕ) → length (firsts_with at k n) ≡ length at
unfolding firsts_with
firsts_ten at k n = go (eqb k 0) (eqb (get_or at (k - 1) 0) 0)
  where
    go : (s t : Bool) → length (cond s at (cond t (set at (k - 1) n) at)) ≡ length at
    go true t = refl
    go false true = length-set at (k - 1) n
    go false false = refl

-- one more standing of a known column, by whether it stood before
module _ (at : List ℕ) (k n : ℕ) where
  one_more : k + 1 ≡ 0 → ⊥
  one_more e = omega arith

  back : k + 1 - 1 ≡ k
  back = omega arith

  pub new_first : get_or at k 0 ≡ 0 → set at k n ≡ firsts_with at (k + 1) n
  unfolding firsts_with
  new_first e = rw (ne_eqb (k + 1) 0 one_more, back, eq-eqb (get_or at k 0) 0 e)

  pub new_again : (a : ℕ) → get_or at k 0 ≡ 0 → a ≡ again_with at a (k + 1) n
  unfolding again_with
  new_again a e = rw (ne_eqb (k + 1) 0 one_more, back, eq-eqb (get_or at k 0) 0 e)

  pub old_first : (get_or at k 0 ≡ 0 → ⊥) → at ≡ firsts_with at (k + 1) n
  unfolding firsts_with
  old_first e = rw (ne_eqb (k + 1) 0 one_more, back, ne_eqb (get_or at k 0) 0 e)

  pub old_again : (a : ℕ) → (get_or at k 0 ≡ 0 → ⊥) → 1 ≤ n → option_or (told a) (Some n) ≡ told (again_with at a (k + 1) n)
  unfolding again_with
  old_again a e h = rw (ne_eqb (k + 1) 0 one_more, back, ne_eqb (get_or at k 0) 0 e) (go (ℕ_discrete a 0))
    where
      go : Dec (a ≡ 0) → option_or (told a) (Some n) ≡ told (cond (eqb a 0) n a)
      go (yes z) = rw (eq-eqb a 0 z, ne_eqb n 0 (λ y. omega arith))
      go (no z) = rw (ne_eqb a 0 z, ne_eqb a 0 z)

-- what a walk that has come to column n of a header knows of its names, these values being left
pub record Met (f : ℕ) (all : List (List ℕ)) (n : ℕ) (vs : List (List ℕ)) (at : List ℕ) (again : ℕ) : Type 0 where
  pub ten : length at ≡ 10
  pub absent : (k : ℕ) → count_of f ≤ k → k < 10 → get_or at k 0 ≡ 0
  pub firsts : (k : ℕ) → k < count_of f → stands_first (name_of f k) (get_or at k 0) n vs ≡ find (name_of f k) 1 all
  pub seconds : again ≡ 0 → (k : ℕ) → k < count_of f → stands_again (name_of f k) (get_or at k 0) n vs ≡ find_again (name_of f k) 1 all
  pub told : (again ≡ 0 → ⊥) → again ≡ rule8 f all

-- where nothing was met yet
pub met_none : (f : ℕ) (all : List (List ℕ)) → Met f all 1 all (replicate 10 0) 0
met_none f all = record {
  ten = refl;
  absent = λ k h g. get_or-replicate {A = ℕ} 10 k 0 0 g;
  firsts = λ k h. rw (get_or-replicate {A = ℕ} 10 k 0 0 (omega (arith, count_le f)));
  seconds = λ z k h. rw (get_or-replicate {A = ℕ} 10 k 0 0 (omega (arith, count_le f)));
  told = λ z. absurd (z refl);
}

-- a value more
module _ (f : ℕ) (all : List (List ℕ)) (n : ℕ) (v : List ℕ) (vs : List (List ℕ)) (at : List ℕ) (again : ℕ) (m : Met f all n (v ∷ vs) at again) (counted : 1 ≤ n) where
  abbrev k : ℕ
  k = named_by f v

  met_at : (j : ℕ) → j < count_of f → get_or (firsts_with at k n) j 0 ≡ met (same v (name_of f j)) (get_or at j 0) n
  met_at j h = rw (named_is f v j h) (firsts_at at k n j (omega (arith, m.ten, count_le f)))

  -- the least second standing, where a name that was met stands here
  here : (j : ℕ) → j < count_of f → again ≡ 0 → same v (name_of f j) ≡ true → (get_or at j 0 ≡ 0 → ⊥) → n ≡ rule8 f all
  unfolding rule8
  here j h z e p = go (least_is g (count_of f))
    where
      g : ℕ → ℕ
      g i = find_again (name_of f i) 1 all

      this : g j ≡ n
      this = sym (m.seconds z j h) ∙ again_here (name_of f j) v (get_or at j 0) n vs e p

      later : (i : ℕ) → i < count_of f → 1 ≤ g i → n ≤ g i
      later i b = rw (m.seconds z i b) at (stands_from (name_of f i) (get_or at i 0) n (v ∷ vs))

      go : {r : ℕ} → Least g (count_of f) r → n ≡ r
      go (none y every) = absurd (omega (arith, every j h, this))
      go (one i b y pos low) = omega (arith, low j h (omega (arith, this)), this, later i b (omega arith))

  -- no name stands for the second time yet, and none does here
  kept : again_with at again k n ≡ 0 → (again ≡ 0) × ((k ≡ 0 → ⊥) → get_or at (k - 1) 0 ≡ 0)
  unfolding again_with
  kept e = go (ℕ_discrete k 0) (ℕ_discrete (get_or at (k - 1) 0) 0) (ℕ_discrete again 0)
    where
      go : Dec (k ≡ 0) → Dec (get_or at (k - 1) 0 ≡ 0) → Dec (again ≡ 0) → (again ≡ 0) × ((k ≡ 0 → ⊥) → get_or at (k - 1) 0 ≡ 0)
      go (yes z) p a = (rw (eq-eqb k 0 z) at e, λ y. absurd (y z))
      go (no z) (yes p) a = (rw (ne_eqb k 0 z, eq-eqb (get_or at (k - 1) 0) 0 p) at e, λ y. p)
      go (no z) (no p) (yes a) = let y : n ≡ 0 = rw (ne_eqb k 0 z, ne_eqb (get_or at (k - 1) 0) 0 p, eq-eqb again 0 a) at e in absurd (omega arith)
      go (no z) (no p) (no a) = absurd (a (rw (ne_eqb k 0 z, ne_eqb (get_or at (k - 1) 0) 0 p, ne_eqb again 0 a) at e))

  named_here : (j : ℕ) → j < count_of f → same v (name_of f j) ≡ true → k ≡ j + 1
  named_here j h e = eqb-true k (j + 1) (sym (named_is f v j h) ∙ e)

  turn_seconds : again_with at again k n ≡ 0 → (j : ℕ) → j < count_of f → stands_again (name_of f j) (get_or (firsts_with at k n) j 0) (n + 1) vs ≡ find_again (name_of f j) 1 all
  turn_seconds e j h =
      rw (met_at j h) (sym (again_turn (name_of f j) v (get_or at j 0) n vs counted once) ∙ m.seconds (kept e).0 j h)
    where
      once : same v (name_of f j) ≡ true → get_or at j 0 ≡ 0
      once t =
          let z : k ≡ j + 1 = named_here j h t in
          let y : k - 1 ≡ j = omega arith in
          rw y at ((kept e).1 (λ x. omega arith))

  turn_told : (again_with at again k n ≡ 0 → ⊥) → again_with at again k n ≡ rule8 f all
  unfolding again_with
  turn_told e = go (ℕ_discrete k 0) (ℕ_discrete (get_or at (k - 1) 0) 0) (ℕ_discrete again 0)
    where
      go : Dec (k ≡ 0) → Dec (get_or at (k - 1) 0 ≡ 0) → Dec (again ≡ 0)
          → cond (eqb k 0) again (cond (eqb (get_or at (k - 1) 0) 0) again (cond (eqb again 0) n again)) ≡ rule8 f all
      go (yes z) p a = rw (eq-eqb k 0 z) (m.told (rw (eq-eqb k 0 z) at e))
      go (no z) (yes p) a = rw (ne_eqb k 0 z, eq-eqb (get_or at (k - 1) 0) 0 p) (m.told (rw (ne_eqb k 0 z, eq-eqb (get_or at (k - 1) 0) 0 p) at e))
      go (no z) (no p) (yes a) =
          let b : k - 1 < count_of f = omega (arith, named_le f v, z) in
          let t : same v (name_of f (k - 1)) ≡ true = named_is f v (k - 1) b ∙ eq-eqb k (k - 1 + 1) (omega (arith, z)) in
          rw (ne_eqb k 0 z, ne_eqb (get_or at (k - 1) 0) 0 p, eq-eqb again 0 a) (here (k - 1) b a t p)
      go (no z) (no p) (no a) = rw (ne_eqb k 0 z, ne_eqb (get_or at (k - 1) 0) 0 p, ne_eqb again 0 a) (m.told a)

  pub met_turn : Met f all (n + 1) vs (firsts_with at k n) (again_with at again k n)
  met_turn = record {
    ten = firsts_ten at k n ∙ m.ten;
    absent = λ j h g. firsts_at at k n j (omega (arith, m.ten)) ∙ rw (ne_eqb k (j + 1) (λ e. omega (arith, named_le f v, e))) (m.absent j h g);
    firsts = λ j h. rw (met_at j h) (sym (first_turn (name_of f j) v (get_or at j 0) n vs counted) ∙ m.firsts j h);
    seconds = turn_seconds;
    told = turn_told;
  }

-- where no value is left
module _ (f : ℕ) (all : List (List ℕ)) (n : ℕ) (at : List ℕ) (again : ℕ) (m : Met f all n [] at again) where
  found : (k : ℕ) → k < count_of f → get_or at k 0 ≡ find (name_of f k) 1 all
  unfolding find place
  found k h = go (ℕ_discrete (get_or at k 0) 0) (m.firsts k h)
    where
      go : Dec (get_or at k 0 ≡ 0) → cond (eqb (get_or at k 0) 0) 0 (get_or at k 0) ≡ find (name_of f k) 1 all → get_or at k 0 ≡ find (name_of f k) 1 all
      go (yes z) e = z ∙ rw (eq-eqb (get_or at k 0) 0 z) at e
      go (no z) e = rw (ne_eqb (get_or at k 0) 0 z) at e

  pub met_firsts : at ≡ places_of f all
  met_firsts = ext_get_or 0 at (places_of f all) (m.ten ∙ sym (places_ten f all)) (λ k h. go k (omega (arith, m.ten)) (ltb k (count_of f)) refl ∙ sym (places_at f all k))
    where
      go : (k : ℕ) → k < 10 → (t : Bool) → ltb k (count_of f) ≡ t → get_or at k 0 ≡ get_or (places f all) k 0
      go k h true t = found k (ltb-true k (count_of f) t) ∙ place_at f k all (ltb-true k (count_of f) t)
      go k h false t = m.absent k (ltb-false k (count_of f) t) h ∙ sym (place_none f k all (ltb-false k (count_of f) t))

  pub met_again : again ≡ rule8 f all
  unfolding rule8 find place find_again
  met_again = go (ℕ_discrete again 0)
    where
      none_left : (t : Bool) → ◌≡◌ {A = ℕ} (cond t 0 0) 0
      none_left true = refl
      none_left false = refl

      go : Dec (again ≡ 0) → again ≡ rule8 f all
      go (yes z) = z ∙ sym ((least_none (λ k. find_again (name_of f k) 1 all) (count_of f)).1 (λ k h. sym (m.seconds z k h) ∙ none_left (eqb (get_or at k 0) 0)))
      go (no z) = m.told z

-- ---- a walk along the fields of a header

pub walk_first : (f : ℕ) (h : List ℕ) (at : ℕ) → at ≡ 0 → Met f (values h) 1 (values_from h at) (replicate 10 0) 0
walk_first f h at e = rw (e, values_start h) (met_none f (values h))

module _ (f : ℕ) (h : List ℕ) (n : ℕ) (ps : List ℕ) (again at : ℕ) where
  pub walk_next :
      Met f (values h) n (values_from h at) ps again
      → 1 ≤ n
      → (a e m : ℕ)
      → FieldStands h at a e m
      → (k : ℕ)
      → k ≡ named_by f (value (part h (bounds a e)))
      → (qs : List ℕ)
      → qs ≡ firsts_with ps k n
      → (q : ℕ)
      → q ≡ again_with ps again k n
      → Met f (values h) (n + 1) (values_from h m) qs q
  walk_next r c a e m s k z qs x q y = rw (x, y, z) (met_turn f (values h) n _ _ ps again (rw s.values at r) c)

  pub walk_last : Met f (values h) n (values_from h at) ps again → values_from h at ≡ [] → (ps ≡ places_of f (values h)) × (again ≡ rule8 f (values h))
  walk_last r e = let l : Met f (values h) n [] ps again = rw e at r in (met_firsts f (values h) n ps again l, met_again f (values h) n ps again l)

-- ---- the same by the columns of its fields

-- the value in a column, and those behind it
value_next : (l : List ℕ) (bs : List Bounds) (j : ℕ) → j < length bs → drop j (values_of l bs) ≡ value (part l (get_or bs j (bounds 0 0))) ∷ drop (j + 1) (values_of l bs)
unfolding values_of
value_next l [] j h = absurd (omega arith)
value_next l (b ∷ bs) zero h = refl
value_next l (b ∷ bs) (suc j) h = simp unary_clauses (simp unary_clauses at (value_next l bs j (omega arith)))

value_all : (l : List ℕ) (bs : List Bounds) (j : ℕ) → length bs ≤ j → drop j (values_of l bs) ≡ []
unfolding values_of
value_all l [] zero h = refl
value_all l [] (suc j) h = refl
value_all l (b ∷ bs) zero h = absurd (omega arith)
value_all l (b ∷ bs) (suc j) h = value_all l bs j (omega arith)

pub near_first : (f : ℕ) (h : List ℕ) → Met f (values h) 1 (drop (1 - 1) (values h)) (replicate 10 0) 0
near_first f h = met_none f (values h)

module _ (f : ℕ) (h : List ℕ) (n : ℕ) (ps : List ℕ) (again : ℕ) (m : Met f (values h) n (drop (n - 1) (values h)) ps again) where
  pub near_next :
      1 ≤ n
      → n ≤ length (fields h)
      → (b : Bounds)
      → b ≡ field_at h n
      → (k : ℕ)
      → k ≡ named_by f (value (part h b))
      → (qs : List ℕ)
      → qs ≡ firsts_with ps k n
      → (q : ℕ)
      → q ≡ again_with ps again k n
      → Met f (values h) (n + 1) (drop (n + 1 - 1) (values h)) qs q
  unfolding values field_at
  near_next c l b e k z qs x q y =
      let o : n ≡ 0 → ⊥ = λ p. omega arith in
      let u : n - 1 + 1 ≡ n = omega arith in
      let w : n + 1 - 1 ≡ n = omega arith in
      let t : b ≡ get_or (fields h) (n - 1) (bounds 0 0) = rw (ne_eqb n 0 o) at e in
      let v = rw (u, ← t) at (value_next h (fields h) (n - 1) (omega arith)) in
      rw (x, y, z, w) (met_turn f (values h) n _ _ ps again (rw v at m) c)

  pub near_last : length (fields h) < n → (ps ≡ places_of f (values h)) × (again ≡ rule8 f (values h))
  unfolding values
  near_last l =
      let e : Met f (values h) n [] ps again = rw (value_all h (fields h) (n - 1) (omega arith)) at m in
      (met_firsts f (values h) n ps again e, met_again f (values h) n ps again e)
