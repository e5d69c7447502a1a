-- Laws of fields: stray bytes, the quoting table, the count of fields, and a cursor's step along a line.
use Rattle.std.specs.Prelude.{Some, None}
use Rattle.std.proofs.lemmas.Option.{same_Some}
use mathlib.Core.Path.{◌≡◌, refl, sym, ap, ◌∙◌}
use mathlib.Core.Bool.{Bool, true, false, cond, ◌||◌}
use mathlib.Core.List.{List, [], ◌∷◌, ◌++◌}
use Prim.Native.Nat.{ℕ, zero, suc, ◌+◌, ◌-◌, ◌≤◌, ◌<◌, zero-le}
use native.Mathlib.Numerals.{add-one}
use native.Mathlib.Omega.{arith}
use native.Mathlib.Nat.{add-zero, not-suc-le-zero, le_of_suc-le-suc}
use lib.Dec.{eqb, ltb, leb→le}
use lib.ListN.{length, get_or, take, drop, length-drop, take-append-drop}
use lib.Seq.{drop-drop}
use borrow.Author.Tests.{eq-eqb, ne_eqb, lt-ltb, le-ltb, eqb-true, ltb-true, ltb-false}
use Rattle.meaning.specs.declared.Bounds.{Bounds}
use Rattle.meaning.specs.Bytes.{bounds, part, start, class_of, quoting, next, fields_go, fields, value, values_of, values}
use Rattle.meaning.specs.Columns.{field_at}
use Rattle.meaning.specs.Refusals.{rule5}
use Rattle.text.specs.declared.Cursor.{Cursor}
use Rattle.text.specs.Fields.{field_count, field_len, field_state, step_at, fields_from, values_from, FieldStands, Inside}
use Rattle.meaning.proofs.Computed.{all, get_d_all}
use Rattle.text.proofs.Laws.{drop_next, drop_over}

-- a turn along the bytes, on whether a stray one is left
module _ (s : List ℕ) (i : ℕ) (k : Bool) (inv : rule5 (drop i s) ≡ k) where
  pub stray_tab : i < length s → get_or s i 0 ≡ 9 → true ≡ k
  unfolding rule5
  stray_tab h e = rw (drop_next s i h, eq-eqb _ _ e) at inv

  pub stray_cr : i < length s → (get_or s i 0 ≡ 9 → ⊥) → get_or s i 0 ≡ 13 → true ≡ k
  unfolding rule5
  stray_cr h d e = rw (drop_next s i h, ne_eqb _ _ d, eq-eqb _ _ e) at inv

  pub stray_next : i < length s → (get_or s i 0 ≡ 9 → ⊥) → (get_or s i 0 ≡ 13 → ⊥) → rule5 (drop (i + 1) s) ≡ k
  unfolding rule5
  stray_next h d e = rw (drop_next s i h, ne_eqb _ _ d, ne_eqb _ _ e) at inv

  pub stray_over : length s ≤ i → false ≡ k
  unfolding rule5
  stray_over h = rw (drop_over s i h) at inv

-- the same of two parts
stray_append : (a b : List ℕ) → rule5 (a ++ b) ≡ (rule5 a || rule5 b)
unfolding rule5
stray_append [] b = refl
stray_append (x ∷ a) b = go (eqb x 9) (eqb x 13) (stray_append a b)
  where
    go : (t u : Bool) → rule5 (a ++ b) ≡ (rule5 a || rule5 b) → cond t true (cond u true (rule5 (a ++ b))) ≡ (cond t true (cond u true (rule5 a)) || rule5 b)
    go true u e = refl
    go false true e = refl
    go false false e = e

-- a turn along the stretches, from i to j, by what its own tells
module _ (s : List ℕ) (i j : ℕ) (ordered : i ≤ j) (t k : Bool) (told : t ≡ rule5 (take (j - i) (drop i s))) (inv : rule5 (drop i s) ≡ k) where
  stray_parts : (t || rule5 (drop j s)) ≡ k
  stray_parts =
      let r = drop i s in
      let d : i + (j - i) ≡ j = omega arith in
      let y : rule5 (drop (j - i) r) ≡ rule5 (drop j s) = rw (drop-drop (j - i) i s, d) in
      let z : rule5 r ≡ (rule5 (take (j - i) r) || rule5 (drop (j - i) r)) =
      ap rule5 (sym (take-append-drop (j - i) r)) ∙ stray_append (take (j - i) r) (drop (j - i) r) in
      rw (told, ← y) (sym z ∙ inv)

  pub stray_within : t ≡ true → true ≡ k
  stray_within e = rw e at stray_parts

  pub stray_past : t ≡ false → rule5 (drop j s) ≡ k
  stray_past e = rw e at stray_parts

  pub stray_last : length s ≤ j → t ≡ k
  unfolding rule5
  stray_last over = go t (rw (drop_over s j over) at stray_parts)
    where
      go : (t : Bool) → (t || false) ≡ k → t ≡ k
      go true e = e
      go false e = e

pub next_lt : (q b : ℕ) → next q b < 5
unfolding next quoting
next_lt q b =
    leb→le (suc (next q b)) 5
    (get_d_all (λ x. ltb x 5) 0 tt (get_or quoting q [])
    (get_d_all (λ r. all (λ x. ltb x 5) r) [] tt quoting tt q)
    (class_of b))

pub next_at : (q b k : ℕ) → k ≡ class_of b → (get_or (get_or quoting q []) k 0 ≡ next q b) × (get_or (get_or quoting q []) k 0 < 5)
unfolding next
next_at q b k e = rw e (refl, next_lt q b)

-- as many fields as the count says
go_count : (q st at : ℕ) (r : List ℕ) → length (fields_go q st at r) ≡ field_count q r
unfolding fields_go field_count
go_count q st at [] = refl
go_count q st at (b ∷ r) = go (eqb (next q b) start) (go_count (next q b) (at + 1) (at + 1) r) (go_count (next q b) st (at + 1) r)
  where
    go : (t : Bool) → length (fields_go (next q b) (at + 1) (at + 1) r) ≡ field_count (next q b) r → length (fields_go (next q b) st (at + 1) r) ≡ field_count (next q b) r
        → length (cond t (bounds st at ∷ fields_go (next q b) (at + 1) (at + 1) r) (fields_go (next q b) st (at + 1) r)) ≡ cond t (field_count (next q b) r + 1) (field_count (next q b) r)
    go true x y = omega arith
    go false x y = y

pub fields_count : (l : List ℕ) → length (fields l) ≡ field_count start l
unfolding fields
fields_count l = go_count start 0 0 l

-- the end of a field lies within what is left
field_within : (q : ℕ) (r : List ℕ) → field_len q r ≤ length r
unfolding field_len
field_within q [] = omega arith
field_within q (b ∷ r) = go (eqb (next q b) start) (field_within (next q b) r)
  where
    go : (t : Bool) → field_len (next q b) r ≤ length r → cond t 0 (field_len (next q b) r + 1) ≤ suc (length r)
    go true h = omega arith
    go false h = omega arith

pub end_within : (l : List ℕ) (at e : ℕ) → at ≤ length l → e ≡ at + field_len start (drop at l) → e ≤ length l
end_within l at e h p = omega (arith, field_within start (drop at l), length-drop at l)

-- what is left of the fields after one that ends at e, by what stands there
abbrev after : ℕ → List ℕ → List Bounds
after e [] = []
after e (b ∷ r) = fields_go start (e + 1) (e + 1) r

fields_step : (q st at : ℕ) (r : List ℕ) → fields_go q st at r ≡ bounds st (at + field_len q r) ∷ after (at + field_len q r) (drop (field_len q r) r)
unfolding fields_go field_len
fields_step q st at [] = rw (add-zero at)
fields_step q st at (b ∷ r) = go (eqb (next q b) start) refl (fields_step (next q b) st (at + 1) r)
  where
    go : (t : Bool) → eqb (next q b) start ≡ t
        → fields_go (next q b) st (at + 1) r ≡ bounds st (at + 1 + field_len (next q b) r) ∷ after (at + 1 + field_len (next q b) r) (drop (field_len (next q b) r) r)
        → fields_go q st at (b ∷ r) ≡ bounds st (at + field_len q (b ∷ r)) ∷ after (at + field_len q (b ∷ r)) (drop (field_len q (b ∷ r)) (b ∷ r))
    go true e ih = let z : next q b ≡ start = eqb-true (next q b) start e in rw (z, add-zero at)
    go false e ih =
        let k : at + (field_len (next q b) r + 1) ≡ at + 1 + field_len (next q b) r = omega arith in
        rw (e, k, add-one (field_len (next q b) r)) ih

-- where a field begins, the first field ends at its end, and the others are those from past it
module _ (l : List ℕ) (at : ℕ) (within : at ≤ length l) (e : ℕ) (ends : e ≡ at + field_len start (drop at l)) where
  after_from : after e (drop e l) ≡ fields_from l (e + 1)
  unfolding fields_from
  after_from = go (ltb e (length l)) refl
    where
      go : (t : Bool) → ltb e (length l) ≡ t → after e (drop e l) ≡ cond (ltb (length l) (e + 1)) [] (fields_go start (e + 1) (e + 1) (drop (e + 1) l))
      go true t =
          let h : e < length l = ltb-true e (length l) t in
          rw (drop_next l e h, le-ltb (length l) (e + 1) (omega arith))
      go false t =
          let h : length l ≤ e = ltb-false e (length l) t in
          rw (drop_over l e h, lt-ltb (length l) (e + 1) (omega arith))

  pub from_step : fields_from l at ≡ bounds at e ∷ fields_from l (e + 1)
  unfolding fields_from
  from_step =
      let s : fields_go start at at (drop at l) ≡ bounds at e ∷ after e (drop e l) =
      rw (ends, ← drop-drop (field_len start (drop at l)) at l) (fields_step start at at (drop at l)) in
      rw (← after_from, le-ltb (length l) at within) s

  pub values_step : values_from l at ≡ value (part l (bounds at e)) ∷ values_from l (e + 1)
  unfolding values_from values_of
  values_step = rw from_step

pub from_over : (l : List ℕ) (at : ℕ) → length l < at → fields_from l at ≡ []
unfolding fields_from
from_over l at h = rw (lt-ltb (length l) at h)

pub values_over : (l : List ℕ) (at : ℕ) → length l < at → values_from l at ≡ []
unfolding values_from values_of
values_over l at h = rw (from_over l at h)

pub from_start : (l : List ℕ) → fields_from l 0 ≡ fields l
unfolding fields_from fields
from_start l = rw (le-ltb (length l) 0 zero-le)

pub values_start : (l : List ℕ) → values_from l 0 ≡ values l
unfolding values_from values
values_start l = rw (from_start l)

-- a cursor's step, in the order of the code
pub step_over : (l : List ℕ) (at : ℕ) → length l < at → None ≡ step_at l at
unfolding step_at
step_over l at h = rw (lt-ltb (length l) at h)

pub step_to : (l : List ℕ) (at e z : ℕ) → at ≤ length l → (e ≡ at + field_len start (drop at l)) × (z ≡ field_state start (drop at l))
    → Some (bounds at e, record { at = e + 1; state = z }) ≡ step_at l at
unfolding step_at
step_to l at e z h p = rw (le-ltb (length l) at h, ← p.0, ← p.1)

-- a step that finds a field, from any byte
pub field_found : (l : List ℕ) (at a e : ℕ) (n : Cursor) → step_at l at ≡ Some (bounds a e, n) → FieldStands l at a e n.at
unfolding step_at
field_found l at a e n p = go (ltb (length l) at) refl (at + field_len start (drop at l)) refl
  where
    go : (t : Bool) → ltb (length l) at ≡ t → (k : ℕ) → k ≡ at + field_len start (drop at l) → FieldStands l at a e n.at
    go true t k q = let z : None ≡ Some (bounds a e, n) = rw t at p in let w : ◌≡◌ {A = ℕ} 0 1 = cc in absurd (omega arith)
    go false t k q =
        let h : at ≤ length l = ltb-false (length l) at t in
        let s : ℕ = field_state start (drop at l) in
        let z : Some (bounds at k, record { at = k + 1; state = s }) ≡ Some (bounds a e, n) = rw q (rw t at p) in
        let v : ◌≡◌ {A = Bounds × Cursor} (bounds at k, record { at = k + 1; state = s }) (bounds a e, n) = same_Some _ _ z in
        let x : at ≡ a = ap (λ (w : Bounds × Cursor). w.0.start) v in
        let y : k ≡ e = ap (λ (w : Bounds × Cursor). w.0.end) v in
        let m : k + 1 ≡ n.at = ap (λ (w : Bounds × Cursor). w.1.at) v in
        record {
          starts = sym x;
          ordered = omega arith;
          within = omega (arith, end_within l at k h q);
          moves = omega arith;
          fields = rw (← x, ← y, ← m) (from_step l at h k q);
          values = rw (← x, ← y, ← m) (values_step l at h k q);
        }

-- and where the cursor has moved
pub field_moved : (l : List ℕ) (at a e : ℕ) (n : Cursor) → step_at l at ≡ Some (bounds a e, n)
    → n ≡ record { at = at + field_len start (drop at l) + 1; state = field_state start (drop at l) }
unfolding step_at
field_moved l at a e n p = go (ltb (length l) at) refl
  where
    m : Cursor
    m = record { at = at + field_len start (drop at l) + 1; state = field_state start (drop at l) }

    go : (t : Bool) → ltb (length l) at ≡ t → n ≡ m
    go true t = let z : None ≡ Some (bounds a e, n) = rw t at p in let w : ◌≡◌ {A = ℕ} 0 1 = cc in absurd (omega arith)
    go false t = let z : Some (bounds at (at + field_len start (drop at l)), m) ≡ Some (bounds a e, n) = rw t at p in sym (ap (λ (w : Bounds × Cursor). w.1) (same_Some _ _ z))

-- a step that finds none
pub field_none : (l : List ℕ) (at : ℕ) → step_at l at ≡ None → length l < at
unfolding step_at
field_none l at p = go (ltb (length l) at) refl
  where
    go : (t : Bool) → ltb (length l) at ≡ t → length l < at
    go true t = ltb-true (length l) at t
    go false t =
        let z : Some (bounds at (at + field_len start (drop at l)), record { at = at + field_len start (drop at l) + 1; state = field_state start (drop at l) }) ≡ None = rw t at p in
        let w : ◌≡◌ {A = ℕ} 0 1 = cc in omega arith

pub fields_none : (l : List ℕ) (at : ℕ) → step_at l at ≡ None → fields_from l at ≡ []
fields_none l at p = from_over l at (field_none l at p)

pub values_none : (l : List ℕ) (at : ℕ) → step_at l at ≡ None → values_from l at ≡ []
values_none l at p = values_over l at (field_none l at p)

-- every field of what is left lies within the line
go_inside : (q st at : ℕ) (r : List ℕ) (n : ℕ) → st ≤ at → at + length r ≡ n → (j : ℕ) → Inside n (get_or (fields_go q st at r) j (bounds 0 0))
unfolding fields_go
go_inside q st at [] n h e zero = record { ordered = h; within = omega arith }
go_inside q st at [] n h e (suc j) = record { ordered = omega arith; within = omega arith }
go_inside q st at (b ∷ r) n h e j =
    go (eqb (next q b) start) j
    (go_inside (next q b) (at + 1) (at + 1) r n (omega arith) (omega arith))
    (go_inside (next q b) st (at + 1) r n (omega arith) (omega arith))
  where
    go : (t : Bool) (j : ℕ)
        → ((i : ℕ) → Inside n (get_or (fields_go (next q b) (at + 1) (at + 1) r) i (bounds 0 0)))
        → ((i : ℕ) → Inside n (get_or (fields_go (next q b) st (at + 1) r) i (bounds 0 0)))
        → Inside n (get_or (cond t (bounds st at ∷ fields_go (next q b) (at + 1) (at + 1) r) (fields_go (next q b) st (at + 1) r)) j (bounds 0 0))
    go true zero y x = record { ordered = h; within = omega arith }
    go true (suc j) y x = y j
    go false j y x = x j

-- the first field starts where it began, each later one past the end of that before it
go_first : (q st at : ℕ) (r : List ℕ) → (get_or (fields_go q st at r) 0 (bounds 0 0)).start ≡ st
unfolding fields_go
go_first q st at [] = refl
go_first q st at (b ∷ r) = go (eqb (next q b) start) (go_first (next q b) st (at + 1) r)
  where
    go : (t : Bool) → (get_or (fields_go (next q b) st (at + 1) r) 0 (bounds 0 0)).start ≡ st
        → (get_or (cond t (bounds st at ∷ fields_go (next q b) (at + 1) (at + 1) r) (fields_go (next q b) st (at + 1) r)) 0 (bounds 0 0)).start ≡ st
    go true ih = refl
    go false ih = ih

go_next : (q st at : ℕ) (r : List ℕ) (j : ℕ) → suc j < length (fields_go q st at r)
    → (get_or (fields_go q st at r) (suc j) (bounds 0 0)).start ≡ (get_or (fields_go q st at r) j (bounds 0 0)).end + 1
unfolding fields_go
go_next q st at [] j h = absurd (not-suc-le-zero (le_of_suc-le-suc h))
go_next q st at (b ∷ r) j h =
    go (eqb (next q b) start) j h (go_next (next q b) (at + 1) (at + 1) r) (go_next (next q b) st (at + 1) r) (go_first (next q b) (at + 1) (at + 1) r)
  where
    y : List Bounds
    y = fields_go (next q b) (at + 1) (at + 1) r

    n : List Bounds
    n = fields_go (next q b) st (at + 1) r

    go : (t : Bool) (j : ℕ) → suc j < length (cond t (bounds st at ∷ y) n)
        → ((i : ℕ) → suc i < length y → (get_or y (suc i) (bounds 0 0)).start ≡ (get_or y i (bounds 0 0)).end + 1)
        → ((i : ℕ) → suc i < length n → (get_or n (suc i) (bounds 0 0)).start ≡ (get_or n i (bounds 0 0)).end + 1)
        → (get_or y 0 (bounds 0 0)).start ≡ at + 1
        → (get_or (cond t (bounds st at ∷ y) n) (suc j) (bounds 0 0)).start ≡ (get_or (cond t (bounds st at ∷ y) n) j (bounds 0 0)).end + 1
    go true zero h p o f = f
    go true (suc j) h p o f = p j (le_of_suc-le-suc h)
    go false j h p o f = o j h

pub fields_begin : (l : List ℕ) → (get_or (fields l) 0 (bounds 0 0)).start ≡ 0
unfolding fields
fields_begin l = go_first start 0 0 l

pub fields_adjoin : (l : List ℕ) (j : ℕ) → suc j < length (fields l) → (get_or (fields l) (suc j) (bounds 0 0)).start ≡ (get_or (fields l) j (bounds 0 0)).end + 1
unfolding fields
fields_adjoin l j h = go_next start 0 0 l j h

-- every field lies within its line, and so does the default
pub fields_inside : (l : List ℕ) (j : ℕ) → Inside (length l) (get_or (fields l) j (bounds 0 0))
unfolding fields
fields_inside l j = go_inside start 0 0 l (length l) (omega arith) (omega arith) j

pub field_inside : (l : List ℕ) (p : ℕ) → Inside (length l) (field_at l p)
unfolding field_at
field_inside l p = go (eqb p 0)
  where
    go : (t : Bool) → Inside (length l) (cond t (bounds 0 0) (get_or (fields l) (p - 1) (bounds 0 0)))
    go true = record { ordered = omega arith; within = omega arith }
    go false = fields_inside l (p - 1)
