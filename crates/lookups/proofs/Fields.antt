-- A field of a good line, walked alone, is one good field.
use mathlib.Core.Path.{◌≡◌, refl, ap, ◌∙◌}
use mathlib.Core.Bool.{Bool, true, false, cond}
use mathlib.Core.List.{List, [], ◌∷◌}
use Prim.Native.Nat.{ℕ, zero, suc, ◌+◌, ◌-◌, ◌≤◌, ◌<◌}
use native.Mathlib.Omega.{arith}
use native.Mathlib.Numerals.{add-one}
use lib.Dec.{eqb, ltb}
use lib.ListN.{length, get_or, take, drop, length-drop, get_or-eq_default}
use lib.Seq.{drop-drop}
use borrow.Author.Tests.{eqb-true, ltb-true, ltb-false}
use Rattle.meaning.specs.Lists.{any, empty}
use Rattle.meaning.specs.Bytes.{bounds, part, start, class_of, quoting, endings, next, run, good, fields, count_lf, marked, content, undouble, value}
use Rattle.meaning.specs.Columns.{field_at, cell}
use Rattle.meaning.proofs.ListLaws.{both}
use Rattle.text.specs.Lines.{is_lf}
use Rattle.text.specs.Fields.{field_count, field_len, field_state, fields_from}
use Rattle.text.proofs.Fields.{next_lt, fields_count, from_step, from_over, from_start}
use Rattle.text.proofs.Spans.{run_past, state_on}
use Rattle.id_places.proofs.Starts.{shaped}

-- ---- the bytes of a field from a state on

count_one : (q : ℕ) (r : List ℕ) → field_count q (take (field_len q r) r) ≡ 1
unfolding field_count field_len
count_one q [] = refl
count_one q (b ∷ r) = go (eqb (next q b) start) refl (count_one (next q b) r)
  where
    go : (t : Bool) → eqb (next q b) start ≡ t → field_count (next q b) (take (field_len (next q b) r) r) ≡ 1 → field_count q (take (cond t 0 (field_len (next q b) r + 1)) (b ∷ r)) ≡ 1
    go true e ih = refl
    go false e ih = rw (add-one (field_len (next q b) r), e) ih

-- a state that a comma leaves for the next field's start is one in which a line may end
ends_good : (q b : ℕ) → q < 5 → next q b ≡ start → get_or endings q false ≡ true
unfolding next class_of quoting endings
ends_good zero b h e = refl
ends_good (suc zero) b h e = refl
ends_good (suc (suc zero)) b h e = go (eqb b 44) (eqb b 34) e
  where
    go : (x y : Bool) → ◌≡◌ {A = ℕ} (get_or (2 ∷ 3 ∷ 2 ∷ []) (cond x 0 (cond y 1 2)) 0) 0 → false ≡ true
    go true y e = absurd (omega (arith, e))
    go false true e = absurd (omega (arith, e))
    go false false e = absurd (omega (arith, e))
ends_good (suc (suc (suc zero))) b h e = refl
ends_good (suc (suc (suc (suc zero)))) b h e = go (eqb b 44) (eqb b 34) e
  where
    go : (x y : Bool) → ◌≡◌ {A = ℕ} (get_or (4 ∷ 4 ∷ 4 ∷ []) (cond x 0 (cond y 1 2)) 0) 0 → false ≡ true
    go true y e = absurd (omega (arith, e))
    go false true e = absurd (omega (arith, e))
    go false false e = absurd (omega (arith, e))
ends_good (suc (suc (suc (suc (suc q))))) b h e = absurd (omega arith)

good_one : (q : ℕ) (r : List ℕ) → q < 5 → get_or endings (run q r) false ≡ true → get_or endings (run q (take (field_len q r) r)) false ≡ true
unfolding run field_len
good_one q [] h g = g
good_one q (b ∷ r) h g = go (eqb (next q b) start) refl (good_one (next q b) r (next_lt q b) g)
  where
    go : (t : Bool) → eqb (next q b) start ≡ t → get_or endings (run (next q b) (take (field_len (next q b) r) r)) false ≡ true → get_or endings (run q (take (cond t 0 (field_len (next q b) r + 1)) (b ∷ r))) false ≡ true
    go true e ih = ends_good q b h (eqb-true (next q b) start e)
    go false e ih = rw (add-one (field_len (next q b) r)) ih

-- ---- a field of a line

-- a good line goes on well past a field that a comma ends
good_on : (l : List ℕ) (at : ℕ) → at + field_len start (drop at l) < length l → get_or endings (run start (drop at l)) false ≡ true
    → get_or endings (run start (drop (at + field_len start (drop at l) + 1) l)) false ≡ true
good_on l at more g =
    let d : at + field_len start (drop at l) + 1 ≡ at + (field_len start (drop at l) + 1) = omega arith in
    let s : field_state start (drop at l) ≡ start = state_on start (drop at l) (omega (arith, length-drop at l)) in
    let y : run start (drop (field_len start (drop at l) + 1) (drop at l)) ≡ run start (drop at l) = rw s at (run_past start (drop at l)) in
    rw (d, ← drop-drop (field_len start (drop at l) + 1) at l, y) g

-- from where a field begins, a good line goes on well
good_from : (k : ℕ) (l : List ℕ) (at : ℕ) → at ≤ length l → k < length (fields_from l at) → get_or endings (run start (drop at l)) false ≡ true
    → get_or endings (run start (drop (get_or (fields_from l at) k (bounds 0 0)).start l)) false ≡ true
good_from zero l at w h g = rw (from_step l at w (at + field_len start (drop at l)) refl) g
good_from (suc k) l at w h g =
    go (from_step l at w (at + field_len start (drop at l)) refl) (ltb (length l) (at + field_len start (drop at l) + 1)) refl (good_from k l)
  where
    go : fields_from l at ≡ bounds at (at + field_len start (drop at l)) ∷ fields_from l (at + field_len start (drop at l) + 1)
        → (t : Bool) → ltb (length l) (at + field_len start (drop at l) + 1) ≡ t
        → ((n : ℕ) → n ≤ length l → k < length (fields_from l n) → get_or endings (run start (drop n l)) false ≡ true → get_or endings (run start (drop (get_or (fields_from l n) k (bounds 0 0)).start l)) false ≡ true)
        → get_or endings (run start (drop (get_or (fields_from l at) (suc k) (bounds 0 0)).start l)) false ≡ true
    go f true t ih = absurd (omega (arith, h, ap length f, ap length (from_over l (at + field_len start (drop at l) + 1) (ltb-true _ _ t))))
    go f false t ih =
        let m : at + field_len start (drop at l) + 1 ≤ length l = ltb-false _ _ t in
        rw f (ih (at + field_len start (drop at l) + 1) m (omega (arith, h, ap length f)) (good_on l at (omega arith) g))

good_field : (l : List ℕ) (p : ℕ) → good l ≡ true → empty (cell l p) ≡ false → get_or endings (run start (drop (field_at l p).start l)) false ≡ true
unfolding good field_at cell part value marked content undouble empty
good_field l p g h = go (eqb p 0) refl (ltb (p - 1) (length (fields l))) refl
  where
    go : (t : Bool) → eqb p 0 ≡ t → (u : Bool) → ltb (p - 1) (length (fields l)) ≡ u
        → get_or endings (run start (drop (cond t (bounds 0 0) (get_or (fields l) (p - 1) (bounds 0 0))).start l)) false ≡ true
    go true e u f = both true refl (rw e at h)
    go false e false f = both true refl (rw (e, get_or-eq_default (fields l) (bounds 0 0) {n = p - 1} (ltb-false _ _ f)) at h)
    go false e true f = rw (← from_start l) (good_from (p - 1) l 0 (omega arith) (rw (from_start l) (ltb-true _ _ f)) g)

none_take : (n : ℕ) (l : List ℕ) → any is_lf l ≡ false → count_lf (take n l) ≡ 0
unfolding any count_lf
none_take zero l h = refl
none_take (suc n) [] h = refl
none_take (suc n) (b ∷ r) h = go (eqb b 10) refl (none_take n r)
  where
    go : (t : Bool) → eqb b 10 ≡ t → (any is_lf r ≡ false → count_lf (take n r) ≡ 0) → cond (eqb b 10) (count_lf (take n r) + 1) (count_lf (take n r)) ≡ 0
    go true e ih = both true refl (rw e at h)
    go false e ih = rw e (ih (rw e at h))

none_drop : (k : ℕ) (l : List ℕ) → any is_lf l ≡ false → any is_lf (drop k l) ≡ false
unfolding any
none_drop zero l h = h
none_drop (suc k) [] h = h
none_drop (suc k) (b ∷ r) h = go (eqb b 10) h (none_drop k r)
  where
    go : (t : Bool) → cond t true (any is_lf r) ≡ false → (any is_lf r ≡ false → any is_lf (drop k r) ≡ false) → any is_lf (drop k r) ≡ false
    go true e ih = both true refl e
    go false e ih = ih e

-- a field that has a value, of a good line
module _ (l : List ℕ) (p : ℕ) (there : empty (cell l p) ≡ false) where
  field_is : part l (field_at l p) ≡ take (field_len start (drop (field_at l p).start l)) (drop (field_at l p).start l)
  unfolding part
  field_is = let k : (field_at l p).end - (field_at l p).start ≡ field_len start (drop (field_at l p).start l) = omega (arith, shaped l p there) in rw k

  pub field_one : length (fields (part l (field_at l p))) ≡ 1
  field_one = fields_count (part l (field_at l p)) ∙ rw field_is (count_one start (drop (field_at l p).start l))

  pub field_good : good l ≡ true → good (part l (field_at l p)) ≡ true
  unfolding good
  field_good g = rw field_is (good_one start (drop (field_at l p).start l) (omega arith) (good_field l p g there))

  pub field_lf : any is_lf l ≡ false → count_lf (part l (field_at l p)) ≡ 0
  unfolding part
  field_lf h = none_take ((field_at l p).end - (field_at l p).start) (drop (field_at l p).start l) (none_drop (field_at l p).start l h)
