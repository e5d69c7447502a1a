-- The field that begins where an id does has the id's value, and ids of later records begin later.
use Rattle.std.specs.Prelude.{Option, Some, None}
use mathlib.Core.Path.{◌≡◌, refl, sym, ap, ◌∙◌}
use mathlib.Core.Bool.{Bool, true, false, cond}
use mathlib.Core.List.{List, [], ◌∷◌, ◌++◌}
use Prim.Native.Nat.{ℕ, zero, suc, ◌+◌, ◌-◌, ◌≤◌, ◌<◌}
use native.Mathlib.Omega.{arith}
use lib.Dec.{eqb, ltb}
use lib.ListN.{length, get_or, drop, length-drop, take-append-drop, get_or-eq_default}
use lib.Seq.{take-append-le, drop-append-le, drop-drop}
use borrow.Author.Tests.{ltb-true, ltb-false}
use Rattle.meaning.specs.Lists.{any, empty}
use Rattle.meaning.specs.Bytes.{Line, bounds, part, start, fields, marked, content, undouble, value, lines_from}
use Rattle.meaning.specs.Columns.{field_at, cell}
use Rattle.meaning.specs.Refusals.{rule5}
use Rattle.meaning.specs.Promises.{no_line}
use Rattle.meaning.proofs.ListLaws.{both}
use Rattle.meaning.specs.declared.Bounds.{Bounds}
use Rattle.text.specs.Lines.{line_at, LineStands}
use Rattle.text.specs.Fields.{field_len, ends_line, field_run, field_on, fields_from}
use Rattle.text.proofs.Laws.{drop_next, part_length}
use Rattle.text.proofs.Lines.{line_found, line_none}
use Rattle.text.proofs.Fields.{from_step, from_over, from_start, field_inside}
use Rattle.text.proofs.Runs.{run_is}
use Rattle.ordering.specs.Ids.{value_on}
use Rattle.id_places.specs.Places.{start_in}
use Rattle.text.specs.Lines.{is_lf}
use Rattle.id_places.proofs.Ends.{calm, line_ends}

-- a line as it stands in its file, up to byte n, where the next one starts
pub record Stood (s : List ℕ) (l : Line) (n : ℕ) : Type 0 where
  pub end : ℕ
  pub text : l.text ≡ part s (bounds l.start end)
  pub ordered : l.start ≤ end
  pub past : end < n
  pub within : n ≤ length s
  pub ends : ends_line (get_or s end 0) ≡ true
  pub one : any is_lf l.text ≡ false

-- how a line stands among those from a byte on: the lines after it start where it is over
pub record Among (s : List ℕ) (at k : ℕ) : Type 0 where
  pub over : ℕ
  pub stood : Stood s (get_or (lines_from s at) k no_line) over
  pub from : at ≤ (get_or (lines_from s at) k no_line).start
  pub later : (j : ℕ) → k < j → j < length (lines_from s at) → over ≤ (get_or (lines_from s at) j no_line).start

-- the first line from a byte on
first_stood : (s : List ℕ) (at a e n : ℕ) → line_at s at ≡ Some (bounds a e, n) → Stood s (record { start = a; text = part s (bounds a e) }) n
first_stood s at a e n p =
    let h = line_found s at a e n p in
    let d = line_ends s at a e n p in
    record { end = e; text = refl; ordered = h.ordered; past = h.before; within = h.within; ends = d.0; one = d.1 }

-- every line from a byte on starts no earlier
starts_from : (k : ℕ) (s : List ℕ) (at : ℕ) → k < length (lines_from s at) → at ≤ (get_or (lines_from s at) k no_line).start
starts_from zero s at h = go (line_at s at) refl
  where
    go : (v : Option (Bounds × ℕ)) → line_at s at ≡ v → at ≤ (get_or (lines_from s at) 0 no_line).start
    go None p = absurd (omega (arith, ap length (line_none s at p)))
    go (Some (b, n)) p = let f = line_found s at b.start b.end n p in rw f.lines (omega (arith, f.starts))
starts_from (suc k) s at h = go (line_at s at) refl (starts_from k s)
  where
    go : (v : Option (Bounds × ℕ)) → line_at s at ≡ v → ((m : ℕ) → k < length (lines_from s m) → m ≤ (get_or (lines_from s m) k no_line).start) → at ≤ (get_or (lines_from s at) (suc k) no_line).start
    go None p ih = absurd (omega (arith, ap length (line_none s at p)))
    go (Some (b, n)) p ih =
        let f = line_found s at b.start b.end n p in
        let l : k < length (lines_from s n) = omega (arith, ap length f.lines) in
        rw f.lines (omega (arith, ih n l, f.starts, f.ordered, f.before))

-- each line stands so
pub among : (k : ℕ) (s : List ℕ) (at : ℕ) → k < length (lines_from s at) → Among s at k
among zero s at h = go (line_at s at) refl
  where
    go : (v : Option (Bounds × ℕ)) → line_at s at ≡ v → Among s at 0
    go None p = absurd (omega (arith, ap length (line_none s at p)))
    go (Some (b, n)) p =
        let f = line_found s at b.start b.end n p in
        record { over = n; stood = rw f.lines (first_stood s at b.start b.end n p); from = starts_from 0 s at h; later = rw f.lines after }
      where
        after : (j : ℕ) → 0 < j → j < suc (length (lines_from s n)) → n ≤ (get_or (record { start = b.start; text = part s (bounds b.start b.end) } ∷ lines_from s n) j no_line).start
        after zero x y = absurd (omega arith)
        after (suc j) x y = starts_from j s n (omega arith)
among (suc k) s at h = go (line_at s at) refl (among k s)
  where
    go : (v : Option (Bounds × ℕ)) → line_at s at ≡ v → ((m : ℕ) → k < length (lines_from s m) → Among s m k) → Among s at (suc k)
    go None p ih = absurd (omega (arith, ap length (line_none s at p)))
    go (Some (b, n)) p ih = carry (line_found s at b.start b.end n p) (ih n (omega (arith, ap length (line_found s at b.start b.end n p).lines)))
      where
        after : (o : ℕ) → ((j : ℕ) → k < j → j < length (lines_from s n) → o ≤ (get_or (lines_from s n) j no_line).start)
            → (j : ℕ) → suc k < j → j < suc (length (lines_from s n)) → o ≤ (get_or (record { start = b.start; text = part s (bounds b.start b.end) } ∷ lines_from s n) j no_line).start
        after o l zero x y = absurd (omega arith)
        after o l (suc j) x y = l j (omega arith) (omega arith)

        carry : LineStands s at b.start b.end n → Among s n k → Among s at (suc k)
        carry f r = record { over = r.over; stood = rw f.lines r.stood; from = starts_from (suc k) s at h; later = rw f.lines (after r.over r.later) }

-- ---- a field of a line, in its file

-- where a field ends
shape_from : (k : ℕ) (l : List ℕ) (at : ℕ) → k < length (fields_from l at)
    → (get_or (fields_from l at) k (bounds 0 0)).end ≡ (get_or (fields_from l at) k (bounds 0 0)).start + field_len start (drop (get_or (fields_from l at) k (bounds 0 0)).start l)
shape_from zero l at h = go (ltb (length l) at) refl
  where
    go : (t : Bool) → ltb (length l) at ≡ t → (get_or (fields_from l at) 0 (bounds 0 0)).end ≡ (get_or (fields_from l at) 0 (bounds 0 0)).start + field_len start (drop (get_or (fields_from l at) 0 (bounds 0 0)).start l)
    go true t = absurd (omega (arith, ap length (from_over l at (ltb-true (length l) at t))))
    go false t = rw (from_step l at (ltb-false (length l) at t) (at + field_len start (drop at l)) refl)
shape_from (suc k) l at h = go (ltb (length l) at) refl (shape_from k l)
  where
    go : (t : Bool) → ltb (length l) at ≡ t
        → ((m : ℕ) → k < length (fields_from l m) → (get_or (fields_from l m) k (bounds 0 0)).end ≡ (get_or (fields_from l m) k (bounds 0 0)).start + field_len start (drop (get_or (fields_from l m) k (bounds 0 0)).start l))
        → (get_or (fields_from l at) (suc k) (bounds 0 0)).end ≡ (get_or (fields_from l at) (suc k) (bounds 0 0)).start + field_len start (drop (get_or (fields_from l at) (suc k) (bounds 0 0)).start l)
    go true t ih = absurd (omega (arith, ap length (from_over l at (ltb-true (length l) at t))))
    go false t ih =
        let f = from_step l at (ltb-false (length l) at t) (at + field_len start (drop at l)) refl in
        rw f (ih (at + field_len start (drop at l) + 1) (omega (arith, ap length f)))

-- a value that isn't empty has a field
pub shaped : (l : List ℕ) (p : ℕ) → empty (cell l p) ≡ false → (field_at l p).end ≡ (field_at l p).start + field_len start (drop (field_at l p).start l)
unfolding field_at cell part value marked content undouble empty
shaped l p h = go (eqb p 0) refl (ltb (p - 1) (length (fields l))) refl
  where
    go : (t : Bool) → eqb p 0 ≡ t → (u : Bool) → ltb (p - 1) (length (fields l)) ≡ u
        → (cond t (bounds 0 0) (get_or (fields l) (p - 1) (bounds 0 0))).end ≡ (cond t (bounds 0 0) (get_or (fields l) (p - 1) (bounds 0 0))).start + field_len start (drop (cond t (bounds 0 0) (get_or (fields l) (p - 1) (bounds 0 0))).start l)
    go true e u f = both true refl (rw e at h)
    go false e false f = both true refl (rw (e, get_or-eq_default (fields l) (bounds 0 0) {n = p - 1} (ltb-false _ _ f)) at h)
    go false e true f = rw (← from_start l) (shape_from (p - 1) l 0 (rw (from_start l) (ltb-true _ _ f)))

any_drop : (k : ℕ) (l : List ℕ) → any ends_line l ≡ false → any ends_line (drop k l) ≡ false
unfolding any
any_drop zero l h = h
any_drop (suc k) [] h = h
any_drop (suc k) (b ∷ r) h = go (ends_line b) h (any_drop k r)
  where
    go : (t : Bool) → cond t true (any ends_line r) ≡ false → (any ends_line r ≡ false → any ends_line (drop k r) ≡ false) → any ends_line (drop k r) ≡ false
    go true e ih = both true refl e
    go false e ih = ih e

module _ (s : List ℕ) (l : Line) (n p : ℕ) (here : Stood s l n) where
  text_length : length l.text ≡ here.end - l.start
  text_length = ap length here.text ∙ part_length s l.start here.end (omega (arith, here.past, here.within))

  -- a field of a line begins in the line, or where it ends
  pub start_within : (l.start ≤ start_in p l) × (start_in p l ≤ here.end)
  unfolding start_in
  start_within =
      let i = field_inside l.text p in
      (omega arith, omega (arith, i.ordered, i.within, text_length, here.ordered))

  -- the file from a line on
  abbrev beyond : List ℕ
  beyond = get_or s here.end 0 ∷ drop (here.end + 1) s

  from_line : drop l.start s ≡ l.text ++ beyond
  unfolding part
  from_line =
      let a = l.start in
      let e = here.end in
      let k : l.start + (here.end - l.start) ≡ here.end = omega (arith, here.ordered) in
      let d : drop (e - a) (drop a s) ≡ beyond = drop-drop (e - a) a s ∙ (ap (λ i. drop i s) k ∙ drop_next s e (omega (arith, here.past, here.within))) in
      sym (take-append-drop (e - a) (drop a s)) ∙ rw (← here.text, d)

  -- the field that begins where an id does has its value
  pub value_on_lem : rule5 l.text ≡ false → empty (cell l.text p) ≡ false → value_on s (start_in p l) ≡ cell l.text p
  unfolding value_on field_on start_in cell part
  value_on_lem stray there =
      let st = (field_at l.text p).start in
      let i = field_inside l.text p in
      let f = shaped l.text p there in
      let low : (field_at l.text p).start ≤ length l.text = omega (arith, i.ordered, i.within) in
      let from : drop (l.start + st) s ≡ drop st l.text ++ beyond = sym (drop-drop st l.start s) ∙ (ap (drop st) from_line ∙ drop-append-le st l.text beyond low) in
      let len : field_run start (drop st l.text ++ beyond) ≡ field_len start (drop st l.text) = run_is start (drop st l.text) _ _ (any_drop st l.text (calm l.text here.one stray)) here.ends in
      let k : (field_at l.text p).end - (field_at l.text p).start ≡ field_len start (drop (field_at l.text p).start l.text) = omega (arith, f) in
      let m : field_len start (drop (field_at l.text p).start l.text) ≤ length (drop (field_at l.text p).start l.text) = omega (arith, f, i.within, length-drop (field_at l.text p).start l.text) in
      ap value (rw (from, len, k) (take-append-le (field_len start (drop st l.text)) (drop st l.text) beyond m))
