-- Nodes and boarding areas: each sentence of document 02's E10 holds of every outcome of six files and six tables.
use Rattle.std.specs.Prelude.{Option, Some, None, is_some}
use Prim.Native.Nat.{ℕ, zero, suc, ◌+◌, ◌*◌, ◌-◌, ◌≤◌, ◌<◌}
use native.Mathlib.Omega.{arith}
use native.Mathlib.Decide.{ℕ_discrete}
use mathlib.Core.Path.{◌≡◌, refl, sym, ◌∙◌}
use mathlib.Core.Logic.{◌↔◌, ◌⊎◌, inl, inr}
use mathlib.Core.Bool.{Bool, true, false, cond, not, ◌&&◌, ◌||◌}
use mathlib.Core.List.{List, [], map}
use lib.IntN.{ℤ, pos}
use lib.ListN.{length, get_or}
use lib.Dec.{eqb, ltb}
use borrow.Author.Tests.{eqb-false, ne_eqb, ltb-true, ltb-false, lt-ltb, le-ltb, not-true, not-false}
use Rattle.meaning.specs.declared.Need.{Need}
use Rattle.meaning.specs.declared.Need.TheVariants.{Never, AllButInner, AllButPlaceless}
use Rattle.meaning.specs.declared.Column.{Column}
use Rattle.meaning.specs.declared.Place.{Place}
use Rattle.meaning.specs.declared.Profile.{Profile}
use Rattle.meaning.specs.Lists.{empty, place}
use Rattle.meaning.specs.Columns.{Row, rank, stops_columns, schemas, schema, known_at, column_of, count_of, places, row_of, rows_of}
use Rattle.meaning.specs.Forms.{no_mark, formed, pointed, to_point, degrees_text, size_text, latitude_of, longitude_of, choice_of, shape}
use Rattle.meaning.specs.Tables.{Feed, file_of, feed_of, refer, stop_ids, stop_id, stop_name, stop_lat, stop_lon, location_type, parent_station, degrees, one_if, kind_of, inner, placed, widths, width_of}
use Rattle.meaning.specs.Refusals.{rule3, rule9, rule12, slack, blank, leftmost}
use Rattle.meaning.specs.Rules.{row, rule21·stops, other_kind, kind_of_parent, rule22}
use Rattle.meaning.specs.Outcome.{outcome}
use Rattle.meaning.specs.Promises.{line_order, turn}
use Rattle.meaning.specs.Held.{line_count}
use Rattle.meaning.specs.Demands.{Reads}
use Rattle.meaning.specs.Nodes.{OneDigit, Unfit, none, other, base22, Filled, Alone, PlaceTold, Nodes}
use Rattle.meaning.proofs.ListLaws.{both, and_both, no_bytes}
use Rattle.meaning.proofs.Tests.{either, or_left, or_right}
use Rattle.meaning.proofs.Forms.{digit_picked}
use Rattle.meaning.proofs.References.{dangling_refer}
use Rattle.meaning.proofs.FirstBroken.{readable_exactly}
use Rattle.meaning.proofs.Columns.{row_at, least_only, blank_always, kept_12}
use Rattle.meaning.proofs.Readable.{values_kept}
use Rattle.meaning.proofs.Records.{rows_count}
use Rattle.meaning.proofs.Held.{tables_held}

-- ---- the form of location_type

shape_is : (v : List ℕ) → shape (column_of 1 4).form v ≡ is_some (choice_of 4 v)
unfolding shape column_of known_at schema schemas stops_columns
shape_is v = refl

one_digit : (v : List ℕ) → is_some (choice_of 4 v) ≡ true → OneDigit 4 v
unfolding choice_of
one_digit v e = go (choice_of 4 v) refl e
  where
    go : (c : Option ℕ) → choice_of 4 v ≡ c → is_some c ≡ true → OneDigit 4 v
    go (Some n) q h = let k = (digit_picked 0 4 v n).0 q in record { digit = n; small = k.0.1; is = k.1 }
    go None q h = both false h refl

digit_formed : (v : List ℕ) → OneDigit 4 v → is_some (choice_of 4 v) ≡ true
unfolding choice_of
digit_formed v o = rw ((digit_picked 0 4 v o.digit).1 ((omega arith, o.small), o.is))

allowed : (v : List ℕ) → shape (column_of 1 4).form v ≡ true ↔ OneDigit 4 v
allowed v = (λ e. one_digit v (sym (shape_is v) ∙ e), λ o. shape_is v ∙ digit_formed v o)

unread : (r : Row) → shape (column_of 1 4).form (location_type r) ≡ false → kind_of r ≡ 0
unfolding kind_of
unread r e = go (choice_of 4 (location_type r)) (sym (shape_is (location_type r)) ∙ e)
  where
    go : (c : Option ℕ) → is_some c ≡ false → one_if c ≡ 0
    go (Some n) e = both true refl e
    go None e = refl

-- ---- rule 22

module _ (w : Feed) (i : ℕ) where
  abbrev r : Row
  r = row w.stops i

  -- a node or a boarding area breaks it exactly where its parent is empty or of another type
  unfit : (m : ℕ) → 2 < kind_of r → kind_of_parent (kind_of r) ≡ m → rule22 w i ≡ true ↔ Unfit w i m
  unfolding rule22 other_kind
  unfit m h p = rw (ne_eqb (kind_of r) 1 (λ z. omega arith), lt-ltb 1 (kind_of r) (omega arith), p) (λ e. there (either _ _ e), back)
    where
      k : ℕ
      k = refer (parent_station r) (stop_ids w)

      there : (empty (parent_station r) ≡ true) ⊎ (other_kind w m (parent_station r) ≡ true) → Unfit w i m
      there (inl e) = none e
      there (inr e) =
          let b = and_both (not (eqb k 0)) _ e in
          let z = eqb-false k 0 (not-true _ b.0) in
          other (k - 1) (omega (arith, z)) (eqb-false _ m (not-true _ b.1))

      back : Unfit w i m → (empty (parent_station r) || other_kind w m (parent_station r)) ≡ true
      back (none e) = or_left _ _ e
      back (other j e u) =
          let z : k - 1 ≡ j = omega arith in
          or_right (empty (parent_station r)) _ (rw (ne_eqb k 0 (λ n. omega arith), z, ne_eqb (kind_of (row w.stops j)) m u))

  node : kind_of r ≡ 3 → rule22 w i ≡ true ↔ Unfit w i 1
  unfolding kind_of_parent
  node e = unfit 1 (omega arith) (rw e)

  area : kind_of r ≡ 4 → rule22 w i ≡ true ↔ Unfit w i 0
  unfolding kind_of_parent
  area e = unfit 0 (omega arith) (rw e)

  unresolved : inner r ≡ true → rule21·stops w i ≡ true → rule22 w i ≡ false
  unfolding rule21·stops rule22 other_kind inner
  unresolved h e =
      let v = parent_station r in
      let k : 2 < kind_of r = ltb-true 2 (kind_of r) h in
      let b = and_both (not (empty v)) _ (sym (dangling_refer v (stop_ids w)) ∙ e) in
      rw (ne_eqb (kind_of r) 1 (λ z. omega arith), lt-ltb 1 (kind_of r) (omega arith), not-true (empty v) b.0, b.1)

  others : inner r ≡ false → rule22 w i ≡ base22 w i
  unfolding rule22 kind_of_parent inner
  others h = let k : kind_of r ≤ 2 = ltb-false 2 (kind_of r) h in rw (ne_eqb (kind_of r) 4 (λ z. omega arith), go (kind_of r) k)
    where
      go : (n : ℕ) → n ≤ 2 → ltb 1 n ≡ eqb n 2
      go zero g = refl
      go (suc zero) g = refl
      go (suc (suc zero)) g = refl
      go (suc (suc (suc n))) g = absurd (omega arith)

-- ---- rule 12

-- the slack of a row of stops.txt, by whether it is a node or a boarding area, and whether it has a place
abbrev free : Bool → Bool → Need
free a b = cond a (cond b AllButInner AllButPlaceless) Never

-- when a row of stops.txt has a value blank, by its column's need
module _ (r : Row) (c : Column) (v : List ℕ) where
  blank_never : c.need ≡ Never → blank (slack 1 r) c v ≡ false
  unfolding blank
  blank_never e = rw (e, le-ltb (rank (slack 1 r)) 0 (omega arith))

  blank_name : c.need ≡ AllButInner → blank (slack 1 r) c v ≡ not (inner r) && empty v
  unfolding blank slack
  blank_name e = rw e (go (inner r) (placed r))
    where
      go : (a b : Bool) → (ltb (rank (free a b)) 1 && empty v) ≡ (not a && empty v)
      go true true = refl
      go true false = refl
      go false b = refl

  blank_place : c.need ≡ AllButPlaceless → blank (slack 1 r) c v ≡ (not (inner r) || placed r) && empty v
  unfolding blank slack
  blank_place e = rw e (go (inner r) (placed r))
    where
      go : (a b : Bool) → (ltb (rank (free a b)) 2 && empty v) ≡ ((not a || b) && empty v)
      go true true = refl
      go true false = refl
      go false b = refl

-- no value is blank exactly where the row is filled
module _ (r : Row) where
  abbrev Kept : Type 0
  Kept = (k : ℕ) → k < count_of 1 → blank (slack 1 r) (column_of 1 k) (get_or r k []) ≡ false

  kept_filled : Kept → Filled r
  unfolding placed count_of column_of known_at schema schemas stops_columns
  kept_filled h = record {
    id = sym (blank_always _ 1 r _ refl) ∙ h 0 (omega arith);
    name = λ e. rw e at (sym (blank_name r _ _ refl) ∙ h 1 (omega arith));
    latitude = λ e. rw e at latitude;
    longitude = λ e. rw e at longitude;
    together = λ e. level (empty (stop_lat r)) (empty (stop_lon r)) (rw e at latitude) (rw e at longitude);
  }
    where
      latitude : (not (inner r) || placed r) && empty (stop_lat r) ≡ false
      latitude = sym (blank_place r _ _ refl) ∙ h 2 (omega arith)

      longitude : (not (inner r) || placed r) && empty (stop_lon r) ≡ false
      longitude = sym (blank_place r _ _ refl) ∙ h 3 (omega arith)

      level : (x y : Bool) → (not (x && y) && x) ≡ false → (not (x && y) && y) ≡ false → x ≡ y
      level true true a b = refl
      level true false a b = a
      level false true a b = sym b
      level false false a b = refl

  filled_kept : Filled r → Kept
  unfolding placed count_of column_of known_at schema schemas stops_columns
  filled_kept f zero h = blank_always _ 1 r _ refl ∙ f.id
  filled_kept f (suc zero) h = blank_name r _ _ refl ∙ go (inner r) (empty (stop_name r)) f.name
    where
      go : (a x : Bool) → (a ≡ false → x ≡ false) → (not a && x) ≡ false
      go true x n = refl
      go false x n = n refl
  filled_kept f (suc (suc zero)) h = blank_place r _ _ refl ∙ go (inner r) (empty (stop_lat r)) (empty (stop_lon r)) f.latitude f.together
    where
      go : (a x y : Bool) → (a ≡ false → x ≡ false) → (a ≡ true → x ≡ y) → ((not a || not (x && y)) && x) ≡ false
      go true true true n t = refl
      go true true false n t = t refl
      go true false y n t = refl
      go false x y n t = n refl
  filled_kept f (suc (suc (suc zero))) h = blank_place r _ _ refl ∙ go (inner r) (empty (stop_lat r)) (empty (stop_lon r)) f.longitude f.together
    where
      go : (a x y : Bool) → (a ≡ false → y ≡ false) → (a ≡ true → x ≡ y) → ((not a || not (x && y)) && y) ≡ false
      go true true true n t = refl
      go true true false n t = refl
      go true false true n t = sym (t refl)
      go true false false n t = refl
      go false x y n t = n refl
  filled_kept f (suc (suc (suc (suc zero)))) h = blank_never r _ _ refl
  filled_kept f (suc (suc (suc (suc (suc zero))))) h = blank_never r _ _ refl
  filled_kept f (suc (suc (suc (suc (suc (suc k)))))) h = absurd (omega arith)

needs : (header : List (List ℕ)) (l : List ℕ) → rule9 1 header ≡ false → rule12 1 (places 1 header) l ≡ 0 ↔ Filled (row_of (places 1 header) l)
needs header l lacks =
    let kept = kept_12 1 header lacks l in
    let r = row_of (places 1 header) l in
    (λ e. kept_filled r (kept.0 e), λ f. kept.1 (filled_kept r f))

-- ---- one coordinate alone

-- where one value alone is blank, rule 12 says its column
only_blank :
    (ps l : List ℕ) (k : ℕ)
    → k < 6
    → blank (slack 1 (row_of ps l)) (column_of 1 k) (get_or (row_of ps l) k []) ≡ true
    → ((j : ℕ) → j < 6 → (j ≡ k → ⊥) → blank (slack 1 (row_of ps l)) (column_of 1 j) (get_or (row_of ps l) j []) ≡ false)
    → rule12 1 ps l ≡ get_or ps k 0
unfolding rule12 leftmost count_of schema schemas stops_columns
only_blank ps l k h here others = least_only _ 6 k h (λ j i e. rw (← row_at ps l j, others j i e)) ∙ rw (← row_at ps l k, here)

module _ (r : Row) (id : empty (stop_id r) ≡ false) (within : inner r ≡ true) (b c : Bool) (lat : empty (stop_lat r) ≡ b) (lon : empty (stop_lon r) ≡ c) where
  -- with a coordinate there is a place
  lat_blank : (b && c) ≡ false → blank (slack 1 r) (column_of 1 2) (stop_lat r) ≡ b
  unfolding placed column_of known_at schema schemas stops_columns
  lat_blank e = blank_place r _ _ refl ∙ rw (within, lat, lon, e)

  lon_blank : (b && c) ≡ false → blank (slack 1 r) (column_of 1 3) (stop_lon r) ≡ c
  unfolding placed column_of known_at schema schemas stops_columns
  lon_blank e = blank_place r _ _ refl ∙ rw (within, lat, lon, e)

  -- and nothing else is blank
  others_kept : (j : ℕ) → (j ≡ 2 → ⊥) → (j ≡ 3 → ⊥) → j < 6 → blank (slack 1 r) (column_of 1 j) (get_or r j []) ≡ false
  unfolding column_of known_at schema schemas stops_columns
  others_kept zero x y h = blank_always _ 1 r _ refl ∙ id
  others_kept (suc zero) x y h = blank_name r _ _ refl ∙ rw within
  others_kept (suc (suc zero)) x y h = absurd (x refl)
  others_kept (suc (suc (suc zero))) x y h = absurd (y refl)
  others_kept (suc (suc (suc (suc zero)))) x y h = blank_never r _ _ refl
  others_kept (suc (suc (suc (suc (suc zero))))) x y h = blank_never r _ _ refl
  others_kept (suc (suc (suc (suc (suc (suc j)))))) x y h = absurd (omega arith)

latitude_alone_lem : (ps l : List ℕ) → Alone stop_lat stop_lon (row_of ps l) → rule12 1 ps l ≡ get_or ps 2 0
latitude_alone_lem ps l a = only_blank ps l 2 (omega arith) (lat_blank r a.id a.within true false a.none a.other refl) (λ j h e. go j h e (ℕ_discrete j 3))
  where
    r : Row
    r = row_of ps l

    go : (j : ℕ) → j < 6 → (j ≡ 2 → ⊥) → Dec (j ≡ 3) → blank (slack 1 r) (column_of 1 j) (get_or r j []) ≡ false
    go j h e (yes z) = rw z (lon_blank r a.id a.within true false a.none a.other refl)
    go j h e (no z) = others_kept r a.id a.within true false a.none a.other j e z h

longitude_alone_lem : (ps l : List ℕ) → Alone stop_lon stop_lat (row_of ps l) → rule12 1 ps l ≡ get_or ps 3 0
longitude_alone_lem ps l a = only_blank ps l 3 (omega arith) (lon_blank r a.id a.within false true a.other a.none refl) (λ j h e. go j h e (ℕ_discrete j 2))
  where
    r : Row
    r = row_of ps l

    go : (j : ℕ) → j < 6 → (j ≡ 3 → ⊥) → Dec (j ≡ 2) → blank (slack 1 r) (column_of 1 j) (get_or r j []) ≡ false
    go j h e (yes z) = rw z (lat_blank r a.id a.within false true a.other a.none refl)
    go j h e (no z) = others_kept r a.id a.within false true a.other a.none j z e h

pub elsewhere : (f : ℕ) (r : Row) → (f ≡ 1 → ⊥) → slack f r ≡ Never
unfolding slack
elsewhere f r h = rw (ne_eqb f 1 h)

before : turn 12 < turn 13
unfolding turn place line_order
before = omega arith

-- ---- the seventh number

no_degrees : (v : List ℕ) → empty v ≡ true → (degrees (latitude_of v) ≡ pos 0) × (degrees (longitude_of v) ≡ pos 0)
unfolding latitude_of longitude_of formed no_mark degrees_text size_text pointed to_point
no_degrees v e = rw ((no_bytes v).0 e) (refl, refl)

-- of a filled row
module _ (r : Row) (f : Filled r) where
  has_place : placed r ≡ true → (empty (stop_lat r) ≡ false) × (empty (stop_lon r) ≡ false)
  unfolding placed
  has_place e = go (inner r) refl
    where
      level : (x y : Bool) → x ≡ y → not (x && y) ≡ true → (x ≡ false) × (y ≡ false)
      level true y t h = (both y (sym t) (not-true y h), not-true y h)
      level false y t h = (refl, sym t)

      go : (a : Bool) → inner r ≡ a → (empty (stop_lat r) ≡ false) × (empty (stop_lon r) ≡ false)
      go true h = level (empty (stop_lat r)) (empty (stop_lon r)) (f.together h) e
      go false h = (f.latitude h, f.longitude h)

  place_told : (n : ℕ → ℤ) → n 2 ≡ degrees (latitude_of (stop_lat r)) → n 3 ≡ degrees (longitude_of (stop_lon r)) → n 6 ≡ pos (cond (placed r) 1 0) → PlaceTold r n
  unfolding placed
  place_told n lat lon p = record {
    with = λ e. (rw e at p, has_place e);
    without = λ e.
        let h = and_both (empty (stop_lat r)) (empty (stop_lon r)) (not-false _ e) in
        (rw e at p, (lat ∙ (no_degrees (stop_lat r) h.0).0, lon ∙ (no_degrees (stop_lon r) h.1).1));
    always = λ e. rw (f.latitude e);
  }

-- ---- the outcome

module _ (files : List (List ℕ)) (tables : List (List ℤ)) (list : List ℤ) (p : Place) (asked : Profile) (six : length files ≡ 6) (lent : length tables ≡ 6) where
  seventh :
      Reads files tables
      → (i : ℕ)
      → i + 1 < line_count files 1
      → PlaceTold (row (feed_of files).stops i) (λ j. get_or (get_or (outcome files tables list p asked).tables 0 []) ((i + 1) * 7 + j) (pos 0))
  unfolding feed_of
  seventh reads i h =
      let read = (readable_exactly files (map length tables)).1 reads in
      let held = (tables_held files tables list p asked six read lent).stops.records i h in
      let inside : i < length (rows_of 1 (file_of files 1)) = omega (arith, rows_count 1 (file_of files 1)) in
      place_told _
      (kept_filled _ (λ k g. (values_kept files (map length tables) read 1 (omega arith) (omega arith) i inside k g).there))
      _ held.latitude held.longitude held.place

  pub nodes : Nodes files tables (outcome files tables list p asked)
  unfolding rule3 width_of widths
  nodes = record {
    allowed = allowed;
    node = node;
    area = area;
    unresolved = unresolved;
    others = others;
    needs = needs;
    latitude_alone_lem = latitude_alone_lem;
    longitude_alone_lem = longitude_alone_lem;
    elsewhere = elsewhere;
    unread = unread;
    before = before;
    seventh = seventh;
    width = λ s room. refl;
  }
