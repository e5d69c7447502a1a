-- Document 01's table of columns, by name: the schema is what the table's two columns, the names' letters and the forms by name say, and so are rules 8, 9, 11, 12 and 13.
use Rattle.std.specs.Prelude.{Option, Some, None}
use Prim.Native.Nat.{ℕ, zero, suc, ◌+◌, ◌≤◌, ◌<◌}
use native.Mathlib.Omega.{arith}
use native.Mathlib.Decide.{ℕ_discrete}
use mathlib.Core.Path.{◌≡◌, refl, sym, ap, ◌∙◌}
use mathlib.Core.Logic.{◌↔◌, ◌⊎◌, inl, inr}
use mathlib.Core.Bool.{Bool, true, false, cond, not, ◌&&◌}
use mathlib.Core.List.Memᴰ
use mathlib.Core.List.{List, [], ◌∷◌, map, Memᴰ}
use lib.ListN.{length, get_or, length-map}
use lib.Dec.{ltb, eqb}
use borrow.Author.Tests.{ltb-true, ltb-false, le-ltb, not-true}
use Rattle.meaning.specs.declared.Need.{Need}
use Rattle.meaning.specs.declared.Need.TheVariants.{Never, AllButInner, AllButPlaceless, Always}
use Rattle.meaning.specs.declared.Form.{Form as Kind}
use Rattle.meaning.specs.declared.Form.TheVariants as F
use Rattle.meaning.specs.declared.Column.{Column}
use Rattle.meaning.specs.Lists.{ascii, same, empty, any, find, stands}
use Rattle.meaning.specs.Columns.{Known, Row, rank, unknown, stops_columns, routes_columns, calendar_columns, trips_columns, stop_times_columns, calendar_dates_columns, schemas, schema, known_at, name_of, column_of, count_of, places, cell, row_of}
use Rattle.meaning.specs.Forms.{no_mark, formed, digit_text, choice_of, shape}
use Rattle.meaning.specs.Tables.{stop_lat, stop_lon, location_type, one_if, kind_of, inner, placed}
use Rattle.meaning.specs.Refusals.{rule8, rule9, rule11, rule12, rule13, slack, long, blank, formless}
use Rattle.meaning.specs.Promises.{Each}
use Rattle.meaning.specs.WhichColumn.{standings, Keeps}
use Rattle.meaning.specs.ColumnTable.{Name, named, middle_column, right_column, must_be_present, may_be_absent, known_names, ends_in_id, is_id, Form, forms, form_of, under, Inner, Free, a_time_lem, its_name, its_place, ColumnTable}
use Rattle.meaning.proofs.ListLaws.{both, same_equal, same_self, no_bytes}
use Rattle.meaning.proofs.Laws.{get_d_mem, get_d_map_in, place_of}
use Rattle.meaning.proofs.Tests.{some_found, some_none, untrue}
use Rattle.meaning.proofs.Forms.{digit_picked}
use Rattle.meaning.proofs.References.{any_yes, stands_find}
use Rattle.meaning.proofs.Columns.{row_at, place_at, kept_8, kept_11, kept_12, kept_13}
use Rattle.meaning.proofs.Nodes.{elsewhere}

-- ---- what the schema says of a name

-- the form that a name has
kind_of_name : List Form → List Kind → Name → Kind
kind_of_name [] ms n = F.Text
kind_of_name (k ∷ r) [] n = F.Text
kind_of_name (k ∷ r) (m ∷ ms) n = let rest = kind_of_name r ms n in cond (stands n k.names) m rest

kinds : List Kind
kinds = F.Time ∷ F.Date ∷ F.Latitude ∷ F.Longitude ∷ F.Sequence ∷ F.Choice 4 ∷ F.RouteType ∷ F.Choice 1 ∷ F.Choice 1 ∷ F.Choice 2 ∷ F.Choice 3 ∷ F.ExceptionType ∷ []

-- the lines on which a must-be-present name needs a value
needed : Name → Need
needed n =
    cond (stands n (named ("arrival_time" ∷ "departure_time" ∷ []))) Never
    (cond (same n (ascii "stop_name")) AllButInner
    (cond (stands n (named ("stop_lat" ∷ "stop_lon" ∷ []))) AllButPlaceless Always))

-- a name of file f with what the table says of it
said : ℕ → Name → Known
said f n = record {
  name = n;
  column = record {
    must = stands n (must_be_present f);
    need = cond (stands n (must_be_present f)) (needed n) Never;
    ident = is_id n;
    form = kind_of_name forms kinds n;
  };
}

-- the schema is that of the known names, computed
schema_said : (f : ℕ) → schema f ≡ map (said f) (known_names f)
unfolding schema schemas stops_columns routes_columns calendar_columns trips_columns stop_times_columns calendar_dates_columns known_names must_be_present may_be_absent middle_column right_column is_id ends_in_id forms stands any same said needed kind_of_name kinds
schema_said zero = refl
schema_said (suc zero) = refl
schema_said (suc (suc zero)) = refl
schema_said (suc (suc (suc zero))) = refl
schema_said (suc (suc (suc (suc zero)))) = refl
schema_said (suc (suc (suc (suc (suc zero))))) = refl
schema_said (suc (suc (suc (suc (suc (suc zero)))))) = refl
schema_said (suc (suc (suc (suc (suc (suc (suc f))))))) = refl

said_names : (f : ℕ) (ns : List Name) → map (λ (k : Known). k.name) (map (said f) ns) ≡ ns
unfolding said
said_names f [] = refl
said_names f (n ∷ ns) = ap (λ (r : List Name). n ∷ r) (said_names f ns)

-- each form's test is the one that the list says
Alike : List Form → List Kind → Type 0
Alike [] ms = Unit {0}
Alike (k ∷ r) [] = ⊥
Alike (k ∷ r) (m ∷ ms) = ((v : List ℕ) → shape m v ≡ k.is v) × Alike r ms

forms_alike : Alike forms kinds
unfolding Alike forms kinds shape
forms_alike = (λ v. refl, (λ v. refl, (λ v. refl, (λ v. refl, (λ v. refl, (λ v. refl, (λ v. refl, (λ v. refl, (λ v. refl, (λ v. refl, (λ v. refl, (λ v. refl, tt))))))))))))

form_said : (ks : List Form) (ms : List Kind) → Alike ks ms → (n : Name) (v : List ℕ) → shape (kind_of_name ks ms n) v ≡ form_of ks n v
unfolding Alike kind_of_name form_of
form_said [] ms a n v = unfold shape in refl
form_said (k ∷ r) [] a n v = absurd a
form_said (k ∷ r) (m ∷ ms) a n v = go (stands n k.names) (form_said r ms a.1 n v)
  where
    go : (t : Bool) → shape (kind_of_name r ms n) v ≡ form_of r n v → shape (cond t m (kind_of_name r ms n)) v ≡ cond t (k.is v) (form_of r n v)
    go true e = a.0 v
    go false e = e

-- ---- index by index, and name by name

each_index : {A : Type 0} (P : A → Type 0) (l : List A) (d : A) → ((k : ℕ) → k < length l → P (get_or l k d)) ↔ Each P l
each_index P l d = (λ h x m. let p = place_of l d x m in rw (← p.here) (h p.index p.inside), λ h k g. h (get_or l k d) (get_d_mem l k d g))

each_as : {A : Type 0} (P Q : A → Type 0) (l : List A) → ((x : A) → P x ↔ Q x) → Each P l ↔ Each Q l
each_as P Q l h = (λ e x m. (h x).0 (e x m), λ e x m. (h x).1 (e x m))

count_names : (f : ℕ) → count_of f ≡ length (known_names f)
unfolding count_of
count_names f = ap length (schema_said f) ∙ length-map (known_names f) (said f)

known_at_lem : (f k : ℕ) → k < count_of f → known_at f k ≡ said f (get_or (known_names f) k [])
unfolding known_at
known_at_lem f k h = rw (schema_said f) (get_d_map_in (said f) (known_names f) k [] unknown (rw (count_names f) at h))

name_at : (f k : ℕ) → k < count_of f → name_of f k ≡ get_or (known_names f) k []
unfolding name_of said
name_at f k h = ap (λ (x : Known). x.name) (known_at_lem f k h)

column_at : (f k : ℕ) → k < count_of f → column_of f k ≡ (said f (get_or (known_names f) k [])).column
unfolding column_of
column_at f k h = ap (λ (x : Known). x.column) (known_at_lem f k h)

-- what holds of each known name of a file, by its index
by_name : (f : ℕ) (P : ℕ → Type 0) (Q : Name → Type 0) → ((k : ℕ) → k < count_of f → P k ↔ Q (get_or (known_names f) k [])) → ((k : ℕ) → k < count_of f → P k) ↔ Each Q (known_names f)
by_name f P Q h =
    let all = each_index Q (known_names f) [] in
    let count = count_names f in
    (λ e. all.0 (λ k g. (h k (rw (← count) at g)).0 (e k (rw (← count) at g))), λ e k g. (h k g).1 (all.1 e k (rw count at g)))

-- a line's values, each under its name
module _ (f : ℕ) (header : List (List ℕ)) (l : List ℕ) where
  value_at : (k : ℕ) → k < count_of f → get_or (row_of (places f header) l) k [] ≡ under header l (get_or (known_names f) k [])
  unfolding under
  value_at k h = row_at (places f header) l k ∙ ap (cell l) (sym (place_at f k header h) ∙ rw (name_at f k h))

  keeps_each : (P : Column → List ℕ → Bool) → Keeps P f header l ↔ Each (λ n. P (said f n).column (under header l n) ≡ false) (known_names f)
  keeps_each P = by_name f _ _ (λ k h. (λ e. rw (column_at f k h, value_at k h) at e, λ e. rw (column_at f k h, value_at k h) e))

-- ---- rules 8 and 9

stands_mem : (v : Name) (vs : List Name) → stands v vs ≡ true ↔ Memᴰ v vs
unfolding stands any
stands_mem v vs = (there vs, λ m. let p = place_of vs [] v m in any_yes (λ w. same w v) [] vs p.index p.inside (rw p.here (same_self v)))
  where
    there : (ws : List Name) → any (λ w. same w v) ws ≡ true → Memᴰ v ws
    there [] e = both false e refl
    there (w ∷ ws) e = go (same w v) refl e (there ws)
      where
        go : (t : Bool) → same w v ≡ t → cond t true (any (λ w. same w v) ws) ≡ true → (any (λ w. same w v) ws ≡ true → Memᴰ v ws) → Memᴰ v (w ∷ ws)
        go true q h k = Memᴰ.head (sym (same_equal w v q))
        go false q h k = Memᴰ.tail (k h)

module _ (f : ℕ) (header : List (List ℕ)) where
  twice : rule8 f header ≡ 0 ↔ Each (λ n. standings n header ≤ 1) (known_names f)
  twice =
      let kept = kept_8 f header in
      let names = by_name f (λ k. standings (name_of f k) header ≤ 1) (λ n. standings n header ≤ 1) (λ k h. (λ e. rw (name_at f k h) at e, λ e. rw (name_at f k h) e)) in
      (λ e. names.0 (kept.0 e), λ e. kept.1 (names.1 e))

  lacked : Name → Bool
  lacked n = stands n (must_be_present f) && eqb (find n 1 header) 0

  lacks_none : rule9 f header ≡ false ↔ Each (λ n. lacked n ≡ false) (known_names f)
  unfolding rule9 said lacked
  lacks_none =
      let names = by_name f (λ k. ((column_of f k).must && eqb (get_or (places f header) k 0) 0) ≡ false) (λ n. lacked n ≡ false)
      (λ k h. (λ e. rw (column_at f k h, ← place_at f k header h, name_at f k h) at e, λ e. rw (column_at f k h, ← place_at f k header h, name_at f k h) e)) in (
        λ e. names.0 (λ k h. some_none _ 0 (count_of f) e k (omega arith) (omega arith)),
        λ e. untrue _ (λ t. let p = some_found _ 0 (count_of f) t in both _ p.is (names.1 e p.place (omega (arith, p.high)))),
      )

  present : rule9 f header ≡ false ↔ Each (λ n. Memᴰ n header) (must_be_present f)
  unfolding lacked known_names
  present = (λ e n m. there n ((stands_mem n (must_be_present f)).1 m) (lacks_none.0 e n (Memᴰ.append_left (may_be_absent f) m)), λ e. lacks_none.1 (λ n m. back n (stands n (must_be_present f)) refl (e n)))
    where
      there : (n : Name) → stands n (must_be_present f) ≡ true → lacked n ≡ false → Memᴰ n header
      there n t e = (stands_mem n header).0 (stands_find n header ∙ rw (rw t at e))

      back : (n : Name) (t : Bool) → stands n (must_be_present f) ≡ t → (Memᴰ n (must_be_present f) → Memᴰ n header) → (t && eqb (find n 1 header) 0) ≡ false
      back n true t e = not-true _ (sym (stands_find n header) ∙ (stands_mem n header).1 (e ((stands_mem n (must_be_present f)).0 t)))
      back n false t e = refl

-- ---- rules 11 and 13

bounded : (f : ℕ) (n : Name) (v : List ℕ) → long (said f n).column v ≡ false ↔ (is_id n ≡ true → length v ≤ 64)
unfolding long said
bounded f n v = (there (is_id n), back (is_id n))
  where
    there : (t : Bool) → (t && ltb 64 (length v)) ≡ false → t ≡ true → length v ≤ 64
    there true e h = ltb-false 64 (length v) e
    there false e h = both false h refl

    back : (t : Bool) → (t ≡ true → length v ≤ 64) → (t && ltb 64 (length v)) ≡ false
    back true h = le-ltb 64 (length v) (h refl)
    back false h = refl

of_its_form : (f : ℕ) (n : Name) (v : List ℕ) → formless (said f n).column v ≡ false ↔ ((v ≡ [] → ⊥) → form_of forms n v ≡ true)
unfolding formless said
of_its_form f n v = rw (form_said forms kinds forms_alike n v) (there (empty v) refl (form_of forms n v), back (empty v) refl (form_of forms n v))
  where
    there : (a : Bool) → empty v ≡ a → (b : Bool) → (not a && not b) ≡ false → (v ≡ [] → ⊥) → b ≡ true
    there true q b e h = absurd (h ((no_bytes v).0 q))
    there false q true e h = refl
    there false q false e h = sym e

    back : (a : Bool) → empty v ≡ a → (b : Bool) → ((v ≡ [] → ⊥) → b ≡ true) → (not a && not b) ≡ false
    back true q b h = refl
    back false q b h = rw (h (λ z. both (empty v) ((no_bytes v).1 z) q))

-- ---- rule 12

-- a node or a boarding area by the text of its type
inner_text : (r : Row) → inner r ≡ true ↔ (location_type r ≡ ascii "3") ⊎ (location_type r ≡ ascii "4")
unfolding inner kind_of
inner_text r = (there (choice_of 4 v) refl, back)
  where
    v : List ℕ
    v = location_type r

    there : (c : Option ℕ) → choice_of 4 v ≡ c → ltb 2 (one_if c) ≡ true → (v ≡ ascii "3") ⊎ (v ≡ ascii "4")
    there (Some n) q e = by (ℕ_discrete n 3)
      where
        h : ((0 ≤ n) × (n ≤ 4)) × (v ≡ (48 + n) ∷ [])
        h = unfold choice_of in (digit_picked 0 4 v n).0 q

        by : Dec (n ≡ 3) → (v ≡ ascii "3") ⊎ (v ≡ ascii "4")
        by (yes z) = inl (rw z at h.1)
        by (no z) = let four : n ≡ 4 = omega (arith, ltb-true 2 n e, h.0.1) in inr (rw four at h.1)
    there None q e = both false e refl

    back : (v ≡ ascii "3") ⊎ (v ≡ ascii "4") → ltb 2 (one_if (choice_of 4 v)) ≡ true
    back (inl e) = rw e (unfold choice_of formed no_mark digit_text in refl)
    back (inr e) = rw e (unfold choice_of formed no_mark digit_text in refl)

-- how much a line may leave open, and what that says of it
slack_most : (f : ℕ) (r : Row) → rank (slack f r) ≤ 2
unfolding slack
slack_most f r = go (eqb f 1 && inner r) (placed r)
  where
    go : (a b : Bool) → rank (cond a (cond b AllButInner AllButPlaceless) Never) ≤ 2
    go true true = omega arith
    go true false = omega arith
    go false b = omega arith

slack_stop : (r : Row) → (1 ≤ rank (slack 1 r) ↔ inner r ≡ true) × (2 ≤ rank (slack 1 r) ↔ (inner r ≡ true) × ((stop_lat r ≡ []) × (stop_lon r ≡ [])))
unfolding slack placed
slack_stop r = go (inner r) (empty (stop_lat r)) refl (empty (stop_lon r)) refl
  where
    go : (a x : Bool) → empty (stop_lat r) ≡ x → (y : Bool) → empty (stop_lon r) ≡ y
        → (1 ≤ rank (cond a (cond (not (x && y)) AllButInner AllButPlaceless) Never) ↔ a ≡ true) × (2 ≤ rank (cond a (cond (not (x && y)) AllButInner AllButPlaceless) Never) ↔ (a ≡ true) × ((stop_lat r ≡ []) × (stop_lon r ≡ [])))
    go true true p true q = ((λ h. refl, λ h. omega arith), (λ h. (refl, ((no_bytes _).0 p, (no_bytes _).0 q)), λ h. omega arith))
    go true true p false q = ((λ h. refl, λ h. omega arith), (λ h. absurd (omega arith), λ h. both _ ((no_bytes _).1 h.1.1) q))
    go true false p y q = ((λ h. refl, λ h. omega arith), (λ h. absurd (omega arith), λ h. both _ ((no_bytes _).1 h.1.0) p))
    go false x p y q = ((λ h. absurd (omega arith), λ h. both false h refl), (λ h. absurd (omega arith), λ h. both false h.0 refl))

module _ (header : List (List ℕ)) (l : List ℕ) where
  -- a line of stops.txt, its type and its coordinates each under its name
  abbrev stop : Row
  stop = row_of (places 1 header) l

  type_under : location_type stop ≡ under header l (ascii "location_type")
  unfolding row_of places schema schemas stops_columns under
  type_under = refl

  abbrev NoPlace : Type 0
  NoPlace = (under header l (ascii "stop_lat") ≡ []) × (under header l (ascii "stop_lon") ≡ [])

  inner_under : inner stop ≡ true ↔ Inner header l
  inner_under = rw (← type_under) (inner_text stop)

  one_stop_lem : 1 ≤ rank (slack 1 stop) ↔ Inner header l
  one_stop_lem = (λ h. inner_under.0 ((slack_stop stop).0.0 h), λ h. (slack_stop stop).0.1 (inner_under.1 h))

  two_stop : 2 ≤ rank (slack 1 stop) ↔ Inner header l × NoPlace
  unfolding row_of places schema schemas stops_columns under
  two_stop = (λ h. let g = (slack_stop stop).1.0 h in (inner_under.0 g.0, g.1), λ h. (slack_stop stop).1.1 (inner_under.1 h.0, h.1))

  -- the same of a line of any file
  module _ (f : ℕ) where
    abbrev slack_here : ℕ
    slack_here = rank (slack f (row_of (places f header) l))

    one_slack_here : 1 ≤ slack_here ↔ (f ≡ 1) × Inner header l
    one_slack_here = go (ℕ_discrete f 1)
      where
        go : Dec (f ≡ 1) → 1 ≤ slack_here ↔ (f ≡ 1) × Inner header l
        go (yes e) = (λ h. (e, one_stop_lem.0 (rw e at h)), λ h. rw e (one_stop_lem.1 h.1))
        go (no e) = (λ h. absurd (omega (arith, ap rank (elsewhere f (row_of (places f header) l) e))), λ h. absurd (e h.0))

    two_slack_here : 2 ≤ slack_here ↔ (f ≡ 1) × (Inner header l × NoPlace)
    two_slack_here = go (ℕ_discrete f 1)
      where
        go : Dec (f ≡ 1) → 2 ≤ slack_here ↔ (f ≡ 1) × (Inner header l × NoPlace)
        go (yes e) = (λ h. (e, two_stop.0 (rw e at h)), λ h. rw e (two_stop.1 h.1))
        go (no e) = (λ h. absurd (omega (arith, ap rank (elsewhere f (row_of (places f header) l) e))), λ h. absurd (e h.0))

    -- a name's need is no more than that exactly where its value may be empty
    free : (n : Name) → rank (needed n) ≤ slack_here ↔ Free f header l n
    unfolding needed
    free n = go (stands n times) refl (same n (ascii "stop_name")) refl (stands n coordinates) refl
      where
        times : List Name
        times = named ("arrival_time" ∷ "departure_time" ∷ [])

        coordinates : List Name
        coordinates = named ("stop_lat" ∷ "stop_lon" ∷ [])

        go : (a : Bool) → stands n times ≡ a → (b : Bool) → same n (ascii "stop_name") ≡ b → (c : Bool) → stands n coordinates ≡ c
            → rank (cond a Never (cond b AllButInner (cond c AllButPlaceless Always))) ≤ slack_here ↔ Free f header l n
        go true p b q c r = (λ h. a_time_lem ((stands_mem n times).0 p), λ h. omega arith)
        go false p true q c r = (λ h. let g = one_slack_here.0 h in its_name g.0 g.1 (same_equal n _ q), back)
          where
            back : Free f header l n → 1 ≤ slack_here
            back (a_time_lem m) = both _ ((stands_mem n times).1 m) p
            back (its_name e i s) = one_slack_here.1 (e, i)
            back (its_place e i m x y) = one_slack_here.1 (e, i)
        go false p false q true r = (λ h. let g = two_slack_here.0 h in its_place g.0 g.1.0 ((stands_mem n coordinates).0 r) g.1.1.0 g.1.1.1, back)
          where
            back : Free f header l n → 2 ≤ slack_here
            back (a_time_lem m) = both _ ((stands_mem n times).1 m) p
            back (its_name e i s) = both _ (rw s (same_self (ascii "stop_name"))) q
            back (its_place e i m x y) = two_slack_here.1 (e, (i, (x, y)))
        go false p false q false r = (λ h. absurd (omega (arith, slack_most f (row_of (places f header) l))), back)
          where
            back : Free f header l n → 3 ≤ slack_here
            back (a_time_lem m) = both _ ((stands_mem n times).1 m) p
            back (its_name e i s) = both _ (rw s (same_self (ascii "stop_name"))) q
            back (its_place e i m x y) = both _ ((stands_mem n coordinates).1 m) r

-- an empty value, where it may be empty; a name that may be absent needs none
blank_free : (f : ℕ) (header : List (List ℕ)) (l : List ℕ) (n : Name) (v : List ℕ)
    → blank (slack f (row_of (places f header) l)) (said f n).column v ≡ false ↔ (Memᴰ n (must_be_present f) → v ≡ [] → Free f header l n)
unfolding blank said
blank_free f header l n v = go (stands n (must_be_present f)) refl (empty v) refl
  where
    here : ℕ
    here = rank (slack f (row_of (places f header) l))

    go : (t : Bool) → stands n (must_be_present f) ≡ t → (x : Bool) → empty v ≡ x
        → (ltb here (rank (cond t (needed n) Never)) && x) ≡ false ↔ (Memᴰ n (must_be_present f) → v ≡ [] → Free f header l n)
    go true p true q = (
      λ e m z. (free header l f n).0 (ltb-false here (rank (needed n)) (first (ltb here (rank (needed n))) e)),
      λ h. rw (le-ltb here (rank (needed n)) ((free header l f n).1 (h ((stands_mem n (must_be_present f)).0 p) ((no_bytes v).0 q)))),
    )
      where
        first : (b : Bool) → (b && true) ≡ false → b ≡ false
        first true e = e
        first false e = refl
    go true p false q = (λ e m z. both _ ((no_bytes v).1 z) q, λ h. last (ltb here (rank (needed n))))
      where
        last : (b : Bool) → (b && false) ≡ false
        last true = refl
        last false = refl
    go false p x q = (λ e m z. both _ ((stands_mem n (must_be_present f)).1 m) p, λ h. rw (le-ltb here 0 (omega arith)))

-- ---- the table

module _ (f : ℕ) (header : List (List ℕ)) (l : List ℕ) (lacks : rule9 f header ≡ false) where
  -- a rule of values that is kept exactly where each value keeps a test, which says Q of the value under a name
  kept_named : (P : Column → List ℕ → Bool) (rule : ℕ) (Q : Name → Type 0)
      → rule ≡ 0 ↔ Keeps P f header l
      → ((n : Name) → P (said f n).column (under header l n) ≡ false ↔ Q n)
      → rule ≡ 0 ↔ Each Q (known_names f)
  kept_named P rule Q kept says =
      let each = keeps_each f header l P in
      let turned = each_as (λ n. P (said f n).column (under header l n) ≡ false) Q (known_names f) says in
      (λ e. turned.0 (each.0 (kept.0 e)), λ e. kept.1 (each.1 (turned.1 e)))

  short : rule11 f (places f header) l ≡ 0 ↔ Each (λ n. is_id n ≡ true → length (under header l n) ≤ 64) (known_names f)
  short = kept_named long _ _ (kept_11 f header lacks l) (λ n. bounded f n (under header l n))

  formed_named : rule13 f (places f header) l ≡ 0 ↔ Each (λ n. (under header l n ≡ [] → ⊥) → form_of forms n (under header l n) ≡ true) (known_names f)
  formed_named = kept_named formless _ _ (kept_13 f header lacks l) (λ n. of_its_form f n (under header l n))

  filled : rule12 f (places f header) l ≡ 0 ↔ Each (λ n. under header l n ≡ [] → Free f header l n) (must_be_present f)
  unfolding known_names
  filled =
      let all = kept_named (blank (slack f (row_of (places f header) l))) _ (λ n. Memᴰ n (must_be_present f) → under header l n ≡ [] → Free f header l n) (kept_12 f header lacks l) (λ n. blank_free f header l n (under header l n)) in
      (λ e n m. all.0 e n (Memᴰ.append_left (may_be_absent f) m) m, λ h. all.1 (λ n m. h n))

-- The table's names, and what rules 8, 9, 11, 12 and 13 ask by them.
pub column_table : ColumnTable
unfolding row_of places under schema schemas stops_columns routes_columns calendar_columns trips_columns stop_times_columns calendar_dates_columns known_names must_be_present may_be_absent middle_column right_column
column_table = record {
  known = λ f. ap (map (λ (k : Known). k.name)) (schema_said f) ∙ said_names f (known_names f);
  stops = λ l header. refl;
  routes = λ l header. refl;
  calendar = λ l header. refl;
  trips = λ l header. refl;
  stop_times_lem = λ l header. refl;
  dates = λ l header. refl;
  twice = twice;
  present = present;
  short = short;
  filled = filled;
  formed = formed_named;
}
