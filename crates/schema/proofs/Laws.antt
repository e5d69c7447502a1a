-- The table of the code, which is the schema: reading it is reading the schema. No law names a column.
use mathlib.Core.Path.{◌≡◌, refl, sym, ap, subst, ◌∙◌}
use mathlib.Core.Logic.{◌⊎◌, inl, inr}
use mathlib.Core.Bool.{Bool, true, false, cond, not, ◌&&◌}
use mathlib.Core.List.{List, [], ◌∷◌, map}
use Prim.Native.Nat.{ℕ, zero, suc, ◌+◌, ◌-◌, ◌≤◌, ◌<◌}
use native.Mathlib.Omega.{arith}
use native.Mathlib.Nat.{not-suc-le-zero}
use lib.Dec.{T, eqb, ltb, leb, leb→le}
use lib.ListN.{length, get_or, length-map, get_or-eq_default}
use Rattle.std.proofs.Common.{Bor, Option, Some, None}
use Rattle.std.specs.Prelude.{IfSome}
use Rattle.std.specs.Fn.{Called}
use Rattle.std.specs.Array.{IsFromFnResultFrom}
use denote.Param.Members.{Mut}
use native.Mathlib.Decide.{ℕ_discrete}
use Rattle.std.specs.List.{position_from, position_or_len}
use Rattle.std.proofs.lemmas.Iterator.Adapters.{position_from-zero}
use borrow.Author.Tests.{eq-eqb, ne_eqb}
use Rattle.meaning.specs.declared.Column.{Column}
use Rattle.meaning.specs.Lists.{same, place}
use Rattle.meaning.specs.Columns as X
use Rattle.meaning.specs.Columns.{Known, unknown, schemas, schema, known_at, name_of, column_of, count_of}
use Rattle.meaning.proofs.ListLaws.{same_equal}
use Rattle.meaning.proofs.Computed.{all, get_d_all, mem_all, and_left, and_right}
use Rattle.meaning.proofs.Laws.{get_d_mem, get_d_map_in}
use Rattle.schema.specs.Named.{counted, named_by}
use Rattle.schema.specs.Shown.{shown}

-- a known column of the code
abbrev pub Told : Type 0
Told = Bor (List ℕ) × Column

-- a file's known columns, shown
module _ (its : List Told) (f : ℕ) (told : map shown its ≡ schema f) where
  pub count_told : length its ≡ count_of f
  unfolding count_of
  count_told = sym (length-map its shown) ∙ ap length told

  pub known_some : (k : ℕ) (x : Told) → k < length its → x ≡ get_or its k x → x.1 ≡ column_of f k
  unfolding column_of known_at
  known_some k x g e = subst (λ (l : List Known). x.1 ≡ (get_or l k unknown).column) told (ap (λ (y : Told). y.1) e ∙ ap (λ (y : Known). y.column) (sym (get_d_map_in shown its k x unknown g)))

  pub known_none : (k : ℕ) → length its ≤ k → unknown.column ≡ column_of f k
  unfolding column_of known_at
  known_none k g = subst (λ (l : List Known). unknown.column ≡ (get_or l k unknown).column) told (ap (λ (y : Known). y.column) (sym (get_or-eq_default (map shown its) unknown {n = k} (rw length-map g))))

-- no file has more than ten
pub count_le : (f : ℕ) → count_of f ≤ 10
unfolding X.schemas X.stops_columns X.routes_columns X.calendar_columns X.trips_columns X.stop_times_columns X.calendar_dates_columns X.schema X.count_of
count_le f = leb→le _ _ (get_d_all (λ (r : List Known). leb (length r) 10) [] tt schemas tt f)

-- ---- which known column a value names

not-true : (b : Bool) → not b ≡ true → b ≡ false
not-true true e = sym e
not-true false e = refl

-- no name stands twice in a list of columns
abbrev apart : List Known → Bool
apart [] = true
apart (x ∷ r) = all (λ y. not (same x.name y.name)) r && apart r

all_apart : (f : ℕ) → T (apart (schema f))
unfolding X.schemas X.stops_columns X.routes_columns X.calendar_columns X.trips_columns X.stop_times_columns X.calendar_dates_columns schema same
all_apart f = get_d_all apart [] tt schemas tt f

module _ (v : List ℕ) where
  place_from : (n : ℕ) (l : List Known) → (place (λ x. same v x.name) n l ≡ 0) ⊎ (n ≤ place (λ x. same v x.name) n l)
  unfolding place
  place_from n [] = inl refl
  place_from n (x ∷ r) = go (same v x.name) (place_from (n + 1) r)
    where
      go : (t : Bool) → {q : ℕ} → (q ≡ 0) ⊎ (n + 1 ≤ q) → (cond t n q ≡ 0) ⊎ (n ≤ cond t n q)
      go true h = inr (omega arith)
      go false (inl e) = inl e
      go false (inr h) = inr (omega arith)

  place_to : (n : ℕ) (l : List Known) → place (λ x. same v x.name) n l ≤ n + length l - 1
  unfolding place
  place_to n [] = omega arith
  place_to n (x ∷ r) = go (same v x.name) (place_to (n + 1) r)
    where
      go : (t : Bool) → {q : ℕ} → q ≤ n + 1 + length r - 1 → cond t n q ≤ n + suc (length r) - 1
      go true h = omega arith
      go false h = omega arith

  -- a value is a column's name exactly where that is the column it names
  place_is : (l : List Known) → T (apart l) → (n k : ℕ) → 1 ≤ n → k < length l → same v (get_or l k unknown).name ≡ eqb (place (λ x. same v x.name) n l) (n + k)
  unfolding place
  place_is [] p n k h g = absurd (not-suc-le-zero g)
  place_is (x ∷ r) p n k h g = go (same v x.name) refl k g (place_is r (and_right (all unlike r) (apart r) p) (n + 1))
    where
      unlike : (y : Known) → Bool
      unlike y = not (same x.name y.name)

      other : (k : ℕ) → v ≡ x.name → k < length r → same v (get_or r k unknown).name ≡ false
      other k e g = rw e (not-true _ (mem_all unlike r (and_left (all unlike r) (apart r) p) _ (get_d_mem r k unknown g)))

      go : (t : Bool) → same v x.name ≡ t → (k : ℕ) → k < suc (length r)
          → ((j : ℕ) → 1 ≤ n + 1 → j < length r → same v (get_or r j unknown).name ≡ eqb (place (λ x. same v x.name) (n + 1) r) (n + 1 + j))
          → same v (get_or (x ∷ r) k unknown).name ≡ eqb (cond t n (place (λ x. same v x.name) (n + 1) r)) (n + k)
      go true e zero g rest = e ∙ sym (eq-eqb n (n + 0) (omega arith))
      go true e (suc k) g rest = other k (same_equal v x.name e) (omega arith) ∙ sym (ne_eqb n (n + suc k) (λ z. omega arith))
      go false e zero g rest = e ∙ sym (ne_eqb _ (n + 0) (later (place_from (n + 1) r)))
        where
          later : {q : ℕ} → (q ≡ 0) ⊎ (n + 1 ≤ q) → q ≡ n + 0 → ⊥
          later (inl y) z = omega arith
          later (inr y) z = omega arith
      go false e (suc k) g rest =
          let z : n + suc k ≡ n + 1 + k = omega arith in
          rw z (rest k (omega arith) (omega arith))

pub named_is : (f : ℕ) (v : List ℕ) (k : ℕ) → k < count_of f → same v (name_of f k) ≡ eqb (named_by f v) (k + 1)
unfolding named_by count_of name_of known_at
named_is f v k h = let z : k + 1 ≡ 1 + k = omega arith in rw z (place_is v (schema f) (all_apart f) 1 k (omega arith) h)

-- it is one of the file's
pub named_le : (f : ℕ) (v : List ℕ) → named_by f v ≤ count_of f
unfolding named_by count_of
named_le f v = omega (arith, place_to v 1 (schema f))

-- the place of a value's name among the rows of the code
place_told : (v : List ℕ) (i : ℕ) (l : List Told) → counted (position_from (λ (x : Told). same v x.0.now) i l) ≡ place (λ x. same v x.name) (i + 1) (map shown l)
unfolding place
place_told v i [] = refl
place_told v i (x ∷ l) = go (same v x.0.now) (position_from (λ (x : Told). same v x.0.now) (i + 1) l) (place_told v (i + 1) l)
  where
    go : (t : Bool) (o : Option ℕ) {q : ℕ} → counted o ≡ q → counted (cond t (Some i) o) ≡ cond t (i + 1) q
    go true o e = refl
    go false o e = e

few_named : (f : ℕ) (v : List ℕ) (r : Option ℕ) → counted r ≡ named_by f v → IfSome r (λ k. k < 10)
few_named f v None e = tt
few_named f v (Some k) e = omega (arith, e, named_le f v, count_le f)

module _ (its : List Told) (f : ℕ) (told : map shown its ≡ schema f) (v : List ℕ) where
  abbrev first : ℕ
  first = position_or_len (λ (x : Told). same v x.0.now) its

  pub named_told : (r : Option ℕ) → r ≡ cond (ltb first (length its)) (Some first) None → (counted r ≡ named_by f v) × IfSome r (λ k. k < 10)
  unfolding named_by
  named_told r e =
      let p : counted r ≡ named_by f v = rw (← told) (ap counted (e ∙ position_from-zero (λ (x : Told). same v x.0.now) its) ∙ place_told v 0 its) in
      (p, few_named f v r p)

-- ---- an array made by calls

-- calls at each number below w, none of which changes the callee, give what each call gives
pub made_by : {F B : Type 0} {g : Mut F (ℕ × Unit {0}) B} {f : F} (ys : List B) (h : ℕ → B) (d : B) (w : ℕ)
    → ((i : ℕ) (y : B) (q : F) → i < w → Called g f (i, tt) y q → (q ≡ f) × (y ≡ h i))
    → (n i : ℕ) → i + n ≡ w → IsFromFnResultFrom g f ys i n → (j : ℕ) → i ≤ j → j < w → get_or ys j d ≡ h j
made_by ys h d w gives zero i e k j a b = absurd (omega arith)
made_by {F} {B} {g} {f} ys h d w gives (suc n) i e k j a b =
    let r : (k.0 ≡ f) × (k.1 ≡ h i) = gives i k.1 k.0 (omega arith) k.3 in
    go (ℕ_discrete j i) r (λ z. made_by ys h d w gives n (i + 1) (omega arith) (subst (λ (q : F). IsFromFnResultFrom g q ys (i + 1) n) r.0 k.4) j (omega arith) b)
  where
    go : Dec (j ≡ i) → (k.0 ≡ f) × (k.1 ≡ h i) → ((j ≡ i → ⊥) → get_or ys j d ≡ h j) → get_or ys j d ≡ h j
    go (yes z) r later = rw z (k.2.1 d ∙ r.1)
    go (no z) r later = later z
