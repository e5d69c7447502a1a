-- Marks of a file's lines, one by one.
use mathlib.Core.Path.{◌≡◌, refl, ap, ◌∙◌}
use mathlib.Core.Bool.{Bool, true, false, not, ◌||◌}
use mathlib.Core.List.{List, [], ◌∷◌}
use Prim.Native.Nat.{ℕ, zero, suc, ◌+◌, ◌*◌, ◌-◌, ◌≤◌, ◌<◌}
use native.Mathlib.Omega.{arith}
use borrow.Author.Tests.{eq-eqb, ne_eqb, eqb-true}
use lib.Dec.{eqb}
use lib.IntN.{ℤ}
use lib.ListN.{length, get_or, length-map}
use Rattle.meaning.specs.Lists.{empty}
use Rattle.meaning.specs.Bytes.{part, value, count_lf}
use Rattle.meaning.specs.Columns.{Row, rows_of}
use Rattle.meaning.specs.Tables.{Feed, feed_of, file_of, rows_in, under, id_column, stop_ids, route_ids, service_ids, trip_ids, parent_station, route_short_name, route_long_name, exception_service}
use Rattle.meaning.specs.Rules.{row, exception_day, same_service_and_date, rule20, rule20·dates, rule25, record_count}
use Rattle.meaning.proofs.ListLaws.{both}
use Rattle.meaning.proofs.Laws.{get_d_map_in}
use Rattle.marks.specs.Marks.{marked, Blank, parent_mark, nameless_mark, MarkedIf}
use Rattle.marks.specs.Noted.{ids_in, Noted}
use Rattle.repeats.specs.Repeats.{Unmarked, Marking as Repeated}
use Rattle.repeats.proofs.Laws.{repeats_as, repeats_ids}
use Rattle.rows.specs.Cells.{bounds_at}
use Rattle.seeking.specs.First.{Held}
use Rattle.ordering.specs.declared.By.{By}
use Rattle.ordering.specs.declared.By.TheVariants.{Id, IdAndDate}
use Rattle.ordering.specs.Ids.{id_of, key_of, alike}
use Rattle.ordering.proofs.Laws.{Alike, yes, no, alike as decide}
use Rattle.tables.specs.Fill.{Covers}
use Rattle.tables.specs.Noting.{repeated, noted, note_mark, Telling, Marking}
use Rattle.tables.specs.Walk.{ids_of}
use Rattle.tables.proofs.Turns.{count_length}
use Rattle.tables.proofs.Ids.{rows_count}

module _ (b : ℕ → Bool) (k : ℕ) (m : List ℕ) where
  pub telling_start : Telling b k 1 m m
  telling_start = record { size = refl; told = λ i a l h. absurd (none i a l); other = λ c i free. refl }
    where
      none : (i : ℕ) → 0 < i → i < 1 → ⊥
      none i a l = omega arith

  pub telling_turn : (r : ℕ) (m' m'' : List ℕ) → 0 < r → Telling b k r m m' → MarkedIf (b r) m' m'' k r → Telling b k (r + 1) m m''
  telling_turn r m' m'' above p q = record {
    size = q.size ∙ p.size;
    told = λ i a l h. at i (decide i r) a l h;
    other = λ c i free.
        q.other c i (λ e z t. free e (omega arith) (omega arith) (rw z t)) ∙ p.other c i (λ e a l t. free e a (omega arith) t);
  }
    where
      at : (i : ℕ) → Alike i r → 0 < i → i < r + 1 → i < length m → marked m'' k i ≡ b i || marked m k i
      at i (yes e) a l h = rw (e, q.here (omega (arith, p.size)), p.other k r (λ _ x y t. omega arith))
      at i (no e) a l h = q.other k i (λ _ z t. e z) ∙ p.told i a (omega (arith, e)) h

-- what is noted, by file
module _ (f : ℕ) (r : Row) where
  pub noted_stop : (b : Bool) → f ≡ 1 → b ≡ empty (parent_station r) → not b ≡ noted f r
  unfolding noted
  noted_stop b e q = rw (eq-eqb f 1 e, q)

  module _ (n : f ≡ 1 → ⊥) (e : f ≡ 2) where
    pub noted_short : (a : Bool) → a ≡ false → a ≡ empty (route_short_name r) → false ≡ noted f r
    unfolding noted
    noted_short a x p = rw (ne_eqb f 1 n, eq-eqb f 2 e, ← p, x)

    pub noted_long : (a b : Bool) → a ≡ true → a ≡ empty (route_short_name r) → b ≡ empty (route_long_name r) → b ≡ noted f r
    unfolding noted
    noted_long a b x p q = rw (ne_eqb f 1 n, eq-eqb f 2 e, ← p, x) q

  pub noted_none : (f ≡ 1 → ⊥) → (f ≡ 2 → ⊥) → false ≡ noted f r
  unfolding noted
  noted_none n o = rw (ne_eqb f 1 n, ne_eqb f 2 o)

  pub noted_few : noted f r ≡ true → f ≤ 2
  unfolding noted
  noted_few h = go (eqb f 1) refl (eqb f 2) refl
    where
      go : (a : Bool) → eqb f 1 ≡ a → (b : Bool) → eqb f 2 ≡ b → f ≤ 2
      go true e b g = omega (arith, eqb-true f 1 e)
      go false e true g = omega (arith, eqb-true f 2 g)
      go false e false g = both false (rw (e, g) at h) refl

-- ---- the marks of a file

or_false : (a b : Bool) → b ≡ false → a || b ≡ a
or_false true b e = refl
or_false false b e = e

past_six : (f c : ℕ) → c ≡ f → c ≡ f + 6 → ⊥
past_six f c e g = omega arith

-- what is noted of the text, then the lines that repeat
pub marking_by :
    (by : By) (f : ℕ) (s : List ℕ) (n : ℕ) (t : List ℤ) (w : ℕ) (m m' m'' : List ℕ)
    → n + 1 ≡ count_lf s
    → Telling (λ i. noted f (get_or (rows_of f s) (i - 1) [])) (note_mark f) (count_lf s) m m'
    → Repeated by s t w n f m' m''
    → (n < length m' → Unmarked n f m' → (i : ℕ) → i < n → marked m'' f (i + 1) ≡ repeated f s i)
    → Marking f s m m''
marking_by by f s n t w m m' m'' count p q told = record {
  size = q.size ∙ p.size;
  repeats = λ free long i h.
      told (omega (arith, p.size)) (λ r a b. p.other f r (λ e x y t. past_six f f refl e) ∙ free r) i (omega arith);
  notes = λ free long i h.
      let e : i + 1 - 1 ≡ i = omega arith in
      q.other (note_mark f) (i + 1) (λ e x y. past_six f (f + 6) e refl)
      ∙ p.told (i + 1) (omega arith) h (omega arith)
      ∙ or_false (noted f (get_or (rows_of f s) (i + 1 - 1) [])) (marked m (note_mark f) (i + 1)) (free (i + 1))
      ∙ ap (λ (k : ℕ). noted f (get_or (rows_of f s) k [])) e;
  other = λ c i x y. q.other c i (λ e a b. x e) ∙ p.other c i (λ e a b t. y e (noted_few f (get_or (rows_of f s) (i - 1) []) t));
}

-- by id
pub repeated_ids :
    (f : ℕ) (s : List ℕ) (n : ℕ) (t : List ℤ) (w : ℕ) (m m' : List ℕ)
    → (f ≡ 6 → ⊥)
    → Held s t w (ids_of f s)
    → n ≡ length (ids_of f s)
    → Repeated Id s t w n f m m'
    → n < length m
    → Unmarked n f m
    → (i : ℕ)
    → i < n
    → marked m' f (i + 1) ≡ repeated f s i
unfolding repeated
repeated_ids f s n t w m m' other held all p long free i h = rw (ne_eqb f 6 other) (repeats_ids p (ids_of f s) held all long free i h)

-- by service and date
pub repeated_dates :
    (s : List ℕ) (n : ℕ) (t : List ℤ) (m m' : List ℕ)
    → Held s t 4 (ids_of 6 s)
    → n ≡ length (ids_of 6 s)
    → ((i : ℕ) → i < n → key_of t 4 (i + 1) ≡ exception_day (row (rows_of 6 s) i))
    → Repeated IdAndDate s t 4 n 6 m m'
    → n < length m
    → Unmarked n 6 m
    → (i : ℕ)
    → i < n
    → marked m' 6 (i + 1) ≡ repeated 6 s i
unfolding repeated alike id_of same_service_and_date id_column
repeated_dates s n t m m' held all keys p long free i h =
    repeats_as p long free i h (λ j. same_service_and_date (row (rows_of 6 s) j) (row (rows_of 6 s) i))
    (λ j l. rw (id j (omega arith), id i h, keys j (omega arith), keys i h))
  where
    id : (j : ℕ) → j < n → value (part s (bounds_at t ((j + 1) * 4))) ≡ exception_service (row (rows_of 6 s) j)
    id j l =
        (held.at j (omega arith)).equal
        ∙ get_d_map_in (under 0) (rows_of 6 s) j [] [] (omega (arith, length-map (rows_of 6 s) (under 0)))

-- a file that isn't supplied has nothing to mark
pub marking_none : (f : ℕ) (s m : List ℕ) → length s ≡ 0 → Marking f s m m
marking_none f s m e = record {
  size = refl;
  repeats = λ free long i h. absurd (omega (arith, count_length s));
  notes = λ free long i h. absurd (omega (arith, count_length s));
  other = λ c i x y. refl;
}

-- ---- the marks of five files

module _ (a b c d e g : List ℕ) (m m₁ m₂ m₃ m₄ m₅ : List ℕ) (p : Marking 1 a m m₁) (q : Marking 2 b m₁ m₂) (r : Marking 3 c m₂ m₃) (t : Marking 4 d m₃ m₄) (u : Marking 6 g m₄ m₅)
    (blank : Blank m) (few : Covers m a × Covers m b × Covers m c × Covers m d × Covers m g) where
  w : Feed
  w = feed_of (a ∷ b ∷ c ∷ d ∷ e ∷ g ∷ [])

  -- a mark that the first files leave is not set yet
  free₁ : (k i : ℕ) → (k ≡ 1 → ⊥) → (k ≡ 7 → ⊥) → marked m₁ k i ≡ false
  free₁ k i x y = p.other k i x (λ z h. y z) ∙ blank k i

  free₂ : (k i : ℕ) → (k ≡ 1 → ⊥) → (k ≡ 7 → ⊥) → (k ≡ 2 → ⊥) → (k ≡ 8 → ⊥) → marked m₂ k i ≡ false
  free₂ k i x y z v = q.other k i z (λ l h. v l) ∙ free₁ k i x y

  free₃ : (k i : ℕ) → (k ≡ 1 → ⊥) → (k ≡ 7 → ⊥) → (k ≡ 2 → ⊥) → (k ≡ 8 → ⊥) → (k ≡ 3 → ⊥) → marked m₃ k i ≡ false
  free₃ k i x y z v s = r.other k i s (λ l h. omega arith) ∙ free₂ k i x y z v

  -- what is marked stays
  last₄ : (k i : ℕ) → (k ≡ 6 → ⊥) → marked m₅ k i ≡ marked m₄ k i
  last₄ k i x = u.other k i x (λ l h. omega arith)

  last₃ : (k i : ℕ) → (k ≡ 6 → ⊥) → (k ≡ 4 → ⊥) → marked m₅ k i ≡ marked m₃ k i
  last₃ k i x y = last₄ k i x ∙ t.other k i y (λ l h. omega arith)

  last₂ : (k i : ℕ) → (k ≡ 6 → ⊥) → (k ≡ 4 → ⊥) → (k ≡ 3 → ⊥) → marked m₅ k i ≡ marked m₂ k i
  last₂ k i x y z = last₃ k i x y ∙ r.other k i z (λ l h. omega arith)

  last₁ : (k i : ℕ) → (k ≡ 6 → ⊥) → (k ≡ 4 → ⊥) → (k ≡ 3 → ⊥) → (k ≡ 2 → ⊥) → (k ≡ 8 → ⊥) → marked m₅ k i ≡ marked m₁ k i
  last₁ k i x y z v s = last₂ k i x y z ∙ q.other k i v (λ l h. s l)

  repeats_in : (f i : ℕ) → 1 ≤ f → f ≤ 4 → i < record_count w f → marked m₅ f (i + 1) ≡ rule20 (ids_in w f) i
  unfolding w record_count rows_in ids_in feed_of file_of stop_ids route_ids service_ids trip_ids id_column repeated
  repeats_in zero i x y h = absurd (omega arith)
  repeats_in (suc zero) i x y h =
      last₁ 1 (i + 1) (λ z. omega arith) (λ z. omega arith) (λ z. omega arith) (λ z. omega arith) (λ z. omega arith)
      ∙ p.repeats (blank 1) (omega (arith, few.0)) i (omega (arith, rows_count 1 a))
  repeats_in (suc (suc zero)) i x y h =
      last₂ 2 (i + 1) (λ z. omega arith) (λ z. omega arith) (λ z. omega arith)
      ∙ q.repeats (λ j. free₁ 2 j (λ z. omega arith) (λ z. omega arith)) (omega (arith, few.1, p.size)) i (omega (arith, rows_count 2 b))
  repeats_in (suc (suc (suc zero))) i x y h =
      last₃ 3 (i + 1) (λ z. omega arith) (λ z. omega arith)
      ∙ r.repeats (λ j. free₂ 3 j (λ z. omega arith) (λ z. omega arith) (λ z. omega arith) (λ z. omega arith)) (omega (arith, few.2, p.size, q.size)) i (omega (arith, rows_count 3 c))
  repeats_in (suc (suc (suc (suc zero)))) i x y h =
      last₄ 4 (i + 1) (λ z. omega arith)
      ∙ t.repeats (λ j. free₃ 4 j (λ z. omega arith) (λ z. omega arith) (λ z. omega arith) (λ z. omega arith) (λ z. omega arith)) (omega (arith, few.3, p.size, q.size, r.size)) i (omega (arith, rows_count 4 d))
  repeats_in (suc (suc (suc (suc (suc f))))) i x y h = absurd (omega arith)

  dates_in : (i : ℕ) → i < length w.dates → marked m₅ 6 (i + 1) ≡ rule20·dates w i
  unfolding w feed_of file_of repeated rule20·dates
  dates_in i h =
      u.repeats (λ j. t.other 6 j (λ z. omega arith) (λ z l. omega arith) ∙ free₃ 6 j (λ z. omega arith) (λ z. omega arith) (λ z. omega arith) (λ z. omega arith) (λ z. omega arith))
      (omega (arith, few.4, p.size, q.size, r.size, t.size)) i (omega (arith, rows_count 6 g))

  parents_in : (i : ℕ) → i < length w.stops → marked m₅ parent_mark (i + 1) ≡ not (empty (parent_station (row w.stops i)))
  unfolding w feed_of file_of noted
  parents_in i h =
      last₁ 7 (i + 1) (λ z. omega arith) (λ z. omega arith) (λ z. omega arith) (λ z. omega arith) (λ z. omega arith)
      ∙ p.notes (blank 7) (omega (arith, few.0)) i (omega (arith, rows_count 1 a))

  nameless_in : (i : ℕ) → i < length w.routes → marked m₅ nameless_mark (i + 1) ≡ rule25 w i
  unfolding w feed_of file_of noted rule25
  nameless_in i h =
      last₂ 8 (i + 1) (λ z. omega arith) (λ z. omega arith) (λ z. omega arith)
      ∙ q.notes (λ j. free₁ 8 j (λ z. omega arith) (λ z. omega arith)) (omega (arith, few.1, p.size)) i (omega (arith, rows_count 2 b))

  pub noted_all : Noted (feed_of (a ∷ b ∷ c ∷ d ∷ e ∷ g ∷ [])) m₅
  unfolding w
  noted_all = record { repeats = repeats_in; dates = dates_in; parents = parents_in; nameless = nameless_in }

  -- marks past those of these files are not set
  pub none_told : (k i : ℕ) → 9 ≤ k → marked m₅ k i ≡ false
  none_told k i h = last₃ k i (λ z. omega arith) (λ z. omega arith) ∙ free₃ k i (λ z. omega arith) (λ z. omega arith) (λ z. omega arith) (λ z. omega arith) (λ z. omega arith)
