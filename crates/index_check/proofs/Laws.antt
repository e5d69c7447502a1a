-- The tests of an index, one by one, as the reader makes them.
use Rattle.std.specs.Prelude.{Ok, Err}
use mathlib.Core.Path.{◌≡◌, refl, sym, ap, ◌∙◌}
use mathlib.Core.Bool.{Bool, true, false, not, ◌||◌}
use mathlib.Core.List.{List}
use Prim.Native.Nat.{ℕ, ◌+◌, ◌-◌, ◌^◌, ◌≤◌, ◌<◌}
use native.Mathlib.Omega.{arith}
use lib.Dec.{eqb, ltb}
use lib.IntN.{ℤ}
use lib.ListN.{length, get_or}
use borrow.Author.Tests.{eqb-true, eq-eqb, ne_eqb, not-false}
use Rattle.meaning.specs.declared.Refusal.{Refusal}
use Rattle.meaning.specs.Lists.{same, some}
use Rattle.meaning.specs.Bytes.{count_lf, value}
use Rattle.text.specs.Fields.{field_on}
use Rattle.std.specs.Ordering.{is_lt}
use Rattle.std.specs.declared.cmp.Ordering.{Ordering}
use Rattle.ranking.specs.Ranks.{before, compare, ranked}
use Rattle.ranking.proofs.Laws.{compare_ranked}
use Rattle.columns.proofs.Laws.{some_next}
use Rattle.ordering.specs.Cells.{cell_at}
use Rattle.ordering.specs.Ids.{value_on}
use Rattle.indexes.specs.Answer.{IndexAnswer}
use Rattle.indexes.specs.declared.IndexRefusal.TheVariants.{Unread, Barred}
use Rattle.indexes.specs.Order.{ids_of, id_of}
use Rattle.indexes.specs.declared.version.Version.{Version}
use Rattle.indexes.specs.Index.{number_at, version_of, index_length, entry, rule40, other_version, rule41, misfits, rule42, strays, rule43, rule44, index_tests, spoken, indexed, lone_verdict, barred_or, checked}
use Rattle.meaning.proofs.FirstBroken.{said_readable}
use Rattle.meaning.proofs.Tests.{or_neither}
use Rattle.indexes.specs.Promises.{Reads}
use Rattle.indexes.proofs.Accepted.{known_entry}
use Rattle.indexes.proofs.Beside.{asked_read, asked_refused, asked_outside, asked_range, asked_not}
use Rattle.id_places.specs.Places.{Ids}
use Rattle.id_places.proofs.Own.{sized, ids_count, value_of}
use Rattle.index_check.specs.Entries.{Entries}

-- ---- the head of an index

module _ (b : List ℕ) where
  module _ (v : Version) (f n : ℕ) where
    pub other_version_lem : (number_at 2 b 3 ≡ v.number → ⊥) → true ≡ rule42 v f n b
    unfolding other_version rule42
    other_version_lem h = rw (ne_eqb _ _ h)

    module _ (version : number_at 2 b 3 ≡ v.number) where
      pub other_file_lem : (get_or b 5 0 ≡ f → ⊥) → true ≡ rule42 v f n b
      unfolding other_version misfits rule42
      other_file_lem h = rw (eq-eqb _ _ version, ne_eqb _ _ h)

      module _ (file : get_or b 5 0 ≡ f) where
        pub other_length : (length b ≡ index_length v n → ⊥) → true ≡ rule42 v f n b
        unfolding other_version misfits rule42
        other_length h = rw (eq-eqb _ _ version, eq-eqb _ _ file, ne_eqb _ _ h) (go (not (eqb (number_at v.width b 6) n)))
          where
            go : (t : Bool) → true ≡ (t || true)
            go true = refl
            go false = refl

        pub other_count : length b ≡ index_length v n → (k : ℕ) → k ≡ number_at v.width b 6 → not (eqb k n) ≡ rule42 v f n b
        unfolding other_version misfits rule42
        other_count h k e = rw (eq-eqb _ _ version, eq-eqb _ _ file, eq-eqb _ _ h, e) (go (not (eqb (number_at v.width b 6) n)))
          where
            go : (t : Bool) → t ≡ (t || false)
            go true = refl
            go false = refl

    pub size_is : rule42 v f n b ≡ false → length b ≡ index_length v n
    unfolding other_version misfits rule42
    size_is e =
        let j = (or_neither (not (eqb (number_at 2 b 3) v.number)) _ e).1 in
        let k = (or_neither (not (eqb (get_or b 5 0) f)) _ j).1 in
        eqb-true _ _ (not-false _ (or_neither (not (eqb (number_at v.width b 6) n)) _ k).1)

-- ---- the records that are listed

pub stray_none : (n r x : ℕ) → r ≡ x → r ≡ 0 → eqb r 0 ≡ strays n x
unfolding strays
stray_none n r x e z = rw (← e, eq-eqb _ _ z)

pub stray_past : (n r x : ℕ) → r ≡ x → (r ≡ 0 → ⊥) → ltb n r ≡ strays n x
unfolding strays
stray_past n r x e z = rw (← e, ne_eqb _ _ z)

pub ids_as : (f : ℕ) (s : List ℕ) (m n : ℕ) (t : List ℤ) → n + 1 ≡ count_lf s → Ids f s m t → Ids f s n t
ids_as f s m n t q i = let z : n ≡ m = omega (arith, i.count) in rw z i

-- ---- the ids of two records

-- two fields that were read from where their ids begin, and compared
module _ (s : List ℕ) (x y p q : ℕ) (a b : List ℕ) (o : Ordering) where
  pub before_told : p ≡ x → q ≡ y → a ≡ field_on s p → b ≡ field_on s q → o ≡ compare (value a) (value b) → is_lt o ≡ before (value_on s x) (value_on s y)
  unfolding value_on ranked
  before_told d e i j k = rw (← d, ← e, ← i, ← j, k, compare_ranked) (go (before (value a) (value b)) (same (value a) (value b)))
    where
      go : (t u : Bool) → is_lt (ranked t u) ≡ t
      go true u = refl
      go false true = refl
      go false false = refl

-- do the ids of an entry and of the next not rise
abbrev pub falling : Version → List (List ℕ) → List ℕ → ℕ → Bool
falling v ids b i = not (before (id_of ids (entry v b i)) (id_of ids (entry v b (i + 1))))

pub falls_first : (v : Version) (f : ℕ) (s b : List ℕ) (n : ℕ) → n + 1 ≡ count_lf s → some (falling v (ids_of f s) b) (1 - 1) (n - 1 - (1 - 1)) ≡ rule44 v (ids_of f s) b
unfolding rule44
falls_first v f s b n h = let z : n - 1 - (1 - 1) ≡ length (ids_of f s) - 1 = omega (arith, ids_count f s n h) in rw z

-- entry i - 1 is looked at beside entry i
pub falls_next : (P : ℕ → Bool) (i n : ℕ) (r : Bool) → 1 ≤ i → some P (i - 1) (n - 1 - (i - 1)) ≡ r → i < n → P (i - 1) ≡ false → (j : ℕ) → j ≡ i + 1 → some P (j - 1) (n - 1 - (j - 1)) ≡ r
falls_next P i n r one inv more here j e = let z : j - 1 ≡ i - 1 + 1 = omega arith in rw z (some_next P (i - 1) (n - 1) r inv (omega arith) here)

-- a table of where ids begin tells the ids that an index lists
module _ (f : ℕ) (s : List ℕ) (n : ℕ) (t : List ℤ) (reads : Reads f s) (placed : Ids f s n t) where
  id_at : (x : ℕ) → 1 ≤ x → x ≤ n → value_on s (cell_at 0 t 1 x) ≡ id_of (ids_of f s) x
  id_at x h g = rw (placed.starts x h g) (value_of f s reads n placed.count x h g)

  module _ (v : Version) (b : List ℕ) (listed : Entries v n b) (i : ℕ) (more : i < n) (x : ℕ) (p : x ≡ entry v b i) where
    pub listed_fits : count_lf s ≤ length t → x < length t
    listed_fits h = omega (arith, known_entry v n b listed.known i more, placed.count)

    listed_id : value_on s (cell_at 0 t 1 x) ≡ id_of (ids_of f s) (entry v b i)
    listed_id = let k = known_entry v n b listed.known i more in id_at x (omega (arith, k)) (omega (arith, k)) ∙ ap (id_of (ids_of f s)) p

  pub falls_at : (v : Version) (b : List ℕ) → Entries v n b → (i j : ℕ) → j ≡ i + 1 → j < n → (x y : ℕ) → x ≡ entry v b i → y ≡ entry v b j
      → (r : Bool) → r ≡ before (value_on s (cell_at 0 t 1 x)) (value_on s (cell_at 0 t 1 y)) → not r ≡ falling v (ids_of f s) b i
  falls_at v b listed i j h more x y p q r e = rw (← listed_id v b listed i (omega arith) x p, ← listed_id v b listed (i + 1) (omega arith) y (rw h at q), e)

-- ---- the lowest number that speaks

module _ (f : ℕ) (s b : List ℕ) (n : ℕ) (count : n + 1 ≡ count_lf s) where
  abbrev Speaks : ℕ → Type 0
  Speaks k = k ≡ spoken (index_tests (version_of (length (ids_of f s))) f (ids_of f s) b)

  -- so it answers
  pub speaks : (k : ℕ) → 0 < k → Speaks k → Err (Barred k) ≡ barred_or (spoken (index_tests (version_of (length (ids_of f s))) f (ids_of f s) b)) (length b)
  unfolding barred_or
  speaks k h e = rw (← e, ne_eqb k 0 (λ z. omega arith))

  pub silent : Speaks 0 → Ok (length b) ≡ barred_or (spoken (index_tests (version_of (length (ids_of f s))) f (ids_of f s) b)) (length b)
  unfolding barred_or
  silent e = rw (← e)

  pub told_40 : rule40 b ≡ true → Speaks 40
  unfolding spoken index_tests
  told_40 h = rw h

  module _ (marked : rule40 b ≡ false) where
    pub told_41 : rule41 b ≡ true → Speaks 41
    unfolding spoken index_tests
    told_41 h = rw (marked, h)

    module _ (version : rule41 b ≡ false) (v : Version) (is : v ≡ version_of n) where
      pub told_42 : rule42 v f n b ≡ true → Speaks 42
      unfolding spoken index_tests
      told_42 h = rw (marked, version, ids_count f s n count, ← is, h)

      module _ (own : rule42 v f n b ≡ false) where
        pub told_43 : rule43 v n b ≡ true → Speaks 43
        unfolding spoken index_tests
        told_43 h = rw (marked, version, ids_count f s n count, ← is, own, h)

        module _ (known : rule43 v n b ≡ false) where
          pub told_44 : rule44 v (ids_of f s) b ≡ true → Speaks 44
          unfolding spoken index_tests
          told_44 h = rw (marked, version, ids_count f s n count, ← is, own, known, h)

          pub told_none : rule44 v (ids_of f s) b ≡ false → Speaks 0
          unfolding spoken index_tests
          told_none h = rw (marked, version, ids_count f s n count, ← is, own, known, h)

pub fewer : (f : ℕ) (s : List ℕ) (n : ℕ) → Reads f s → n + 1 ≡ count_lf s → n < 2 ^ 32
fewer f s n reads count = omega (arith, (sized f s reads).few)

-- ---- the answer

module _ (f : ℕ) (s b : List ℕ) where
  pub outside : ((1 ≤ f) × (f ≤ 4) → ⊥) → Err (Barred 42) ≡ checked f s b
  unfolding checked
  outside h = sym (asked_outside f s (asked_not f s h) _)

  module _ (low : (f ≡ 0 → ⊥)) (high : f ≤ 4) where
    file : indexed f ≡ true
    file = (asked_range f s).1 (omega arith, high)

    pub reads_it : Ok tt ≡ lone_verdict f s → Reads f s
    reads_it e = record { asked = file; verdict = (said_readable (lone_verdict f s)).1 (sym e) }

    pub unread : (r : Refusal) → Err r ≡ lone_verdict f s → Err (Unread r) ≡ checked f s b
    unfolding checked
    unread r e = sym (asked_refused f s file r (sym e) _)

    pub read : (a : IndexAnswer) → Ok tt ≡ lone_verdict f s → a ≡ barred_or (spoken (index_tests (version_of (length (ids_of f s))) f (ids_of f s) b)) (length b) → a ≡ checked f s b
    unfolding checked
    read a e h = h ∙ sym (asked_read f s (reads_it e) _)
