-- One code, asked at the counter: each sentence of document 02's E5 holds.
use Rattle.std.specs.Prelude.{Ok, Err}
use mathlib.Core.Path.{◌≡◌, refl, sym, ap, ◌∙◌}
use mathlib.Core.Logic.{◌⊎◌, inl, inr}
use mathlib.Core.Bool.{Bool, true, false, cond, not, ◌||◌}
use mathlib.Core.List.{List, [], ◌∷◌}
use Prim.Native.Nat.{ℕ, zero, suc, ◌+◌, ◌*◌, ◌-◌, ◌^◌, ◌≤◌, ◌<◌}
use native.Mathlib.Omega.{arith}
use lib.Dec.{ltb, eqb}
use lib.IntN.{ℤ}
use lib.ListN.{length, get_or}
use borrow.Author.Tests.{ltb-true, ltb-false, lt-ltb, le-ltb, eqb-true, eqb-false, eq-eqb, ne_eqb}
use Rattle.std.specs.declared.cmp.Ordering.TheVariants.{Less, Equal, Greater}
use Rattle.meaning.specs.Lists.{empty, same, find}
use Rattle.meaning.specs.Bytes.{lines_of, count_lf}
use Rattle.meaning.specs.Tables.{refer}
use Rattle.meaning.specs.Promises.{First, absent, found}
use Rattle.meaning.proofs.ListLaws.{both, same_equal, same_self}
use Rattle.meaning.proofs.Laws.{place_of, get_d_mem}
use Rattle.meaning.proofs.References.{find_first}
use Rattle.text.proofs.Lines.{lines_all}
use Rattle.std.specs.declared.cmp.Ordering.{Ordering}
use Rattle.ranking.specs.Ranks.{compare, turned}
use Rattle.ranking.proofs.Laws.{compare_self, compare_equal, compare_turned, before_less}
use Rattle.indexes.specs.Order.{ids_of, id_of, Rising}
use Rattle.indexes.specs.Index.{number_at, version_of, version_named, index_length, entry, rule40, other_version, rule41}
use Rattle.indexes.proofs.Order.{rising_length}
use Rattle.id_places.proofs.Own.{sized, ids_count, id_there, id_is_lem}
use Rattle.lookups.specs.Lookup.{Standing, LookupAnswer, refused, named, own_count, miscounted, barred, stop_width, outside, standing_of, standing, halve, standing_at, sought, lookup, lookup_numbers}
use Rattle.lookups.specs.Promises.{says, fifty, Unfit, Stumbles, Counter}
use Rattle.lookups.proofs.Halving.{halve_few, halve_none, halve_found, Stands, halve_listed, halve_unsound, halve_stopped}
use Rattle.lookups.proofs.Unfit.{unfit_unsound, unsound_unfit}
use Rattle.lookups.proofs.Ids.{stands_id}
use Rattle.lookups.proofs.Paired.{Paired, paired}
use Rattle.lookups.proofs.Accepted.{count_is, not_barred, entries}

-- ---- the answer, by cases

nothing : (code : List ℕ) → empty code ≡ true → code ≡ []
unfolding empty
nothing [] h = refl
nothing (c ∷ r) h = absurd (omega (arith, eqb-true (suc (length r)) 0 h))

something : (code : List ℕ) → (code ≡ [] → ⊥) → empty code ≡ false
unfolding empty
something [] h = absurd (h refl)
something (c ∷ r) h = ne_eqb (suc (length r)) 0 (λ z. omega arith)

module _ (s : List ℕ) (t : List ℤ) (b code : List ℕ) where
  asked_empty : empty code ≡ true → lookup s t b code ≡ Ok 0
  unfolding lookup
  asked_empty h = rw h

  asked_barred : empty code ≡ false → barred b ≡ true → lookup s t b code ≡ refused
  unfolding lookup
  asked_barred h g = rw (h, g)

  asked_sought : empty code ≡ false → barred b ≡ false → lookup s t b code ≡ sought s t b code
  unfolding lookup
  asked_sought h g = rw (h, g)

  -- no entries, or no answer but that of the entries
  asked_none : barred b ≡ false → own_count b ≡ 0 → lookup s t b code ≡ Ok 0
  unfolding sought
  asked_none h g = go (empty code) refl
    where
      go : (e : Bool) → empty code ≡ e → lookup s t b code ≡ Ok 0
      go true e = asked_empty e
      go false e = asked_sought e h ∙ rw (eq-eqb (own_count b) 0 g)

  asked_some : empty code ≡ false → barred b ≡ false → (n : ℕ) → own_count b ≡ n → 0 < n → lookup s t b code ≡ halve (standing_at s t b code) (entry (named b) b) n 0 n
  unfolding sought
  asked_some h g n e k = asked_sought h g ∙ rw (e, ne_eqb n 0 (λ z. omega arith))

  barred_fifty : (code ≡ [] → ⊥) → barred b ≡ true → lookup_numbers (lookup s t b code) ≡ fifty
  unfolding lookup_numbers
  barred_fifty h g = rw (asked_barred (something code h) g)

-- ---- an index that is answered 50

module _ (b : List ℕ) where
  or_right : (a c : Bool) → c ≡ true → (a || c) ≡ true
  or_right true c h = refl
  or_right false c h = h

  or_left : (a c : Bool) → a ≡ true → (a || c) ≡ true
  or_left a c h = rw h

  is_unmarked : rule40 b ≡ true → barred b ≡ true
  unfolding barred
  is_unmarked h = or_left (rule40 b) _ h

  is_unknown : rule41 b ≡ true → barred b ≡ true
  unfolding barred
  is_unknown h = or_right (rule40 b) _ (or_left (rule41 b) _ h)

  is_other : (get_or b 5 0 ≡ 1 → ⊥) → barred b ≡ true
  unfolding barred
  is_other h = or_right (rule40 b) _ (or_right (rule41 b) _ (or_left (not (eqb (get_or b 5 0) 1)) _ (rw (ne_eqb (get_or b 5 0) 1 h))))

  is_miscounted : miscounted b ≡ true → barred b ≡ true
  unfolding barred
  is_miscounted h = or_right (rule40 b) _ (or_right (rule41 b) _ (or_right (not (eqb (get_or b 5 0) 1)) _ h))

  unlike : (c : Bool) (n : ℕ) → (length b ≡ n → ⊥) → (c || not (eqb (length b) n)) ≡ true
  unlike c n h = or_right c _ (rw (ne_eqb (length b) n h))

  first_length : number_at 2 b 3 ≡ 1 → (length b ≡ 8 + 2 * number_at 2 b 6 → ⊥) → miscounted b ≡ true
  unfolding miscounted own_count version_named index_length
  first_length e h = rw e (unlike (not (eqb (version_of (number_at 2 b 6)).number 1)) (8 + number_at 2 b 6 * 2) (λ z. h (omega (arith, z))))

  second_length : number_at 2 b 3 ≡ 2 → (length b ≡ 10 + 4 * number_at 4 b 6 → ⊥) → miscounted b ≡ true
  unfolding miscounted own_count version_named index_length
  second_length e h = rw e (unlike (not (eqb (version_of (number_at 4 b 6)).number 2)) (10 + number_at 4 b 6 * 4) (λ z. h (omega (arith, z))))

  second_few : number_at 2 b 3 ≡ 2 → number_at 4 b 6 ≤ 65535 → miscounted b ≡ true
  unfolding miscounted own_count version_named version_of
  second_few e h = rw (e, lt-ltb (number_at 4 b 6) 65536 (omega arith))

  narrow : number_at 2 b 3 ≡ 2 → (number_at 4 b 6 ≤ 65535) ⊎ (length b < 10) → miscounted b ≡ true
  narrow e (inl h) = second_few e h
  narrow e (inr h) = second_length e (λ z. omega arith)

  takes_first : rule40 b ≡ false → number_at 2 b 3 ≡ 1 → get_or b 5 0 ≡ 1 → number_at 2 b 6 ≤ 65535 → length b ≡ 8 + 2 * number_at 2 b 6 → barred b ≡ false
  unfolding barred other_version rule41 miscounted own_count version_named version_of index_length
  takes_first h e f few g =
      let z : length b ≡ 8 + number_at 2 b 6 * 2 = omega (arith, g) in
      rw (h, e, f, lt-ltb (number_at 2 b 6) 65536 (omega arith), eq-eqb (length b) (8 + number_at 2 b 6 * 2) z)

  takes_second : rule40 b ≡ false → number_at 2 b 3 ≡ 2 → get_or b 5 0 ≡ 1 → 65535 < number_at 4 b 6 → length b ≡ 10 + 4 * number_at 4 b 6 → barred b ≡ false
  unfolding barred other_version rule41 miscounted own_count version_named version_of index_length
  takes_second h e f many g =
      let z : length b ≡ 10 + number_at 4 b 6 * 4 = omega (arith, g) in
      rw (h, e, f, le-ltb (number_at 4 b 6) 65536 (omega arith), eq-eqb (length b) (10 + number_at 4 b 6 * 4) z)

-- ---- the table that the check wrote and an accepted index

module _ (s : List ℕ) (t : List ℤ) (b : List ℕ) (ours : Paired s t b) where
  abbrev ids : List (List ℕ)
  ids = ids_of 1 s

  abbrev rs : List ℕ
  rs = ours.index.records

  rising : Rising ids rs
  rising = ours.index.rising

  lines : length ids + 1 ≡ length (lines_of s)
  lines =
      let z = (sized 1 s ours.read).some in
      omega (arith, ids_count 1 s (count_lf s - 1) (omega (arith, z)), lines_all s, z)

  few : length ids < 2 ^ 32
  few = omega (arith, lines, lines_all s, (sized 1 s ours.read).few)

  long : length rs ≡ length ids
  long = rising_length ids rs rising

  -- how a code stands to the id of a record
  stands_to : (code : List ℕ) (r : ℕ) → 1 ≤ r → r ≤ length ids → standing s t code r ≡ standing_of (compare code (id_of ids r))
  stands_to code zero h g = absurd (omega arith)
  stands_to code (suc i) h g =
      let last : suc i < length (lines_of s) = omega (arith, lines) in
      let one : i + 1 < length (lines_of s) = omega (arith, lines) in
      stands_id s ours.read i last t code (omega (arith, ours.table.room, last)) (ours.table.ids i one)

  -- an id is no empty value
  id_some : (r : ℕ) → 1 ≤ r → r ≤ length ids → empty (id_of ids r) ≡ false
  id_some zero h g = absurd (omega arith)
  id_some (suc i) h g =
      let last : suc i < length (lines_of s) = omega (arith, lines) in
      rw (id_is_lem 1 s ours.read i last) (id_there 1 s ours.read i last)

  abbrev id : ℕ → List ℕ
  id j = id_of ids (get_or rs j 0)

  record_in : (j : ℕ) → j < length ids → (1 ≤ get_or rs j 0) × (get_or rs j 0 ≤ length ids)
  record_in j h = rising.only (get_or rs j 0) (get_d_mem rs j 0 (omega (arith, long)))

  entry_is : (j : ℕ) → j < length ids → entry (named b) b j ≡ get_or rs j 0
  entry_is j h = entries ids b few ours.index j (omega (arith, long))

  at_is : (code : List ℕ) (j : ℕ) → j < length ids → standing_at s t b code j ≡ standing_of (compare code (id j))
  at_is code j h = let k = record_in j h in rw (entry_is j h) (stands_to code (get_or rs j 0) k.0 k.1)

  module _ (i : ℕ) (inside : i < length ids) where
    stands_there : Stands (standing_at s t b (id i)) (entry (named b) b) 0 (length ids) i
    unfolding turned
    stands_there = record {
      from = omega arith;
      to = inside;
      here = at_is (id i) i inside ∙ rw (compare_self (id i));
      lesser = λ j a l.
          let z : compare (id j) (id i) ≡ Less = before_less (id j) (id i) (rising.rise j i l (omega (arith, long))) in
          at_is (id i) j (omega arith) ∙ rw (compare_turned (id j) (id i), z);
      greater = λ j l h.
          let z : compare (id i) (id j) ≡ Less = before_less (id i) (id j) (rising.rise i j l (omega (arith, long))) in
          at_is (id i) j h ∙ rw z;
    }

    found_at : lookup s t b (id i) ≡ Ok (get_or rs i 0)
    found_at =
        let k = record_in i inside in
        asked_some s t b (id i) (id_some (get_or rs i 0) k.0 k.1) (not_barred ids b few ours.index) (length ids) (count_is ids b few ours.index) (omega arith)
        ∙ (halve_found (standing_at s t b (id i)) (entry (named b) b) (length ids) 0 (length ids) i (omega arith) stands_there
        ∙ rw (entry_is i inside))

  -- the record with that id,
  found_one : (code : List ℕ) (r : ℕ) → 1 ≤ r → r ≤ length ids → id_of ids r ≡ code → lookup s t b code ≡ Ok r
  found_one code r h g e =
      let p = place_of rs 0 r (rising.every r h g) in
      let z : get_or rs p.index 0 ≡ r = p.here in
      let q : id p.index ≡ code = rw z e in
      rw (q, z) at (found_at p.index (omega (arith, p.inside, long)))

  -- or 0
  passed : (code : List ℕ) → ((r : ℕ) → 1 ≤ r → r ≤ length ids → id_of ids r ≡ code → ⊥) → (j : ℕ) → 0 ≤ j → j < length ids → (standing_at s t b code j ≡ Ok Less) ⊎ (standing_at s t b code j ≡ Ok Greater)
  passed code none j a h = go (compare code (id j)) refl
    where
      go : (o : Ordering) → compare code (id j) ≡ o → (standing_at s t b code j ≡ Ok Less) ⊎ (standing_at s t b code j ≡ Ok Greater)
      go Less e = inl (at_is code j h ∙ rw e)
      go Equal e = let k = record_in j h in absurd (none (get_or rs j 0) k.0 k.1 (sym (compare_equal code (id j) e)))
      go Greater e = inr (at_is code j h ∙ rw e)

  missing_none : (code : List ℕ) → ((r : ℕ) → 1 ≤ r → r ≤ length ids → id_of ids r ≡ code → ⊥) → lookup s t b code ≡ Ok 0
  missing_none code none = go (empty code) refl (ltb 0 (length ids)) refl
    where
      go : (e : Bool) → empty code ≡ e → (u : Bool) → ltb 0 (length ids) ≡ u → lookup s t b code ≡ Ok 0
      go true e u f = asked_empty s t b code e
      go false e false f = asked_none s t b code (not_barred ids b few ours.index) (omega (arith, count_is ids b few ours.index, ltb-false 0 (length ids) f))
      go false e true f =
          asked_some s t b code e (not_barred ids b few ours.index) (length ids) (count_is ids b few ours.index) (ltb-true 0 (length ids) f)
          ∙ halve_none (standing_at s t b code) (entry (named b) b) (length ids) 0 (length ids) (ltb-true 0 (length ids) f) (omega arith) (passed code none)

  -- as reading every line would have it
  read_every : (code : List ℕ) → lookup s t b code ≡ Ok (refer code ids)
  unfolding refer id_of
  read_every code = go (empty code) refl (find code 1 ids) (find_first code 1 ids)
    where
      back : (k : ℕ) → 1 + k - 1 ≡ k
      back k = omega arith

      go : (e : Bool) → empty code ≡ e → (r : ℕ) → First code 1 ids r → lookup s t b code ≡ Ok (cond e 0 r)
      go true e r f = asked_empty s t b code e
      go false e r (absent z none) = rw z (missing_none code (λ q h g i. both (same code code) (same_self code) (rw (at_one q h i) at (none (q - 1) (omega arith)))))
        where
          at_one : (q : ℕ) → 1 ≤ q → id_of ids q ≡ code → get_or ids (q - 1) [] ≡ code
          at_one q h i = i
      go false e r (found k z h i u) = rw z (found_one code (1 + k) (omega arith) (omega arith) (rw (back k) (same_equal _ _ i)))

-- ---- any other table or index

told_found : (a : LookupAnswer) (r : ℕ) → lookup_numbers a ≡ says r → a ≡ Ok r
unfolding lookup_numbers
told_found (Ok q) r e = let z : q ≡ r = cc in ap Ok z
told_found (Err x) r e = let z : ◌≡◌ {A = ℕ} 50 0 = cc in absurd (omega arith)

found_none : {X : Type 0} (r : ℕ) → 1 ≤ r → ◌≡◌ {A = LookupAnswer} (Ok 0) (Ok r) → X
found_none r h e = let z : ◌≡◌ {A = ℕ} 0 r = cc in absurd (omega arith)

refused_found : {X : Type 0} (r : ℕ) → refused ≡ Ok r → X
refused_found r e = let z : ◌≡◌ {A = ℕ} 0 1 = cc in absurd (omega arith)

unsound_here : {X : Type 0} → refused ≡ Ok Equal → X
unsound_here e = let z : ◌≡◌ {A = ℕ} 0 1 = cc in absurd (omega arith)

here_inside : (s : List ℕ) (t : List ℤ) (code : List ℕ) (r : ℕ) → standing s t code r ≡ Ok Equal → (r + 1) * stop_width ≤ length t
unfolding standing outside
here_inside s t code r e = go _ (ltb (length t) ((r + 1) * stop_width)) refl e
  where
    go : (k : Standing) (u : Bool) → ltb (length t) ((r + 1) * stop_width) ≡ u → cond u refused k ≡ Ok Equal → (r + 1) * stop_width ≤ length t
    go k true f g = unsound_here g
    go k false f g = ltb-false (length t) ((r + 1) * stop_width) f

module _ (s : List ℕ) (t : List ℤ) (b code : List ℕ) where
  found_inside : (r : ℕ) → 1 ≤ r → lookup s t b code ≡ Ok r → (r + 1) * stop_width ≤ length t
  unfolding lookup sought
  found_inside r h e = go (empty code) (barred b) (eqb (own_count b) 0) e
    where
      go : (x y z : Bool) → cond x (Ok 0) (cond y refused (cond z (Ok 0) (halve (standing_at s t b code) (entry (named b) b) (own_count b) 0 (own_count b)))) ≡ Ok r → (r + 1) * stop_width ≤ length t
      go true y z f = found_none r h f
      go false true z f = refused_found r f
      go false false true f = found_none r h f
      go false false false f =
          let l = halve_listed (standing_at s t b code) (entry (named b) b) (own_count b) 0 (own_count b) r h f in
          here_inside s t code r (rw l.is at l.here)

-- ---- what is answered 50

told_refused : (a : LookupAnswer) → lookup_numbers a ≡ fifty → a ≡ refused
unfolding lookup_numbers
told_refused (Ok q) e = let z : ◌≡◌ {A = ℕ} 0 50 = cc in absurd (omega arith)
told_refused (Err x) e = refl

module _ (s : List ℕ) (t : List ℤ) (b code : List ℕ) (fit : barred b ≡ false) where
  all_unfit : (code ≡ [] → ⊥) → 0 < own_count b → ((i : ℕ) → i < own_count b → Unfit s t (entry (named b) b i)) → lookup s t b code ≡ refused
  all_unfit h some w =
      asked_some s t b code (something code h) fit (own_count b) refl some
      ∙ halve_unsound (standing_at s t b code) (entry (named b) b) (own_count b) 0 (own_count b) some (omega arith) (λ j x y. unfit_unsound s t code (entry (named b) b j) (w j y))

  one_unfit : lookup s t b code ≡ refused → Stumbles s t b
  unfolding lookup sought
  one_unfit e = go (empty code) (eqb (own_count b) 0) refl (rw fit at e)
    where
      go : (x z : Bool) → eqb (own_count b) 0 ≡ z → cond x (Ok 0) (cond z (Ok 0) (halve (standing_at s t b code) (entry (named b) b) (own_count b) 0 (own_count b))) ≡ refused → Stumbles s t b
      go true z g f = refused_found 0 (sym f)
      go false true g f = refused_found 0 (sym f)
      go false false g f =
          let some : 0 < own_count b = (let n = eqb-false (own_count b) 0 g in omega arith) in
          let l = halve_stopped (standing_at s t b code) (entry (named b) b) (own_count b) 0 (own_count b) some f in
          record { at = l.entry; inside = l.to; unfit = unsound_unfit s t code (entry (named b) b l.entry) l.unsound }

-- ---- all of it

pub counter : (s : List ℕ) (t : List ℤ) (b code : List ℕ) → Counter s t b code
unfolding lookup_numbers empty
counter s t b code = record {
  halvings = λ some h. halve_few (standing_at s t b code) (entry (named b) b) 32 (own_count b) 0 (own_count b) some (omega arith) (omega arith);
  empty = λ h. rw (asked_empty s t b code (rw h));
  none = λ h g. rw (asked_none s t b code h g);
  unmarked = λ h g. barred_fifty s t b code h (is_unmarked b g);
  unknown = λ h g. barred_fifty s t b code h (is_unknown b g);
  other = λ h g. barred_fifty s t b code h (is_other b g);
  length1 = λ h e g. barred_fifty s t b code h (is_miscounted b (first_length b e g));
  length2 = λ h e g. barred_fifty s t b code h (is_miscounted b (second_length b e g));
  taken1 = takes_first b;
  taken2 = takes_second b;
  narrow = λ h e g. barred_fifty s t b code h (is_miscounted b (narrow b e g));
  probed = λ h fit some w. rw (all_unfit s t b code fit h some w);
  stumbled = λ fit e. one_unfit s t b code fit (told_refused (lookup s t b code) e);
  agrees = λ o. rw (read_every s t b (paired s t b o) code);
  found = λ o r h g e. rw (found_one s t b (paired s t b o) code r h g e);
  missing = λ o none. rw (missing_none s t b (paired s t b o) code none);
  inside = λ r h e. found_inside s t b code r h (told_found (lookup s t b code) r e);
}
