-- A record is alike to an earlier one exactly where it is alike to the one in the cell before; what the walk has marked, and what that tells of rule 20.
use mathlib.Core.Path.{◌≡◌, refl, sym, ap, ap₂, ◌∙◌}
use mathlib.Core.Bool.{Bool, true, false, ◌&&◌}
use mathlib.Core.List.{List, []}
use Prim.Native.Nat.{ℕ, ◌+◌, ◌-◌, ◌≤◌, ◌<◌}
use native.Mathlib.Omega.{arith}
use lib.Dec.{ltb}
use lib.IntN.{ℤ}
use lib.ListN.{length, get_or, take}
use lib.Seq.{get_or-take, length-take-le}
use borrow.Author.Tests.{lt-ltb, le-ltb, ltb-true, ltb-false}
use Rattle.meaning.specs.Lists.{same, any, some, stands}
use Rattle.meaning.specs.Rules.{rule20}
use Rattle.meaning.proofs.ListLaws.{both}
use Rattle.meaning.proofs.Tests.{some_none, agree, Found, some_found, found_some, Standing, below, level, over, standing, some_as}
use Rattle.meaning.proofs.References.{any_yes, any_no}
use Rattle.marks.specs.Marks.{marked, OneMore}
use Rattle.ordering.specs.declared.By.{By}
use Rattle.ordering.specs.declared.By.TheVariants.{Id}
use Rattle.ordering.specs.Cells.{cell_at}
use Rattle.ordering.specs.Ids.{id_of, in_order, alike, Sorted, Stands, Whole, Apart, ArrangedBy}
use Rattle.ordering.proofs.Laws.{Alike, yes, no, alike as decide}
use Rattle.ordering.proofs.Alikes.{alike_turned, alike_rise, alike_between_last}
use Rattle.seeking.specs.First.{Held}
use Rattle.repeats.specs.Repeats.{linked, Unmarked, Marking}

-- ---- the cell before, and an earlier record

module _ (by : By) (s : List ℕ) (t : List ℤ) (w : ℕ) (f : ℕ → ℕ) where
  pub link_first : (k : ℕ) → k ≤ 1 → linked (alike by s t w) f k ≡ false
  unfolding linked
  link_first k h = rw (le-ltb 1 k h)

  pub link_is : (k : ℕ) (b : Bool) → 1 < k → b ≡ alike by s t w (f (k - 1)) (f k) → linked (alike by s t w) f k ≡ b
  unfolding linked
  link_is k b h e = rw (lt-ltb 1 k h) (sym e)

  data Link (k : ℕ) : Type 0 where
    linking : 1 < k → alike by s t w (f (k - 1)) (f k) ≡ true → Link k

  link_told : (k : ℕ) → linked (alike by s t w) f k ≡ true → Link k
  unfolding linked
  link_told k e = go (ltb 1 k) refl e
    where
      go : (b : Bool) → ltb 1 k ≡ b → (b && alike by s t w (f (k - 1)) (f k)) ≡ true → Link k
      go true p q = linking (ltb-true 1 k p) q
      go false p q = both false q refl

  module _ (n : ℕ) (sorted : Sorted (in_order by s t w) f n) (whole : Whole f n) (apart : Apart f n) where
    -- of two cells whose records are alike, the earlier holds the earlier record
    earlier_record : (i j : ℕ) → 0 < i → i < j → j ≤ n → alike by s t w (f i) (f j) ≡ true → f i < f j
    unfolding Sorted Apart
    earlier_record i j a b c e = omega (arith, apart i j a b c, alike_rise s t w by (f i) (f j) (sorted i j a b c) e)

    -- what is alike to the record in cell k stands past cell k only if it is a later record
    twin_before : (k j : ℕ) → 0 < k → j ≤ n → alike by s t w (f j) (f k) ≡ true → f j < f k → j < k
    twin_before k j a b e l = go (standing j k)
      where
        go : Standing j k → j < k
        go (below p) = p
        go (level p) = let q : f j ≡ f k = ap f p in absurd (omega arith)
        go (over p) = absurd (omega (arith, earlier_record k j a p b (alike_turned s t w by (f j) (f k) e)))

    -- .. and else the cell before is alike to it too
    twin_link : (k j : ℕ) → 0 < j → j < k → k ≤ n → alike by s t w (f j) (f k) ≡ true → alike by s t w (f (k - 1)) (f k) ≡ true
    unfolding Sorted
    twin_link k j a b c e = go (decide j (k - 1))
      where
        go : Alike j (k - 1) → alike by s t w (f (k - 1)) (f k) ≡ true
        go (yes p) = rw p at e
        go (no p) =
            alike_between_last s t w by (f j) (f (k - 1)) (f k)
            (sorted j (k - 1) a (omega arith) (omega arith))
            (sorted (k - 1) k (omega arith) (omega arith) c)
            e

    -- the record in cell k is alike to the one in the cell before exactly where it is alike to an earlier one
    pub link_some : (i k : ℕ) → 0 < k → k ≤ n → f k ≡ i + 1 → linked (alike by s t w) f k ≡ some (λ j. alike by s t w (j + 1) (i + 1)) 0 i
    link_some i k low high is = agree _ _ (λ e. there (link_told k e)) (λ e. back (some_found P 0 i e))
      where
        P : ℕ → Bool
        P j = alike by s t w (j + 1) (i + 1)

        there : Link k → some (λ j. alike by s t w (j + 1) (i + 1)) 0 i ≡ true
        there (linking l p) =
            let q : f (k - 1) - 1 + 1 ≡ f (k - 1) = omega (arith, (whole.within (k - 1) (omega arith) (omega arith)).0) in
            let r : f (k - 1) < f k = earlier_record (k - 1) k (omega arith) (omega arith) high p in
            found_some P 0 i (f (k - 1) - 1) (omega arith) (omega arith) (rw (q, ← is) p)

        back : Found P 0 i → linked (alike by s t w) f k ≡ true
        back p = at (whole.each (p.place + 1) (omega arith) (omega (arith, p.high, (whole.within k low high).1)))
          where
            at : Stands f n (p.place + 1) → linked (alike by s t w) f k ≡ true
            at q =
                let e : alike by s t w (f q.place) (f k) ≡ true = rw (q.is, is) p.is in
                let l : q.place < k = twin_before k q.place low q.high e (omega (arith, q.is, p.high)) in
                link_is k true (omega (arith, q.low)) (sym (twin_link k q.place q.low l high e))

-- ---- the walk

-- cells below k are told of, the others are not marked yet
pub record Walking (by : By) (s : List ℕ) (o w n : ℕ) (t : List ℤ) (f : ℕ) (m u : List ℕ) (k : ℕ) : Type 0 where
  pub low : 1 < k
  pub size : length u ≡ length m
  pub told : n < length m → Unmarked n f m → (j : ℕ) → 0 < j → j < k → j ≤ n → marked u f (cell_at o t w j) ≡ linked (alike by s t w) (cell_at o t w) j
  pub rest : n < length m → Unmarked n f m → (j : ℕ) → k ≤ j → j ≤ n → marked u f (cell_at o t w j) ≡ false
  pub other : (b r : ℕ) → (b ≡ f → 0 < r → r ≤ n → ⊥) → marked u b r ≡ marked m b r

module _ (by : By) (s : List ℕ) (o w n : ℕ) (t : List ℤ) (a : ArrangedBy by s o w n t) where
  none_marked : (f : ℕ) (m : List ℕ) → Unmarked n f m → (j : ℕ) → 0 < j → j ≤ n → marked m f (cell_at o t w j) ≡ false
  none_marked f m clean j l h = let p = a.whole.within j l h in clean (cell_at o t w j) p.0 p.1

  pub walk_start : (f : ℕ) (m : List ℕ) → Walking by s o w n t f m m 2
  walk_start f m = record {
    low = omega arith;
    size = refl;
    told = λ room clean j l h d. none_marked f m clean j l d ∙ sym (link_first by s t w (cell_at o t w) j (omega arith));
    rest = λ room clean j h d. none_marked f m clean j (omega arith) d;
    other = λ b r free. refl;
  }

  module _ (f : ℕ) (m u : List ℕ) (k : ℕ) (v : Walking by s o w n t f m u k) (high : k ≤ n) where
    link_here : (b : Bool) → b ≡ alike by s t w (cell_at o t w (k - 1)) (cell_at o t w k) → linked (alike by s t w) (cell_at o t w) k ≡ b
    link_here b e = link_is by s t w (cell_at o t w) k b v.low e

    -- the record repeats none
    pub walk_on : false ≡ alike by s t w (cell_at o t w (k - 1)) (cell_at o t w k) → Walking by s o w n t f m u (k + 1)
    walk_on e = record {
      low = omega (arith, v.low);
      size = v.size;
      told = λ room clean j l h d. go room clean j l h d (decide j k);
      rest = λ room clean j h d. v.rest room clean j (omega arith) d;
      other = v.other;
    }
      where
        go : n < length m → Unmarked n f m → (j : ℕ) → 0 < j → j < k + 1 → j ≤ n → Alike j k → marked u f (cell_at o t w j) ≡ linked (alike by s t w) (cell_at o t w) j
        go room clean j l h d (yes q) = rw q (v.rest room clean k (omega arith) high ∙ sym (link_here false e))
        go room clean j l h d (no q) = v.told room clean j l (omega (arith, q)) d

    -- the record repeats one, and is marked
    module _ (x : List ℕ) (r : ℕ) (here : r ≡ cell_at o t w k) (one : OneMore u x f r) where
      -- other cells hold other records
      elsewhere : (j : ℕ) → 0 < j → j ≤ n → (j ≡ k → ⊥) → cell_at o t w j ≡ r → ⊥
      unfolding Apart
      elsewhere j l d q z = side (ltb j k) refl
        where
          side : (b : Bool) → ltb j k ≡ b → ⊥
          side true p = a.apart j k l (ltb-true j k p) high (z ∙ here)
          side false p = a.apart k j (omega (arith, v.low)) (omega (arith, q, ltb-false j k p)) d (sym (z ∙ here))

      pub walk_mark : true ≡ alike by s t w (cell_at o t w (k - 1)) (cell_at o t w k) → Walking by s o w n t f m x (k + 1)
      walk_mark e = record {
        low = omega (arith, v.low);
        size = one.size ∙ v.size;
        told = λ room clean j l h d. go room clean j l h d (decide j k);
        rest = λ room clean j h d. stays j (omega arith) d (λ z. omega arith) ∙ v.rest room clean j (omega arith) d;
        other = λ b q free. one.other b q (λ y z. within (λ g h. free y (rw z g) (rw z h))) ∙ v.other b q free;
      }
        where
          stays : (j : ℕ) → 0 < j → j ≤ n → (j ≡ k → ⊥) → marked x f (cell_at o t w j) ≡ marked u f (cell_at o t w j)
          stays j l d q = one.other f (cell_at o t w j) (λ y z. elsewhere j l d q z)

          within : (0 < r → r ≤ n → ⊥) → ⊥
          within g = let p = a.whole.within k (omega (arith, v.low)) high in g (rw here p.0) (rw here p.1)

          go : n < length m → Unmarked n f m → (j : ℕ) → 0 < j → j < k + 1 → j ≤ n → Alike j k → marked x f (cell_at o t w j) ≡ linked (alike by s t w) (cell_at o t w) j
          go room clean j l h d (yes q) =
              let p = a.whole.within k (omega (arith, v.low)) high in
              rw (q, ← here) (one.here (omega (arith, v.size, here, p.1)) ∙ sym (link_here true e))
          go room clean j l h d (no q) = stays j l d q ∙ v.told room clean j l (omega (arith, q)) d

  pub walk_end : (f : ℕ) (m u : List ℕ) (k : ℕ) → n < k → Walking by s o w n t f m u k → Marking by s t w n f m u
  walk_end f m u k past v = record {
    size = v.size;
    told = λ room clean i h. tell room clean i (a.whole.each (i + 1) (omega arith) (omega arith));
    other = v.other;
  }
    where
      tell : n < length m → Unmarked n f m → (i : ℕ) → Stands (cell_at o t w) n (i + 1) → marked u f (i + 1) ≡ some (λ j. alike by s t w (j + 1) (i + 1)) 0 i
      tell room clean i p =
          let y : marked u f (cell_at o t w p.place) ≡ marked u f (i + 1) = ap (marked u f) p.is in
          sym y
          ∙ v.told room clean p.place p.low (omega (arith, p.high)) p.high
          ∙ link_some by s t w (cell_at o t w) n a.sorted a.whole a.apart i p.place p.low p.high p.is

-- ---- what the marks tell

-- rule 20 of ids as a test of earlier numbers
rule20_some : (ids : List (List ℕ)) (i : ℕ) → i < length ids → some (λ j. same (get_or ids j []) (get_or ids i [])) 0 i ≡ rule20 ids i
unfolding rule20 stands
rule20_some ids i h = go (some P 0 i) refl
  where
    P : ℕ → Bool
    P j = same (get_or ids j []) (get_or ids i [])

    Q : List ℕ → Bool
    Q v = same v (get_or ids i [])

    front : length (take i ids) ≡ i
    front = length-take-le i ids (omega arith)

    at : (j : ℕ) → j < i → Q (get_or (take i ids) j []) ≡ P j
    at j l = ap Q (get_or-take i ids j [] l)

    found : Found P 0 i → any Q (take i ids) ≡ true
    found p = any_yes Q [] (take i ids) p.place (omega (arith, front, p.high)) (at p.place (omega (arith, p.high)) ∙ p.is)

    go : (b : Bool) → some P 0 i ≡ b → some P 0 i ≡ any Q (take i ids)
    go true e = e ∙ sym (found (some_found P 0 i e))
    go false e = e ∙ sym (any_no Q [] (take i ids) (λ j l. at j (omega (arith, front)) ∙ some_none P 0 i e j (omega arith) (omega (arith, front))))

module _ {by : By} {s : List ℕ} {t : List ℤ} {w n f : ℕ} {m m' : List ℕ} (p : Marking by s t w n f m m') (room : n < length m) (clean : Unmarked n f m) where
  -- a record's mark, where being alike is said in other words
  pub repeats_as : (i : ℕ) → i < n → (P : ℕ → Bool) → ((j : ℕ) → j < i → alike by s t w (j + 1) (i + 1) ≡ P j) → marked m' f (i + 1) ≡ some P 0 i
  repeats_as i h P e = p.told room clean i h ∙ some_as (λ j. alike by s t w (j + 1) (i + 1)) P 0 i (λ j a b. e j (omega arith))

-- records that hold ids, by id: rule 20
pub repeats_ids : {s : List ℕ} {t : List ℤ} {w n f : ℕ} {m m' : List ℕ} → Marking Id s t w n f m m' → (ids : List (List ℕ)) → Held s t w ids → n ≡ length ids
    → n < length m → Unmarked n f m → (i : ℕ) → i < n → marked m' f (i + 1) ≡ rule20 ids i
unfolding alike id_of
repeats_ids p ids held all room clean i h =
    repeats_as p room clean i h (λ j. same (get_or ids j []) (get_or ids i [])) (λ j l. ap₂ same (held.at j (omega arith)).equal (held.at i (omega arith)).equal)
    ∙ rule20_some ids i (omega arith)
