-- An index breaks none of 40 to 44 exactly where it lists every record once in rising order of ids.
use Prim.Native.Nat.{ℕ, ◌+◌, ◌-◌, ◌^◌, ◌≤◌, ◌<◌}
use native.Mathlib.Omega.{arith}
use mathlib.Core.Path.{◌≡◌, refl, sym, ap, ◌∙◌}
use mathlib.Core.Logic.{◌↔◌}
use mathlib.Core.Bool.{Bool, true, false, cond}
use mathlib.Core.List.{List, [], ◌∷◌, ◌++◌, map, append_assoc}
use lib.ListN.{length, get_or, take, drop, length-append, take-append-drop}
use lib.Seq.{drop-cons}
use lib.Dec.{ltb, eqb}
use borrow.Author.Tests.{ltb-false, eqb-true, eqb-false, not-false, le-ltb, eq-eqb, ne_eqb}
use Rattle.meaning.specs.Lists.{some, flat}
use Rattle.meaning.proofs.ListLaws.{both, same_equal, same_self}
use Rattle.meaning.proofs.Laws.{get_d_mem}
use Rattle.meaning.proofs.Tests.{or_neither, untrue, some_found, some_none}
use Rattle.ranking.specs.Ranks.{before}
use Rattle.indexes.specs.Order.{id_of, Rising, ranked}
use Rattle.indexes.specs.declared.version.Version.{Version}
use Rattle.indexes.specs.Index.{low_first, number_at, version_of, mark, index_of, head_length, index_length, entry, rule40, rule41, other_version, misfits, rule42, strays, rule43, rule44, index_tests, spoken}
use Rattle.indexes.specs.Versions.{Known}
use Rattle.indexes.specs.Promises.{Lists, Bytes}
use Rattle.indexes.proofs.Numbers.{low_length, written_number, numbers_at, numbers_length, numbers_at_lem, read_numbers, read_front, flat_length, written_numbers}
use Rattle.indexes.proofs.Versions.{known_of, wide_of, version_fits, known_silent}
use Rattle.indexes.proofs.Order.{rising_length, rising_ranked, all_listed}

-- ---- what no broken test says

none_some : (P : ℕ → Bool) (n : ℕ) → ((i : ℕ) → i < n → P i ≡ false) → some P 0 n ≡ false
none_some P n h = untrue (some P 0 n) (λ e. let f = some_found P 0 n e in both (P f.place) f.is (h f.place (omega (arith, f.high))))

-- a test that doesn't speak, and what follows it doesn't either
pub quiet : (n : ℕ) (b : Bool) (k : ℕ) → (n ≡ 0 → ⊥) → cond b n k ≡ 0 → (b ≡ false) × (k ≡ 0)
quiet n true k h e = absurd (h e)
quiet n false k h e = (refl, e)

-- where 43 isn't broken, each entry is a record that there is
pub known_entry : (v : Version) (n : ℕ) (b : List ℕ) → rule43 v n b ≡ false → (i : ℕ) → i < n → (1 ≤ entry v b i) × (entry v b i ≤ n)
unfolding rule43 strays
known_entry v n b e i h =
    let k : (eqb (entry v b i) 0 ≡ false) × (ltb n (entry v b i) ≡ false) = or_neither _ _ (some_none _ 0 n e i (omega arith) (omega arith)) in
    (omega (arith, eqb-false (entry v b i) 0 k.0), ltb-false n (entry v b i) k.1)

-- what 40 to 44 ask, in their order
pub record Sound (v : Version) (f : ℕ) (ids : List (List ℕ)) (b : List ℕ) : Type 0 where
  pub long : 8 ≤ length b
  pub marked : take 3 b ≡ mark
  pub version : number_at 2 b 3 ≡ v.number
  pub file : get_or b 5 0 ≡ f
  pub count : number_at v.width b 6 ≡ length ids
  pub size : length b ≡ index_length v (length ids)
  pub records : (i : ℕ) → i < length ids → (1 ≤ entry v b i) × (entry v b i ≤ length ids)
  pub rise : (i : ℕ) → i + 1 < length ids → before (id_of ids (entry v b i)) (id_of ids (entry v b (i + 1))) ≡ true

module _ (v : Version) (f : ℕ) (ids : List (List ℕ)) (b : List ℕ) where
  silent : spoken (index_tests v f ids b) ≡ 0 → Sound v f ids b
  unfolding spoken index_tests rule40 other_version misfits rule42 rule44
  silent e =
      let p = quiet 40 (rule40 b) _ (λ z. omega arith) e in
      let q = quiet 41 (rule41 b) _ (λ z. omega arith) p.1 in
      let r = quiet 42 (rule42 v f (length ids) b) _ (λ z. omega arith) q.1 in
      let s = quiet 43 (rule43 v (length ids) b) _ (λ z. omega arith) r.1 in
      let t = quiet 44 (rule44 v ids b) _ (λ z. omega arith) s.1 in
      let forty = or_neither _ _ p.0 in
      let own = or_neither _ _ r.0 in
      let forty_two = or_neither _ _ own.1 in
      let its = or_neither _ _ forty_two.1 in
      record {
        long = ltb-false _ _ forty.0;
        marked = same_equal _ _ (not-false _ forty.1);
        version = eqb-true _ _ (not-false _ own.0);
        file = eqb-true _ _ (not-false _ forty_two.0);
        count = eqb-true _ _ (not-false _ its.0);
        size = eqb-true _ _ (not-false _ its.1);
        records = known_entry v (length ids) b s.0;
        rise = λ i h. not-false _ (some_none _ 0 (length ids - 1) t.0 i (omega arith) (omega arith));
      }

  speaks_not : Known v → Sound v f ids b → spoken (index_tests v f ids b) ≡ 0
  unfolding spoken index_tests rule40 other_version misfits rule42 strays rule43 rule44
  speaks_not known s = rw (forty, forty_one, forty_two, forty_three, forty_four)
    where
      forty : rule40 b ≡ false
      forty = rw (le-ltb _ _ s.long, s.marked, same_self mark)

      forty_one : rule41 b ≡ false
      forty_one = known_silent v b known s.version

      forty_two : rule42 v f (length ids) b ≡ false
      forty_two = rw (eq-eqb _ _ s.version, eq-eqb _ _ s.file, eq-eqb _ _ s.count, eq-eqb _ _ s.size)

      forty_three : rule43 v (length ids) b ≡ false
      forty_three =
          none_some _ (length ids) (λ i h.
          let k = s.records i h in
          rw (ne_eqb (entry v b i) 0 (λ z. omega (arith, k.0, z)), le-ltb (length ids) (entry v b i) k.1))

      forty_four : rule44 v ids b ≡ false
      forty_four = none_some _ (length ids - 1) (λ i h. rw (s.rise i (omega arith)))

  -- none of 40 to 44 is broken where all that they ask is so
  pub sound : Known v → spoken (index_tests v f ids b) ≡ 0 ↔ Sound v f ids b
  sound known = (silent, speaks_not known)

  -- ---- an accepted index

  module _ (small : Bytes b) (s : Sound v f ids b) where
    abbrev listed : List ℕ
    listed = numbers_at v.width b (head_length v) (length ids)

    listed_at : (k : ℕ) → k < length ids → get_or listed k 0 ≡ entry v b k
    unfolding entry
    listed_at k h = numbers_at_lem v.width b (head_length v) (length ids) k h

    listed_rises : Rising ids listed
    listed_rises = all_listed ids listed long (λ k h. rw (listed_at k (omega (arith, long))) (s.records k (omega (arith, long)))) (λ k h. rw (listed_at k (omega (arith, long)), listed_at (k + 1) (omega (arith, long))) (s.rise k (omega (arith, long))))
      where
        long : length listed ≡ length ids
        long = numbers_length v.width b (head_length v) (length ids)

    listed_bytes : b ≡ index_of v f listed
    unfolding index_of index_length
    listed_bytes = sym (rw (numbers, own, number) start)
      where
        long : 6 + v.width ≤ length b
        long = omega (arith, s.size)

        numbers : low_first v.width (length listed) ++ flat (map (low_first v.width) listed) ≡ drop 6 b
        numbers =
            rw (numbers_length v.width b (head_length v) (length ids), read_numbers v.width b (head_length v) (length ids) small s.size)
            (read_front v.width b 6 (length ids) small long s.count)

        own : f ∷ drop 6 b ≡ drop 5 b
        own = rw (← s.file) (sym (drop-cons b 5 0 (omega (arith, long))))

        number : low_first 2 v.number ++ drop 5 b ≡ drop 3 b
        number = read_front 2 b 3 v.number small (omega (arith, long)) s.version

        start : mark ++ drop 3 b ≡ b
        start = rw (← s.marked) (take-append-drop 3 b)

-- ---- an index of every record in rising order

module _ (v : Version) (f : ℕ) where
  -- what stands before the count
  front : List ℕ
  front = mark ++ (low_first 2 v.number ++ (f ∷ []))

  by_front : (rs : List ℕ) → index_of v f rs ≡ front ++ (low_first v.width (length rs) ++ flat (map (low_first v.width) rs))
  unfolding front index_of mark low_first
  by_front rs = refl

  front_length : length front ≡ 6
  unfolding front mark low_first
  front_length = refl

  index_marked : (rs : List ℕ) → take 3 (index_of v f rs) ≡ mark
  unfolding index_of mark
  index_marked rs = refl

  index_version : (rs : List ℕ) → v.number < 256 ^ 2 → number_at 2 (index_of v f rs) 3 ≡ v.number
  unfolding index_of mark
  index_version rs h = written_number 2 v.number mark (f ∷ (low_first v.width (length rs) ++ flat (map (low_first v.width) rs))) h

  index_file : (rs : List ℕ) → get_or (index_of v f rs) 5 0 ≡ f
  unfolding index_of mark low_first
  index_file rs = refl

  index_count : (rs : List ℕ) → length rs < 256 ^ v.width → number_at v.width (index_of v f rs) 6 ≡ length rs
  index_count rs h = rw (by_front rs) (rw front_length at (written_number v.width (length rs) front (flat (map (low_first v.width) rs)) h))

  pub index_length_lem : (rs : List ℕ) → length (index_of v f rs) ≡ index_length v (length rs)
  unfolding index_length
  index_length_lem rs = rw (by_front rs) (simp (length-append, front_length, low_length, flat_length) (omega arith))

  module _ (ids : List (List ℕ)) (rs : List ℕ) (rising : Rising ids rs) (known : v.number < 256 ^ 2) (few : length ids < 256 ^ v.width) where
    long : length rs ≡ length ids
    long = rising_length ids rs rising

    in_range : (k : ℕ) → k < length rs → (1 ≤ get_or rs k 0) × (get_or rs k 0 ≤ length ids)
    in_range k h = rising.only (get_or rs k 0) (get_d_mem rs k 0 h)

    pub entry_at : (k : ℕ) → k < length rs → entry v (index_of v f rs) k ≡ get_or rs k 0
    unfolding entry
    entry_at k h =
        rw (by_front rs, ← append_assoc front (low_first v.width (length rs)) (flat (map (low_first v.width) rs)))
        (written_numbers v.width rs (front ++ low_first v.width (length rs)) (head_length v) k (simp (length-append, front_length, low_length)) (λ i g. omega (arith, (in_range i g).1)) h)

    pub index_sound : Sound v f ids (index_of v f rs)
    unfolding index_length
    index_sound = record {
      long = omega (arith, index_length_lem rs, (wide_of v).0);
      marked = index_marked rs;
      version = index_version rs known;
      file = index_file rs;
      count = index_count rs (omega (arith, long)) ∙ long;
      size = index_length_lem rs ∙ rw long;
      records = λ i h. rw (entry_at i (omega (arith, long))) (in_range i (omega (arith, long)));
      rise = λ i h. rw (entry_at i (omega (arith, long)), entry_at (i + 1) (omega (arith, long))) (rising.rise i (i + 1) (omega arith) (omega (arith, long)));
    }

module _ (f : ℕ) (ids : List (List ℕ)) (b : List ℕ) where
  abbrev v : Version
  v = version_of (length ids)

  -- Whoever made it, an index is accepted only if it lists every record once in that order,
  pub accepted_lists : Bytes b → spoken (index_tests v f ids b) ≡ 0 → Lists f ids b
  accepted_lists small e =
      let s = (sound v f ids b (known_of (length ids))).0 e in
      record { records = listed v f ids b small s; rising = listed_rises v f ids b small s; bytes = listed_bytes v f ids b small s }

  -- so that it is the one index of its file;
  pub lists_one : Lists f ids b → b ≡ index_of v f (ranked ids)
  lists_one l = l.bytes ∙ ap (index_of v f) (rising_ranked ids l.records l.rising)

  pub accepted_is : Bytes b → spoken (index_tests v f ids b) ≡ 0 → b ≡ index_of v f (ranked ids)
  accepted_is small e = lists_one (accepted_lists small e)

  -- and then it is.
  pub lists_accepted : length ids < 2 ^ 32 → Lists f ids b → spoken (index_tests v f ids b) ≡ 0
  lists_accepted few l =
      rw l.bytes (let w = version_fits v (length ids) refl few in (sound v f ids (index_of v f l.records) (known_of (length ids))).1 (index_sound v f ids l.records l.rising (omega (arith, w.1)) w.0))
