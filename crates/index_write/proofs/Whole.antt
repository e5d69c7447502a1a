-- The cells of a file's ranked records: what repeats, and that an index written from them is the one that is accepted.
use mathlib.Core.Path.{◌≡◌, refl, sym, ap, ◌∙◌}
use mathlib.Core.Bool.{Bool, true, false}
use mathlib.Core.List.{List, ◌++◌}
use Prim.Native.Nat.{ℕ, zero, suc, ◌+◌, ◌*◌, ◌-◌, ◌≤◌, ◌<◌}
use native.Mathlib.Omega.{arith}
use native.Mathlib.Nat.{suc-mul, mul-le-mul_right}
use lib.IntN.{ℤ}
use lib.ListN.{length, get_or, take, drop, length-drop, take-append-drop, get_or-eq_default}
use lib.Dec.{ltb}
use lib.Seq.{length-take-le, get_or-take, get_or-drop, get_or-append-add, ext_get_or}
use borrow.Author.Tests.{ltb-true, ltb-false}
use Rattle.meaning.specs.Lists.{same, some, laid}
use Rattle.meaning.specs.Bytes.{count_lf}
use Rattle.meaning.proofs.ListLaws.{both, same_equal, same_self}
use Rattle.meaning.proofs.Tests.{Found, some_found, some_none, found_some, Standing, below, level, over, standing}
use Rattle.ranking.specs.Ranks.{before}
use Rattle.ordering.specs.Cells.{cell_at, RoomAt, KeptAt, Moved}
use Rattle.ordering.specs.Ids.{value_on, in_order, alike, Sorted, Stands, Apart}
use Rattle.ordering.specs.declared.By.TheVariants.{Field}
use Rattle.ordering.proofs.Laws.{room_kept, moved_all, moved_stands, moved_apart, kept_order}
use Rattle.ordering.proofs.Alikes.{alike_between}
use Rattle.indexes.specs.Order.{ids_of, id_of, ranked, repeats}
use Rattle.indexes.specs.declared.version.Version.{Version}
use Rattle.indexes.specs.Index.{number_at, version_of, mark, index_of, head_length, index_length, entry}
use Rattle.indexes.specs.Promises.{Reads, Bytes}
use Rattle.indexes.proofs.Order.{no_repeat, repeat_none}
use Rattle.indexes.proofs.Accepted.{Sound, sound, accepted_is}
use Rattle.indexes.proofs.Versions.{known_of, wide_of}
use Rattle.id_places.specs.Places.{id_start, Ids}
use Rattle.id_places.proofs.Own.{ids_count, value_of, starts_rise}
use Rattle.index_write.specs.Writing.{Begins, Ranked, start_of, Put, Within, Entered}
use Rattle.index_write.proofs.Cells.{order_before}
use Rattle.index_write.proofs.Bytes.{number_as}

-- do two neighbouring cells hold one value
abbrev pub twins : List ℕ → List ℤ → ℕ → Bool
twins s t k = alike Field s t 1 (cell_at 0 t 1 k) (cell_at 0 t 1 (k + 1))

-- a number for each record is room for its cell
pub room_of : (n : ℕ) (s : List ℕ) (t u : List ℤ) → n + 1 ≡ count_lf s → count_lf s ≤ length t → length u ≡ length t → RoomAt 0 1 n u
room_of n s t u c h e = record { wide = omega arith; narrow = omega arith; rows = omega arith }

module _ (f : ℕ) (s : List ℕ) (reads : Reads f s) where
  -- sorted cells rank the records
  pub ranked_of : (n : ℕ) (t u : List ℤ) → Ids f s n t → RoomAt 0 1 n t → KeptAt 0 1 n t u → Sorted (in_order Field s t 1) (cell_at 0 u 1) n → Moved n (cell_at 0 t 1) (cell_at 0 u 1) → Ranked f s n u
  unfolding Apart
  ranked_of n t u ids room kept sorted moved = record {
    count = ids.count;
    room = room_kept kept room;
    sorted = rw (kept_order Field s {o = 0} (omega arith) (omega arith) kept) sorted;
    apart = moved_apart moved (λ i j a b c e. let z = starts_rise f s reads n ids.count i j a b c in omega (arith, z, e, ids.starts i a (omega arith), ids.starts j (omega arith) c));
    only = moved_all (Begins f s n) n moved (λ k a b. record { record_number = k; low = a; high = b; is = ids.starts k a b });
    every = λ r a b. moved_stands (id_start f s r) moved (record { place = r; low = a; high = b; is = ids.starts r a b });
  }

  module _ (n : ℕ) (t : List ℤ) (w : Ranked f s n t) where
    abbrev ids : List (List ℕ)
    ids = ids_of f s

    -- the id of the record that a cell ranks
    cell_value : (k : ℕ) (r : Begins f s n (cell_at 0 t 1 k)) → value_on s (cell_at 0 t 1 k) ≡ id_of ids r.record_number
    cell_value k r = ap (value_on s) r.is ∙ value_of f s reads n w.count r.record_number r.low r.high

    -- a value that stands in two cells stands in neighbours
    near : (j k : ℕ) → 0 < j → j < k → k ≤ n → value_on s (cell_at 0 t 1 j) ≡ value_on s (cell_at 0 t 1 k) → some (twins s t) 1 (n - 1) ≡ true
    unfolding alike Sorted
    near j k a b c e = found_some (twins s t) 1 (n - 1) j a (omega arith) (go (standing (j + 1) k))
      where
        far : same (value_on s (cell_at 0 t 1 j)) (value_on s (cell_at 0 t 1 k)) ≡ true
        far = rw e (same_self (value_on s (cell_at 0 t 1 k)))

        go : Standing (j + 1) k → twins s t j ≡ true
        go (below l) = alike_between s t 1 Field (cell_at 0 t 1 j) (cell_at 0 t 1 (j + 1)) (cell_at 0 t 1 k) (w.sorted j (j + 1) a (omega arith) (omega arith)) (w.sorted (j + 1) k (omega arith) l c) far
        go (level q) = rw q far
        go (over l) = absurd (omega arith)

    -- no neighbours are twins exactly where no id repeats
    pub none_twins : some (twins s t) 1 (n - 1) ≡ false → repeats ids ≡ false
    none_twins e = repeat_none ids (λ r q a b c same_id. clash r q a b (omega (arith, c, ids_count f s n w.count)) same_id)
      where
        clash : (r q : ℕ) → 1 ≤ r → r < q → q ≤ n → id_of ids r ≡ id_of ids q → ⊥
        clash r q a b c z =
            let x = w.every r a (omega arith) in
            let y = w.every q (omega arith) c in
            let v : value_on s (cell_at 0 t 1 x.place) ≡ value_on s (cell_at 0 t 1 y.place) = ap (value_on s) x.is ∙ value_of f s reads n w.count r a (omega arith) ∙ z ∙ sym (value_of f s reads n w.count q (omega arith) c) ∙ ap (value_on s) (sym y.is) in
            side x y v (standing x.place y.place)
          where
            side : (x : Stands (cell_at 0 t 1) n (id_start f s r)) (y : Stands (cell_at 0 t 1) n (id_start f s q)) → value_on s (cell_at 0 t 1 x.place) ≡ value_on s (cell_at 0 t 1 y.place) → Standing x.place y.place → ⊥
            side x y v (below l) = both (some (twins s t) 1 (n - 1)) (near x.place y.place x.low l y.high v) e
            side x y v (over l) = both (some (twins s t) 1 (n - 1)) (near y.place x.place y.low l x.high (sym v)) e
            side x y v (level l) =
                let g : id_start f s r ≡ id_start f s q = sym x.is ∙ ap (cell_at 0 t 1) l ∙ y.is in
                omega (arith, g, starts_rise f s reads n w.count r q a b c)

    pub some_twins : some (twins s t) 1 (n - 1) ≡ true → repeats ids ≡ true
    unfolding alike Apart
    some_twins e = go (repeats ids) refl (some_found (twins s t) 1 (n - 1) e)
      where
        go : (b : Bool) → repeats ids ≡ b → Found (twins s t) 1 (n - 1) → b ≡ true
        go true q d = refl
        go false q d =
            let k = d.place in
            let x = w.only k d.low (omega (arith, d.high)) in
            let y = w.only (k + 1) (omega arith) (omega (arith, d.high)) in
            let v : id_of ids x.record_number ≡ id_of ids y.record_number = sym (cell_value k x) ∙ same_equal _ _ d.is ∙ cell_value (k + 1) y in
            let c = ids_count f s n w.count in
            absurd (side k x y v d.low (omega (arith, d.high)) c (standing x.record_number y.record_number))
          where
            side : (k : ℕ) (x : Begins f s n (cell_at 0 t 1 k)) (y : Begins f s n (cell_at 0 t 1 (k + 1))) → id_of ids x.record_number ≡ id_of ids y.record_number → 1 ≤ k → k + 1 ≤ n → length ids ≡ n
                → Standing x.record_number y.record_number → ⊥
            side k x y v a b c (below l) = no_repeat ids q x.record_number y.record_number x.low l (omega (arith, y.high)) v
            side k x y v a b c (over l) = no_repeat ids q y.record_number x.record_number y.low l (omega (arith, x.high)) (sym v)
            side k x y v a b c (level l) = w.apart k (k + 1) a (omega arith) b (x.is ∙ ap (id_start f s) l ∙ sym y.is)

    -- ---- an index whose head and entries are written

    module _ (none : some (twins s t) 1 (n - 1) ≡ false) (v : Version) (is : v ≡ version_of n) (lent g h b : List ℕ) (started : g ≡ take 6 (start_of v f) ++ drop 6 lent) (counted : Put v.width 6 n g h)
        (entered : Entered v f s n (n + 1) t b) (within : Within v n h b) (room : index_length v n ≤ length lent) where
      abbrev size : ℕ
      size = index_length v n

      size_is : size ≡ 6 + v.width + n * v.width
      unfolding index_length
      size_is = refl

      head_length_lem : length h ≡ length lent
      head_length_lem = counted.size ∙ ap length started ∙ omega (arith, length-drop 6 lent, size_is)

      abbrev index : List ℕ
      index = take size b

      index_long : length index ≡ size
      index_long = length-take-le size b (omega (arith, within.size, head_length_lem))

      index_at : (i : ℕ) → i < size → get_or index i 0 ≡ get_or b i 0
      index_at i l = get_or-take size b i 0 l

      start_at : (i : ℕ) → i < 6 → get_or index i 0 ≡ get_or (take 6 (start_of v f) ++ drop 6 lent) i 0
      start_at i l = index_at i (omega (arith, size_is)) ∙ within.head i (omega arith) ∙ counted.below i l ∙ ap (λ x. get_or x i 0) started

      entry_at : (i : ℕ) → i < n → entry v index i ≡ entry v b i
      unfolding entry
      entry_at i l =
          number_as v.width index b (head_length v + i * v.width) (λ j x y. index_at j (omega (arith, size_is, suc-mul i v.width, mul-le-mul_right {m = suc i} {n = n} v.width (omega arith))))

      marks : take 3 index ≡ mark
      unfolding mark
      marks = ext_get_or 0 (take 3 index) mark (length-take-le 3 index (omega (arith, index_long, size_is))) (λ i l. get_or-take 3 index i 0 (small i l) ∙ go i (small i l))
        where
          small : (i : ℕ) → i < length (take 3 index) → i < 3
          small i l = omega (arith, length-take-le 3 index (omega (arith, index_long, size_is)))

          go : (i : ℕ) → i < 3 → get_or index i 0 ≡ get_or mark i 0
          go zero l = start_at 0 (omega arith)
          go (suc zero) l = start_at 1 (omega arith)
          go (suc (suc zero)) l = start_at 2 (omega arith)
          go (suc (suc (suc i))) l = absurd (omega arith)

      version_is : number_at 2 index 3 ≡ v.number
      unfolding number_at
      version_is = rw (start_at 3 (omega arith), start_at 4 (omega arith)) (omega arith)

      count_is : number_at v.width index 6 ≡ n
      count_is = number_as v.width index h 6 (λ i x y. index_at i (omega (arith, size_is)) ∙ within.head i (omega arith)) ∙ counted.here

      -- the entry of a cell names the record that the cell ranks
      entry_is : (i : ℕ) → i < n → (r : Begins f s n (cell_at 0 t 1 (i + 1))) → entry v index i ≡ r.record_number
      entry_is i l r =
          let e : i + 1 - 1 ≡ i = omega arith in
          entry_at i l ∙ rw e at (entered r.record_number (i + 1) r.low (omega (arith, r.high)) (omega arith) (omega arith) r.is)

      rises : (i : ℕ) → i + 1 < n → before (id_of ids (entry v index i)) (id_of ids (entry v index (i + 1))) ≡ true
      unfolding Sorted
      rises i l =
          let x = w.only (i + 1) (omega arith) (omega arith) in
          let y = w.only (i + 1 + 1) (omega arith) (omega arith) in
          rw (entry_is i (omega arith) x, entry_is (i + 1) l y, sym (cell_value (i + 1) x), sym (cell_value (i + 1 + 1) y))
          (order_before s t 1 (cell_at 0 t 1 (i + 1)) (cell_at 0 t 1 (i + 1 + 1)) (w.sorted (i + 1) (i + 1 + 1) (omega arith) (omega arith) (omega arith)) (some_none (twins s t) 1 (n - 1) none (i + 1) (omega arith) (omega arith)))

      is_sound : Sound v f ids index
      is_sound =
          let c = ids_count f s n w.count in
          record {
            long = omega (arith, index_long, size_is, (wide_of v).0);
            marked = marks;
            version = version_is;
            file = start_at 5 (omega arith);
            count = count_is ∙ sym c;
            size = index_long ∙ ap (index_length v) (sym c);
            records = λ i l. let k : i < n = omega (arith, l, c) in let r = w.only (i + 1) (omega arith) (omega arith) in rw (entry_is i k r) (r.low, omega (arith, r.high, c));
            rise = λ i l. rises i (omega (arith, l, c));
          }

      rest_is : drop size b ≡ drop size lent
      rest_is = ext_get_or 0 (drop size b) (drop size lent) (omega (arith, length-drop size b, length-drop size lent, within.size, head_length_lem)) (λ i l. go i)
        where
          go : (i : ℕ) → get_or (drop size b) i 0 ≡ get_or (drop size lent) i 0
          go i =
              let e : size + i ≡ 6 + (size - 6 + i) = omega (arith, size_is) in
              get_or-drop size b i 0
              ∙ within.rest (size + i) (omega arith)
              ∙ counted.above (size + i) (omega (arith, size_is))
              ∙ ap (λ x. get_or x (size + i) 0) started
              ∙ ap (λ k. get_or (take 6 (start_of v f) ++ drop 6 lent) k 0) e
              ∙ get_or-append-add (take 6 (start_of v f)) (drop 6 lent) (size - 6 + i) 0
              ∙ get_or-drop 6 lent (size - 6 + i) 0
              ∙ ap (λ k. get_or lent k 0) (sym e)
              ∙ sym (get_or-drop size lent i 0)

      bytes_of : Bytes b → Bytes index
      bytes_of small i = go (ltb i size) refl
        where
          go : (q : Bool) → ltb i size ≡ q → get_or index i 0 < 256
          go true e = rw (index_at i (ltb-true i size e)) (small i)
          go false e = rw (get_or-eq_default index 0 {n = i} (omega (arith, index_long, ltb-false i size e))) (omega arith)

      -- it is the one that is accepted, and the rest of the buffer is unchanged
      pub index_written : Bytes b → b ≡ laid (index_of v f (ranked ids)) lent
      unfolding laid
      index_written small =
          let e : version_of (length ids) ≡ v = ap version_of (ids_count f s n w.count) ∙ sym is in
          let k = rw e at (known_of (length ids)) in
          let i : index ≡ index_of v f (ranked ids) = rw e at (accepted_is f ids index (bytes_of small) (rw e ((sound v f ids index k).1 is_sound))) in
          let l : length (index_of v f (ranked ids)) ≡ size = ap length (sym i) ∙ index_long in
          rw l (sym (take-append-drop size b) ∙ rw (rest_is, i))
