-- The test of the file's own order: what it knows of the lines so far, and what its answers say.
use Prim.Native.Nat.{ℕ, ◌+◌, ◌*◌, ◌-◌, ◌≤◌, ◌<◌}
use native.Mathlib.Omega.{arith}
use mathlib.Core.Path.{◌≡◌, refl, sym, ◌∙◌}
use mathlib.Core.List.{List}
use mathlib.Core.Bool.{Bool, true, false, cond, not, ◌&&◌}
use lib.Dec.{eqb, ltb, leb}
use lib.IntN.{ℤ}
use lib.ListN.{length}
use borrow.Author.Tests.{ltb-true, lt-ltb}
use Rattle.meaning.proofs.ListLaws.{both, and_both}
use Rattle.marks.specs.Marks.{marked, OneMore, met_mark}
use Rattle.rows.specs.Cells.{nat_at}
use Rattle.ordering.specs.Ids.{trip_of, key_of}
use Rattle.trip_order.specs.Cells.{Grouped}
use Rattle.trip_order.specs.Steady.{goes_on, steady, Met}
use Rattle.meaning.proofs.Tests.{untrue}
use Rattle.trip_order.proofs.Steady.{met_none, met_more, met_goes, steady_step, steady_less, steady_grouped}
use Rattle.trip_walk.specs.Table.{lines_in}
use Rattle.trip_walk.specs.Told.{OnlyMet}
use Rattle.trip_walk.specs.Walk.{goes_by}
use Rattle.trip_walk.proofs.Table.{trip_is, trips_in, by_record}

-- what is known once lines 1 to i have gone on
pub record Filing (t : List ℤ) (old m : List ℕ) (i : ℕ) : Type 0 where
  pub kept : OnlyMet old m
  pub met : Met (trip_of t 8) m i
  pub goes : (s : List ℕ) → steady (lines_in s t) i ≡ true

-- each trip has a record, and that an entry among the marks
abbrev pub Entered : List ℤ → ℕ → List ℕ → Type 0
Entered t n m = (x : ℕ) → 0 < x → x ≤ n → (0 < trip_of t 8 x) × (trip_of t 8 x < length m)

module _ (t : List ℤ) where
  -- the test of line i + 1 but for its trip's entry
  onward : List ℕ → ℕ → Bool
  onward m i = cond (ltb 0 i && eqb (trip_of t 8 i) (trip_of t 8 (i + 1))) (leb (key_of t 8 i) (key_of t 8 (i + 1))) (not (marked m met_mark (trip_of t 8 (i + 1))))

  goes_is : (s m : List ℕ) (i : ℕ) → Met (trip_of t 8) m i → 0 < trip_of t 8 (i + 1) → trip_of t 8 (i + 1) < length m → goes_on (lines_in s t) i ≡ onward m i
  unfolding onward
  goes_is s m i met low high = met_goes (lines_in s t) (trip_of t 8) m i met high (λ j a b. by_record s t j (i + 1) low)

  -- what the test's two parts say together
  parts : (m : List ℕ) (i : ℕ) → goes_by t m i ≡ true → (0 < trip_of t 8 (i + 1)) × ((trip_of t 8 (i + 1) < length m) × (onward m i ≡ true))
  unfolding goes_by onward
  parts m i e =
      let b = and_both (ltb 0 (trip_of t 8 (i + 1)) && ltb (trip_of t 8 (i + 1)) (length m)) (onward m i) e in
      let c = and_both (ltb 0 (trip_of t 8 (i + 1))) (ltb (trip_of t 8 (i + 1)) (length m)) b.0 in
      (ltb-true 0 (trip_of t 8 (i + 1)) c.0, (ltb-true (trip_of t 8 (i + 1)) (length m) c.1, b.1))

  pub file_start : (m : List ℕ) → ((r : ℕ) → marked m met_mark r ≡ false) → Filing t m m 0
  unfolding steady
  file_start m blank = record { kept = record { size = refl; other = λ b r e. refl }; met = met_none (trip_of t 8) m blank; goes = λ s. refl }

  pub file_turn : (old m m' : List ℕ) (i r : ℕ) (b : Bool) → Filing t old m i → b ≡ goes_by t m i → b ≡ true → r ≡ nat_at t ((i + 1) * 8) → OneMore m m' met_mark r → Filing t old m' (i + 1)
  file_turn old m m' i r b f e h q one =
      let p = parts m i (sym e ∙ h) in
      let z : trip_of t 8 (i + 1) ≡ r = trip_is t (i + 1) r q in
      record {
        kept = record { size = one.size ∙ f.kept.size; other = λ c x n. one.other c x (λ k l. n k) ∙ f.kept.other c x n };
        met = met_more (trip_of t 8) m m' i (rw z one) f.met;
        goes = λ s. rw (steady_step (lines_in s t) i, goes_is s m i f.met p.0 p.1.0, p.1.1) (f.goes s);
      }

  pub file_end : (s : List ℕ) (n : ℕ) → steady (lines_in s t) n ≡ true → Grouped (lines_in s t) (λ i. i) n
  file_end s n e = steady_grouped (lines_in s t) (trips_in s t) n e

  -- a line that doesn't go on: where each trip has an entry, the file's order will not do
  pub file_stop : (s old m : List ℕ) (n i : ℕ) (b : Bool) → Filing t old m i → i < n → Entered t n old → b ≡ goes_by t m i → b ≡ false → false ≡ steady (lines_in s t) n
  unfolding goes_by onward
  file_stop s old m n i b f l room e h = sym (untrue (steady (lines_in s t) n) clash)
    where
      low : 0 < trip_of t 8 (i + 1)
      low = (room (i + 1) (omega arith) (omega arith)).0

      high : trip_of t 8 (i + 1) < length m
      high = omega (arith, (room (i + 1) (omega arith) (omega arith)).1, f.kept.size)

      clash : steady (lines_in s t) n ≡ true → ⊥
      clash z =
          let q : n ≡ i + 1 + (n - (i + 1)) = omega arith in
          let u : steady (lines_in s t) (i + 1) ≡ true = steady_less (lines_in s t) (i + 1) (n - (i + 1)) (rw q at z) in
          let on : goes_on (lines_in s t) i ≡ true = (and_both (goes_on (lines_in s t) i) (steady (lines_in s t) i) (sym (steady_step (lines_in s t) i) ∙ u)).0 in
          let by : onward m i ≡ true = sym (goes_is s m i f.met low high) ∙ on in
          both b (e ∙ rw (lt-ltb 0 (trip_of t 8 (i + 1)) low, lt-ltb (trip_of t 8 (i + 1)) (length m) high) by) h

  -- ---- what the test of one line hands on

  pub after_is : (i x y : ℕ) (b : Bool) → x ≡ nat_at t (i * 8) → y ≡ nat_at t ((i + 1) * 8) → b ≡ (ltb 0 i && eqb x y) → b ≡ (ltb 0 i && eqb (trip_of t 8 i) (trip_of t 8 (i + 1)))
  after_is i x y b p q e = rw (trip_is t i x p, trip_is t (i + 1) y q) e

  module _ (m : List ℕ) (i r : ℕ) (b : Bool) (q : r ≡ nat_at t ((i + 1) * 8)) (e : b ≡ (ltb 0 r && ltb r (length m))) where
    pub goes_linked : (x y : ℕ) (c : Bool) → b ≡ true → c ≡ (ltb 0 i && eqb (trip_of t 8 i) (trip_of t 8 (i + 1))) → c ≡ true
        → x ≡ nat_at t (i * 8 + 2) → y ≡ nat_at t ((i + 1) * 8 + 2) → leb x y ≡ goes_by t m i
    unfolding goes_by key_of
    goes_linked x y c h d k u v = rw (← d, k, trip_is t (i + 1) r q, ← e, h, u, v)

    pub goes_fresh : (x c : Bool) → b ≡ true → c ≡ (ltb 0 i && eqb (trip_of t 8 i) (trip_of t 8 (i + 1))) → c ≡ false
        → x ≡ marked m met_mark r → not x ≡ goes_by t m i
    unfolding goes_by
    goes_fresh x c h d k u = rw (← d, k, trip_is t (i + 1) r q, ← e, h, u)

    pub goes_out : b ≡ false → false ≡ goes_by t m i
    unfolding goes_by
    goes_out h = rw (trip_is t (i + 1) r q, ← e, h)
