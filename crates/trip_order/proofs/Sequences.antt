-- Rules 28 and 29 of the line in a cell.
use Prim.Native.Nat.{ℕ, ◌-◌, ◌≤◌, ◌<◌}
use native.Mathlib.Omega.{arith}
use mathlib.Core.Path.{◌≡◌, refl, sym, ap}
use mathlib.Core.Bool.{Bool, true, false, cond, ◌&&◌}
use lib.Dec.{eqb, ltb}
use borrow.Author.Tests.{ltb-true, lt-ltb, eqb-true, eq-eqb}
use Rattle.meaning.specs.Lists.{some}
use Rattle.meaning.proofs.ListLaws.{and_both}
use Rattle.ordering.specs.Ids.{Whole}
use Rattle.trip_order.specs.Lines.{Lines, Trips, rule28, rule29}
use Rattle.trip_order.specs.Cells.{Grouped, repeats, leaves, Lower, Greatest}
use Rattle.meaning.proofs.Tests.{agree, some_found, found_some, Standing, below, level, over, standing}
use Rattle.trip_order.proofs.Groups.{linked_is, repeats_is, is_repeats, before_links, no_fall}

-- ---- 28

module _ (L : Lines) (trips : Trips L) (f : ℕ → ℕ) (n : ℕ) (g : Grouped L f n) (whole : Whole f n) where
  pub rule28_cell : (k : ℕ) → 0 < k → k ≤ n → rule28 L (f k) ≡ repeats L f k
  unfolding rule28
  rule28_cell k x y = agree (some P 1 (f k - 1)) (repeats L f k) there back
    where
      P : ℕ → Bool
      P j = L.same j (f k) && eqb (L.seq j) (L.seq (f k))

      there : some P 1 (f k - 1) ≡ true → repeats L f k ≡ true
      there e =
          let w = some_found P 1 (f k - 1) e in
          let b = and_both (L.same w.place (f k)) (eqb (L.seq w.place) (L.seq (f k))) w.is in
          let s = whole.each w.place (omega (arith, w.low)) (omega (arith, w.high, (whole.within k x y).1)) in
          let j : L.same (f s.place) (f k) ≡ true = rw s.is b.0 in
          let q : L.seq (f s.place) ≡ L.seq (f k) = rw s.is (eqb-true (L.seq w.place) (L.seq (f k)) b.1) in
          go s.place s.low s.high (omega (arith, s.is, w.high)) j q (standing s.place k)
        where
          go : (a : ℕ) → 0 < a → a ≤ n → f a < f k → L.same (f a) (f k) ≡ true → L.seq (f a) ≡ L.seq (f k) → Standing a k → repeats L f k ≡ true
          go a u v l t q (below h) =
              let p = before_links L trips f n g a k u h y t in
              let r = linked_is L f k p.1 in
              let d : L.seq (f a) ≤ L.seq (f (k - 1)) = no_fall L trips f n g a (k - 1) u (omega arith) (omega arith) p.0 in
              let m : L.seq (f (k - 1)) ≤ L.seq (f k) = no_fall L trips f n g (k - 1) k (omega arith) (omega arith) y r.1 in
              is_repeats L f k p.1 (omega arith)
          go a u v l t q (level h) = absurd (omega (arith, ap f h))
          go a u v l t q (over h) = absurd (omega (arith, g.tied k a x h v (trips.turn (f a) (f k) t) (sym q)))

      back : repeats L f k ≡ true → some P 1 (f k - 1) ≡ true
      back e =
          let p = repeats_is L f k e in
          let r = linked_is L f k p.0 in
          let i = whole.within (k - 1) (omega (arith, r.0)) (omega arith) in
          let l : f (k - 1) < f k = g.tied (k - 1) k (omega (arith, r.0)) (omega arith) y r.1 p.1 in
          found_some P 1 (f k - 1) (f (k - 1)) i.0 (omega arith) (rw (r.1, eq-eqb (L.seq (f (k - 1))) (L.seq (f k)) p.1))

-- ---- 29

leaves_timed : (L : Lines) (i : ℕ) → L.timed i ≡ true → leaves L i ≡ L.dep i
unfolding leaves
leaves_timed L i e = rw e

timed_leaves : (L : Lines) (i : ℕ) → 0 < leaves L i → L.timed i ≡ true
unfolding leaves
timed_leaves L i h = go (L.timed i) h
  where
    go : (t : Bool) → 0 < cond t (L.dep i) 0 → t ≡ true
    go true h = refl
    go false h = absurd (omega arith)

module _ (L : Lines) (trips : Trips L) (f : ℕ → ℕ) (n : ℕ) (g : Grouped L f n) (whole : Whole f n) (k : ℕ) (pos : 0 < k) (high : k ≤ n) where
  pub rule29_cell : (m : ℕ) → Greatest (Lower L f k) (λ a. leaves L (f a)) m → rule29 L n (f k) ≡ (L.timed (f k) && ltb (L.arr (f k)) m)
  unfolding rule29
  rule29_cell m t = ap (λ b. L.timed (f k) && b) (agree (some P 1 n) (ltb (L.arr (f k)) m) there back)
    where
      Q : ℕ → Bool
      Q j = ltb (L.seq j) (L.seq (f k)) && ltb (L.arr (f k)) (L.dep j)

      P : ℕ → Bool
      P j = L.same j (f k) && (L.timed j && (ltb (L.seq j) (L.seq (f k)) && ltb (L.arr (f k)) (L.dep j)))

      there : some P 1 n ≡ true → ltb (L.arr (f k)) m ≡ true
      there e =
          let w = some_found P 1 n e in
          let s = whole.each w.place (omega (arith, w.low)) (omega (arith, w.high)) in
          let i : P (f s.place) ≡ true = rw s.is w.is in
          let b = and_both (L.same (f s.place) (f k)) (L.timed (f s.place) && Q (f s.place)) i in
          let c = and_both (L.timed (f s.place)) (Q (f s.place)) b.1 in
          let d = and_both (ltb (L.seq (f s.place)) (L.seq (f k))) (ltb (L.arr (f k)) (L.dep (f s.place))) c.1 in
          go s.place s.low s.high b.0 c.0 (ltb-true (L.seq (f s.place)) (L.seq (f k)) d.0) (ltb-true (L.arr (f k)) (L.dep (f s.place)) d.1) (standing s.place k)
        where
          go : (a : ℕ) → 0 < a → a ≤ n → L.same (f a) (f k) ≡ true → L.timed (f a) ≡ true → L.seq (f a) < L.seq (f k) → L.arr (f k) < L.dep (f a) → Standing a k
              → ltb (L.arr (f k)) m ≡ true
          go a u v e c l d (below h) =
              let o = t.bound a (record { low = u; high = omega arith; trip = e; less = l }) in
              lt-ltb (L.arr (f k)) m (omega (arith, leaves_timed L (f a) c))
          go a u v e c l d (level h) = let z : L.seq (f a) ≡ L.seq (f k) = ap (λ x. L.seq (f x)) h in absurd (omega arith)
          go a u v e c l d (over h) = absurd (omega (arith, g.rising k a pos h v (trips.turn (f a) (f k) e)))

      back : ltb (L.arr (f k)) m ≡ true → some P 1 n ≡ true
      back e =
          let l = ltb-true (L.arr (f k)) m e in
          let r = t.reached (omega arith) in
          let i = whole.within r.place r.holds.low (omega (arith, r.holds.high)) in
          let c : L.timed (f r.place) ≡ true = timed_leaves L (f r.place) (omega (arith, r.is)) in
          let d : L.arr (f k) < L.dep (f r.place) = omega (arith, r.is, leaves_timed L (f r.place) c) in
          found_some P 1 n (f r.place) i.0 (omega (arith, i.1))
          (rw (r.holds.trip, c, lt-ltb (L.seq (f r.place)) (L.seq (f k)) r.holds.less, lt-ltb (L.arr (f k)) (L.dep (f r.place)) d))
