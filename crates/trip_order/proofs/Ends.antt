-- Rules 30 and 31 of a trip, where its group ends.
use Prim.Native.Nat.{ℕ, zero, suc, ◌+◌, ◌-◌, ◌≤◌, ◌<◌}
use native.Mathlib.Omega.{arith}
use mathlib.Core.Path.{◌≡◌, refl, sym, ap, ◌∙◌}
use mathlib.Core.Bool.{Bool, true, false, not, ◌&&◌, ◌||◌}
use mathlib.Core.Logic.{◌⊎◌, inl, inr}
use lib.Dec.{eqb, ltb}
use borrow.Author.Tests.{ltb-true, lt-ltb, le-ltb, eq-eqb, ne_eqb, not-true}
use Rattle.meaning.specs.Lists.{some}
use Rattle.meaning.proofs.ListLaws.{both, and_both}
use Rattle.ordering.specs.Ids.{Stands, Whole}
use Rattle.trip_order.specs.Lines.{Lines, Trips, count, ahead, beyond, is_first, is_last, rule30, rule31}
use Rattle.trip_order.specs.Cells.{Grouped, linked, ends, Walked}
use Rattle.meaning.proofs.Tests.{untrue, Found, some_found, Standing, below, level, over, standing}
use Rattle.trip_order.proofs.Groups.{linked_is, is_linked, no_fall}
use Rattle.trip_order.proofs.Counts.{count_none, count_two, count_one}
use Rattle.trip_order.proofs.Firsts.{best_only, ahead_yes, ahead_no, beyond_yes, beyond_no}

-- ---- where a group ends

module _ (L : Lines) (trips : Trips L) (f : ℕ → ℕ) (n : ℕ) (g : Grouped L f n) where
  -- no cell past its end is of the trip
  pub past_end : (k : ℕ) → 0 < k → ends L f n k ≡ true → (c : ℕ) → k < c → c ≤ n → L.same (f c) (f k) ≡ true → ⊥
  unfolding ends
  past_end k pos end c x y e =
      let t : L.same (f k) (f (k + 1)) ≡ true = g.together k (k + 1) c pos (omega arith) (omega arith) y (trips.turn (f c) (f k) e) in
      let i : k + 1 - 1 ≡ k = omega arith in
      let l : linked L f (k + 1) ≡ true = is_linked L f (k + 1) (omega arith) (rw i t) in
      let q : (ltb k n && linked L f (k + 1)) ≡ true = rw (lt-ltb k n (omega arith), l) in
      both (ltb k n && linked L f (k + 1)) q (not-true (ltb k n && linked L f (k + 1)) end)

  -- each cell's group ends somewhere
  pub record End (a : ℕ) : Type 0 where
    pub place : ℕ
    pub low : a ≤ place
    pub high : place ≤ n
    pub is : ends L f n place ≡ true
    pub trip : L.same (f a) (f place) ≡ true

  pub end_of : (m a : ℕ) → n - a ≤ m → 0 < a → a ≤ n → End a
  unfolding ends
  end_of zero a l x y = record { place = a; low = omega arith; high = y; is = rw (le-ltb a n (omega arith)); trip = trips.self (f a) }
  end_of (suc m) a l x y = go (ltb a n && linked L f (a + 1)) refl (end_of m (a + 1))
    where
      go : (b : Bool) → (ltb a n && linked L f (a + 1)) ≡ b → (n - (a + 1) ≤ m → 0 < a + 1 → a + 1 ≤ n → End (a + 1)) → End a
      go false e ih = record { place = a; low = omega arith; high = y; is = rw e; trip = trips.self (f a) }
      go true e ih =
          let b = and_both (ltb a n) (linked L f (a + 1)) e in
          let i : a + 1 - 1 ≡ a = omega arith in
          let q : L.same (f a) (f (a + 1)) ≡ true = rw i at (linked_is L f (a + 1) b.1).1 in
          let r = ih (omega arith) (omega arith) (omega (arith, ltb-true a n b.0)) in
          record { place = r.place; low = omega (arith, r.low); high = r.high; is = r.is; trip = trips.join (f a) (f (a + 1)) (f r.place) q r.trip }

-- ---- 30 and 31 there

module _ (L : Lines) (trips : Trips L) (f : ℕ → ℕ) (n : ℕ) (g : Grouped L f n) (whole : Whole f n) (k : ℕ) (pos : 0 < k) (high : k ≤ n)
    {b h s r : ℕ} (w : Walked L f k b h s r) (end : ends L f n k ≡ true)
    (T : ℕ → Bool) (own : (x : ℕ) → 0 < x → x ≤ n → T x ≡ L.same x (f k)) where
  none_past : (c : ℕ) → k < c → c ≤ n → L.same (f c) (f k) ≡ true → ⊥
  none_past = past_end L trips f n g k pos end

  -- each line of the trip stands in the group
  record Own (x : ℕ) : Type 0 where
    place : ℕ
    from : s ≤ place
    to : place ≤ k
    trip : L.same (f place) (f k) ≡ true
    is : f place ≡ x

  owned : (x : ℕ) → 0 < x → x ≤ n → T x ≡ true → Own x
  owned x a c e = go (standing p.place k)
    where
      p : Stands f n x
      p = whole.each x a c

      t : L.same (f p.place) (f k) ≡ true
      t = rw p.is (sym (own x a c) ∙ e)

      go : Standing p.place k → Own x
      go (below l) = record { place = p.place; from = w.first p.place p.low (omega arith) t; to = omega arith; trip = t; is = p.is }
      go (level l) = record { place = p.place; from = w.first p.place p.low (omega arith) t; to = omega arith; trip = t; is = p.is }
      go (over l) = absurd (none_past p.place l p.high t)

  own_cell : (c : ℕ) → s ≤ c → c ≤ k → T (f c) ≡ true
  own_cell c x y = let i = whole.within c (omega (arith, w.low)) (omega arith) in own (f c) i.0 i.1 ∙ w.trip c x y

  one_trip_lem : (a c : ℕ) → s ≤ a → a ≤ k → s ≤ c → c ≤ k → L.same (f a) (f c) ≡ true
  one_trip_lem a c x y u v = trips.join (f a) (f k) (f c) (w.trip a x y) (trips.turn (f c) (f k) (w.trip c u v))

  -- within the group: sequences don't fall, and of equal ones the line rises
  in_order_lem : (a c : ℕ) → s ≤ a → a < c → c ≤ k → (L.seq (f a) ≤ L.seq (f c)) × (L.seq (f a) ≡ L.seq (f c) → f a < f c)
  in_order_lem a c x y z =
      let t = one_trip_lem a c x (omega arith) (omega arith) z in
      let q : 0 < a = omega (arith, w.low) in
      (g.rising a c q y (omega arith) t, g.tied a c q y (omega arith) t)

  -- the first is the line in the group's first cell
  first_best : (x : ℕ) → 0 < x → x ≤ n → T x ≡ true → (ahead L x (f s) ≡ false) × ((ahead L (f s) x ≡ true) ⊎ (x ≡ f s))
  first_best x a c e = let o = owned x a c e in rw o.is at (go o.place o.from o.to (standing s o.place))
    where
      up : (d : ℕ) → (L.seq (f s) ≡ L.seq (f d) → f s < f d) → L.seq (f d) ≡ L.seq (f s) → f s ≤ f d
      up d t q = omega (arith, t (sym q))

      go : (d : ℕ) → s ≤ d → d ≤ k → Standing s d → (ahead L (f d) (f s) ≡ false) × ((ahead L (f s) (f d) ≡ true) ⊎ (f d ≡ f s))
      go d u v (level l) = let i : f d ≡ f s = ap f (sym l) in let j : L.seq (f d) ≡ L.seq (f s) = ap L.seq i in (ahead_no L (f d) (f s) (omega arith) (λ q. omega arith), inr i)
      go d u v (below l) = let p = in_order_lem s d (omega arith) l v in (ahead_no L (f d) (f s) p.0 (up d p.1), inl (ahead_yes L (f s) (f d) p.0 p.1))
      go d u v (over l) = absurd (omega arith)

  -- the last is the line in the first cell of the group's last run
  last_best : (x : ℕ) → 0 < x → x ≤ n → T x ≡ true → (beyond L x (f r) ≡ false) × ((beyond L (f r) x ≡ true) ⊎ (x ≡ f r))
  last_best x a c e = let o = owned x a c e in rw o.is at (go o.place o.from o.to o.trip (standing r o.place))
    where
      from : s ≤ r
      from = w.order

      to : r ≤ k
      to = w.high

      same_seq : L.seq (f r) ≡ L.seq (f k)
      same_seq = w.equal

      go : (d : ℕ) → s ≤ d → d ≤ k → L.same (f d) (f k) ≡ true → Standing r d → (beyond L (f d) (f r) ≡ false) × ((beyond L (f r) (f d) ≡ true) ⊎ (f d ≡ f r))
      go d u v t (level l) = let i : f d ≡ f r = ap f (sym l) in let j : L.seq (f d) ≡ L.seq (f r) = ap L.seq i in (beyond_no L (f d) (f r) (omega arith) (λ q. omega arith), inr i)
      go d u v t (below l) =
          let p = in_order_lem r d from l v in
          let m : L.seq (f d) ≤ L.seq (f k) = no_fall L trips f n g d k (omega (arith, w.low)) v high t in
          let z : L.seq (f r) ≡ L.seq (f d) = omega (arith, p.0) in
          let q = p.1 z in
          (beyond_no L (f d) (f r) (omega arith) (λ i. omega arith), inl (beyond_yes L (f r) (f d) (omega arith) (λ i. q)))
      go d u v t (over l) =
          let p = in_order_lem d r u l to in
          let ne : L.seq (f d) ≡ L.seq (f r) → ⊥ = λ i. later d (w.least d (record { low = omega (arith, w.low); high = v; trip = t; even = i ∙ same_seq })) l in
          (beyond_no L (f d) (f r) p.0 (λ i. absurd (ne i)), inl (beyond_yes L (f r) (f d) p.0 (λ i. absurd (ne (sym i)))))
        where
          later : (d : ℕ) → r ≤ d → d < r → ⊥
          later d x y = omega arith

  -- 31
  pub rule31_end : rule31 L n T ≡ (not (L.timed (f s)) || not (L.timed (f r)))
  unfolding rule31 is_first is_last
  rule31_end =
      let i = whole.within s w.low (omega (arith, w.order, w.high)) in
      let j = whole.within r (omega (arith, w.low, w.order)) (omega (arith, w.high)) in
      let top : s ≤ k = omega (arith, w.order, w.high) in
      rw (
        best_only (ahead L) T (λ x. not (L.timed x)) n (f s) i.0 i.1 (own_cell s (omega arith) top) first_best,
        best_only (beyond L) T (λ x. not (L.timed x)) n (f r) j.0 j.1 (own_cell r w.order w.high) last_best,
      )

  -- 30
  pub rule30_end : rule30 n T ≡ eqb s k
  unfolding rule30
  rule30_end = go (standing s k)
    where
      top : s ≤ k
      top = omega (arith, w.order, w.high)

      go : Standing s k → ltb (count T n) 2 ≡ eqb s k
      go (below l) = rw (ne_eqb s k (λ e. omega arith)) (le-ltb (count T n) 2 (two (standing (f s) (f k))))
        where
          i : (0 < f s) × (f s ≤ n)
          i = whole.within s w.low (omega arith)

          j : (0 < f k) × (f k ≤ n)
          j = whole.within k pos high

          two : Standing (f s) (f k) → 2 ≤ count T n
          two (below q) = count_two T n (f s) (f k) i.0 q j.1 (own_cell s (omega arith) top) (own_cell k top (omega arith))
          two (level q) = absurd (omega (arith, (in_order_lem s k (omega arith) l (omega arith)).1 (ap L.seq q)))
          two (over q) = count_two T n (f k) (f s) j.0 q i.1 (own_cell k top (omega arith)) (own_cell s (omega arith) top)
      go (level l) = rw (eq-eqb s k l) (lt-ltb (count T n) 2 (omega (arith, count_one T n (f k) (λ x a c e. only x (owned x a c e)))))
        where
          only : (x : ℕ) → Own x → x ≡ f k
          only x o = let q : o.place ≡ k = omega (arith, o.from, o.to) in sym o.is ∙ ap f q
      go (over l) = absurd (omega arith)

-- a trip with no line

module _ (L : Lines) (n : ℕ) (T : ℕ → Bool) (none : (x : ℕ) → 0 < x → x ≤ n → T x ≡ false) where
  pub rule30_none : rule30 n T ≡ true
  unfolding rule30
  rule30_none = lt-ltb (count T n) 2 (omega (arith, count_none T n none))

  some_empty : (P Q : ℕ → Bool) → some (λ x. (T x && P x) && Q x) 1 n ≡ false
  some_empty P Q = untrue (some (λ x. (T x && P x) && Q x) 1 n) (λ e. go (some_found (λ x. (T x && P x) && Q x) 1 n e))
    where
      go : Found (λ x. (T x && P x) && Q x) 1 n → ⊥
      go w =
          let b = and_both (T w.place && P w.place) (Q w.place) w.is in
          both (T w.place) (and_both (T w.place) (P w.place) b.0).0 (none w.place w.low (omega (arith, w.high)))

  pub rule31_none : rule31 L n T ≡ false
  unfolding rule31 is_first is_last
  rule31_none =
      rw (
        some_empty (λ x. not (some (λ y. T y && ahead L y x) 1 n)) (λ x. not (L.timed x)),
        some_empty (λ x. not (some (λ y. T y && beyond L y x) 1 n)) (λ x. not (L.timed x)),
      )
