-- What a walk along the cells carries on from one to the next.
use Prim.Native.Nat.{ℕ, ◌-◌, ◌≤◌, ◌<◌}
use native.Mathlib.Omega.{arith}
use mathlib.Core.Path.{◌≡◌, refl, sym, ap, ◌∙◌}
use mathlib.Core.Bool.{Bool, true, false, cond}
use mathlib.Core.Logic.{◌⊎◌, inl, inr}
use Rattle.meaning.proofs.ListLaws.{both}
use Rattle.trip_order.specs.Lines.{Lines, Trips}
use Rattle.trip_order.specs.Cells.{Grouped, linked, repeats, leaves, larger, Level, Lower, Greatest, Walked, next_lower, next_level, next_start, next_run}
use Rattle.meaning.proofs.Tests.{Standing, below, level, over, standing}
use Rattle.trip_order.proofs.Groups.{linked_is, repeats_is, is_repeats, no_fall, Joins, here, split, alone, onward, climbs}
use Rattle.trip_order.proofs.Greatest.{top_as, top_none, top_one, top_join}

module _ (L : Lines) (trips : Trips L) (f : ℕ → ℕ) (n : ℕ) (g : Grouped L f n) (k : ℕ) (pos : 0 < k) (high : k ≤ n) where
  -- no cell before has this trip and this sequence
  run_begins : repeats L f k ≡ false → (a : ℕ) → Level L f k a → k ≤ a
  run_begins h a p = go (split L trips f n g k pos high a p.low p.high p.trip)
    where
      go : Joins L f k a → k ≤ a
      go (inl q) = omega arith
      go (inr q) =
          let d : L.seq (f a) ≤ L.seq (f (k - 1)) = no_fall L trips f n g a (k - 1) p.low q.0 (omega arith) q.1.0 in
          both (repeats L f k) (is_repeats L f k q.1.1 (omega (arith, p.even, climbs L trips f n g k pos high q.1.1))) h

  lower_begins : linked L f k ≡ false → Greatest (Lower L f k) (λ a. leaves L (f a)) 0
  lower_begins h = top_none (λ a. leaves L (f a)) (λ a p. none a p)
    where
      none : (a : ℕ) → Lower L f k a → ⊥
      none a p = let e : L.seq (f a) ≡ L.seq (f k) = ap (λ x. L.seq (f x)) (alone L trips f n g k pos high h a p.low p.high p.trip) in omega (arith, p.less)

  -- a run begins: no cell before has this sequence
  level_begins : repeats L f k ≡ false → Greatest (Level L f k) (λ a. leaves L (f a)) (leaves L (f k))
  level_begins h = top_one (λ a. leaves L (f a)) k (here L trips f n g k pos high) (λ a p. only a p (run_begins h a p))
    where
      only : (a : ℕ) → Level L f k a → k ≤ a → a ≡ k
      only a p l = omega (arith, p.high)

  module _ (link : linked L f k ≡ true) where
    -- a run goes on
    module _ (even : L.seq (f (k - 1)) ≡ L.seq (f k)) where
      level_next : {m : ℕ} → Greatest (Level L f (k - 1)) (λ a. leaves L (f a)) m → Greatest (Level L f k) (λ a. leaves L (f a)) (larger m (leaves L (f k)))
      level_next t =
          top_join (λ a. leaves L (f a)) {P = Level L f (k - 1)} {R = λ a. a ≡ k}
          (λ a p. record { low = p.low; high = omega (arith, p.high); trip = onward L trips f n g k pos high link a p.trip; even = p.even ∙ even })
          (λ a e. rw e (here L trips f n g k pos high))
          (λ a p. go a p (split L trips f n g k pos high a p.low p.high p.trip))
          t
          (top_one (λ a. leaves L (f a)) k refl (λ b e. e))
        where
          go : (a : ℕ) → Level L f k a → Joins L f k a → Level L f (k - 1) a ⊎ (a ≡ k)
          go a p (inl q) = inr q
          go a p (inr q) = inl (record { low = p.low; high = q.0; trip = q.1.0; even = p.even ∙ sym even })

      lower_next : {m : ℕ} → Greatest (Lower L f (k - 1)) (λ a. leaves L (f a)) m → Greatest (Lower L f k) (λ a. leaves L (f a)) m
      lower_next t =
          top_as (λ a. leaves L (f a)) {P = Lower L f (k - 1)}
          (λ a p. record { low = p.low; high = omega (arith, p.high); trip = onward L trips f n g k pos high link a p.trip; less = omega (arith, p.less) })
          (λ a p. go a p (split L trips f n g k pos high a p.low p.high p.trip))
          t
        where
          go : (a : ℕ) → Lower L f k a → Joins L f k a → Lower L f (k - 1) a
          go a p (inl q) = let e : L.seq (f a) ≡ L.seq (f k) = ap (λ x. L.seq (f x)) q in absurd (omega (arith, p.less))
          go a p (inr q) = record { low = p.low; high = q.0; trip = q.1.0; less = omega (arith, p.less) }

    -- a run begins in a group
    lower_climbs : {m o : ℕ} → repeats L f k ≡ false → Greatest (Lower L f (k - 1)) (λ a. leaves L (f a)) m → Greatest (Level L f (k - 1)) (λ a. leaves L (f a)) o
        → Greatest (Lower L f k) (λ a. leaves L (f a)) (larger m o)
    lower_climbs h s t =
        top_join (λ a. leaves L (f a)) {P = Lower L f (k - 1)} {R = Level L f (k - 1)}
        (λ a p. record { low = p.low; high = omega (arith, p.high); trip = onward L trips f n g k pos high link a p.trip; less = omega (arith, p.less, rises) })
        (λ a p. record { low = p.low; high = omega (arith, p.high); trip = onward L trips f n g k pos high link a p.trip; less = omega (arith, p.even, rises) })
        (λ a p. go a p (split L trips f n g k pos high a p.low p.high p.trip))
        s
        t
      where
        rises : L.seq (f (k - 1)) < L.seq (f k)
        rises = let no : L.seq (f (k - 1)) ≡ L.seq (f k) → ⊥ = λ e. both (repeats L f k) (is_repeats L f k link e) h in omega (arith, no, climbs L trips f n g k pos high link)

        go : (a : ℕ) → Lower L f k a → Joins L f k a → Lower L f (k - 1) a ⊎ Level L f (k - 1) a
        go a p (inl q) = let e : L.seq (f a) ≡ L.seq (f k) = ap (λ x. L.seq (f x)) q in absurd (omega (arith, p.less))
        go a p (inr q) = which (standing (L.seq (f a)) (L.seq (f (k - 1))))
          where
            which : Standing (L.seq (f a)) (L.seq (f (k - 1))) → Lower L f (k - 1) a ⊎ Level L f (k - 1) a
            which (below h) = inl (record { low = p.low; high = q.0; trip = q.1.0; less = h })
            which (level h) = inr (record { low = p.low; high = q.0; trip = q.1.0; even = h })
            which (over h) = absurd (omega (arith, no_fall L trips f n g a (k - 1) p.low q.0 (omega arith) q.1.0))

  -- ---- all that is carried

  walk_begins : linked L f k ≡ false → repeats L f k ≡ false → Walked L f k 0 (leaves L (f k)) k k
  walk_begins h r = record {
    less = lower_begins h;
    even = level_begins r;
    low = pos;
    order = omega arith;
    high = omega arith;
    trip = λ a x y. let e : a ≡ k = omega arith in rw e (trips.self (f k));
    first = λ a x y e. let q = alone L trips f n g k pos high h a x y e in omega arith;
    equal = refl;
    least = run_begins r;
  }

  module _ (link : linked L f k ≡ true) {b h s r : ℕ} (w : Walked L f (k - 1) b h s r) where
    trip_next : (a : ℕ) → s ≤ a → a ≤ k → L.same (f a) (f k) ≡ true
    trip_next a x y = go (standing a k)
      where
        go : Standing a k → L.same (f a) (f k) ≡ true
        go (below l) = onward L trips f n g k pos high link a (w.trip a x (omega arith))
        go (level e) = rw e (trips.self (f k))
        go (over l) = absurd (omega arith)

    first_next : (a : ℕ) → 0 < a → a ≤ k → L.same (f a) (f k) ≡ true → s ≤ a
    first_next a x y e = go (split L trips f n g k pos high a x y e)
      where
        go : Joins L f k a → s ≤ a
        go (inl q) = omega (arith, w.order, w.high)
        go (inr q) = w.first a x q.0 q.1.0

    -- a run begins in a group
    walk_climbs : repeats L f k ≡ false → Walked L f k (larger b h) (leaves L (f k)) s k
    walk_climbs q = record {
      less = lower_climbs link q w.less w.even;
      even = level_begins q;
      low = w.low;
      order = omega (arith, w.order, w.high);
      high = omega arith;
      trip = trip_next;
      first = first_next;
      equal = refl;
      least = run_begins q;
    }

    -- a run goes on
    walk_repeats : repeats L f k ≡ true → Walked L f k b (larger h (leaves L (f k))) s r
    walk_repeats q = record {
      less = lower_next link even w.less;
      even = level_next link even w.even;
      low = w.low;
      order = w.order;
      high = omega (arith, w.high);
      trip = trip_next;
      first = first_next;
      equal = w.equal ∙ even;
      least = λ a p. go a p (split L trips f n g k pos high a p.low p.high p.trip);
    }
      where
        even : L.seq (f (k - 1)) ≡ L.seq (f k)
        even = (repeats_is L f k q).1

        go : (a : ℕ) → Level L f k a → Joins L f k a → r ≤ a
        go a p (inl e) = omega (arith, w.high)
        go a p (inr e) = w.least a (record { low = p.low; high = e.0; trip = e.1.0; even = p.even ∙ sym even })

  -- the three ways as one
  pub walk_next : (b h s r : ℕ) → (1 < k → Walked L f (k - 1) b h s r)
      → Walked L f k (next_lower L f k b h) (next_level L f k h) (next_start L f k s) (next_run L f k r)
  unfolding next_lower next_level next_start next_run
  walk_next b h s r w = go (linked L f k) refl (repeats L f k) refl
    where
      go : (t : Bool) → linked L f k ≡ t → (u : Bool) → repeats L f k ≡ u
          → Walked L f k (cond t (cond u b (larger b h)) 0) (cond u (larger h (leaves L (f k))) (leaves L (f k))) (cond t s k) (cond u r k)
      go true p true q = walk_repeats p (w (linked_is L f k p).0) q
      go true p false q = walk_climbs p (w (linked_is L f k p).0) q
      go false p true q = both (linked L f k) (repeats_is L f k q).0 p
      go false p false q = walk_begins p q
