-- Groups: the cells of a trip in an order in which trips stand together and rise.
use Prim.Native.Nat.{ℕ, ◌-◌, ◌≤◌, ◌<◌}
use native.Mathlib.Omega.{arith}
use mathlib.Core.Path.{◌≡◌, refl}
use mathlib.Core.Bool.{true, false}
use mathlib.Core.Logic.{◌⊎◌, inl, inr}
use lib.Dec.{eqb, ltb}
use borrow.Author.Tests.{ltb-true, lt-ltb, eqb-true, eq-eqb}
use Rattle.meaning.proofs.ListLaws.{both, and_both}
use Rattle.trip_order.specs.Lines.{Lines, Trips}
use Rattle.trip_order.specs.Cells.{Grouped, linked, repeats, Level}
use Rattle.meaning.proofs.Tests.{Standing, below, level, over, standing}

-- ---- cells that go on

module _ (L : Lines) (f : ℕ → ℕ) (k : ℕ) where
  pub linked_is : linked L f k ≡ true → (1 < k) × (L.same (f (k - 1)) (f k) ≡ true)
  unfolding linked
  linked_is e = let b = and_both (ltb 1 k) (L.same (f (k - 1)) (f k)) e in (ltb-true 1 k b.0, b.1)

  pub is_linked : 1 < k → L.same (f (k - 1)) (f k) ≡ true → linked L f k ≡ true
  unfolding linked
  is_linked h e = rw (lt-ltb 1 k h, e)

  pub repeats_is : repeats L f k ≡ true → (linked L f k ≡ true) × (L.seq (f (k - 1)) ≡ L.seq (f k))
  unfolding repeats
  repeats_is e =
      let b = and_both (linked L f k) (eqb (L.seq (f (k - 1))) (L.seq (f k))) e in
      (b.0, eqb-true (L.seq (f (k - 1))) (L.seq (f k)) b.1)

  pub is_repeats : linked L f k ≡ true → L.seq (f (k - 1)) ≡ L.seq (f k) → repeats L f k ≡ true
  unfolding repeats
  is_repeats h e = rw (h, eq-eqb (L.seq (f (k - 1))) (L.seq (f k)) e)

-- ---- an order in which trips stand together

module _ (L : Lines) (trips : Trips L) (f : ℕ → ℕ) (n : ℕ) (g : Grouped L f n) where
  -- a cell before k of its trip: the one just before k is of it too
  pub before_links : (a k : ℕ) → 0 < a → a < k → k ≤ n → L.same (f a) (f k) ≡ true → (L.same (f a) (f (k - 1)) ≡ true) × (linked L f k ≡ true)
  before_links a k x y z e =
      let p : L.same (f a) (f (k - 1)) ≡ true = g.together a (k - 1) k x (omega arith) (omega arith) z e in
      (p, is_linked L f k (omega arith) (trips.join (f (k - 1)) (f a) (f k) (trips.turn (f a) (f (k - 1)) p) e))

  -- sequences don't fall, also from a cell to itself
  pub no_fall : (a b : ℕ) → 0 < a → a ≤ b → b ≤ n → L.same (f a) (f b) ≡ true → L.seq (f a) ≤ L.seq (f b)
  no_fall a b x y z e = go (standing a b)
    where
      go : Standing a b → L.seq (f a) ≤ L.seq (f b)
      go (below h) = g.rising a b x h z e
      go (level h) = rw h (omega arith)
      go (over h) = absurd (omega arith)

-- a cell of k's trip, not past k: k itself, or one of the trip of the cell before, with which k goes on
abbrev pub Joins : Lines → (ℕ → ℕ) → ℕ → ℕ → Type 0
Joins L f k a = (a ≡ k) ⊎ ((a ≤ k - 1) × ((L.same (f a) (f (k - 1)) ≡ true) × (linked L f k ≡ true)))

module _ (L : Lines) (trips : Trips L) (f : ℕ → ℕ) (n : ℕ) (g : Grouped L f n) (k : ℕ) (pos : 0 < k) (high : k ≤ n) where
  pub here : Level L f k k
  here = record { low = pos; high = omega arith; trip = trips.self (f k); even = refl }

  -- a cell of the trip is the last one, or is of the trip of the cell before it
  pub split : (a : ℕ) → 0 < a → a ≤ k → L.same (f a) (f k) ≡ true → Joins L f k a
  split a x y e = go (standing a k)
    where
      go : Standing a k → Joins L f k a
      go (below h) = inr (omega arith, before_links L trips f n g a k x h high e)
      go (level h) = inl h
      go (over h) = absurd (omega arith)

  module _ (link : linked L f k ≡ true) where
    -- of the trip of the cell before: of the trip of this one
    pub onward : (a : ℕ) → L.same (f a) (f (k - 1)) ≡ true → L.same (f a) (f k) ≡ true
    onward a e = trips.join (f a) (f (k - 1)) (f k) e (linked_is L f k link).1

    pub climbs : L.seq (f (k - 1)) ≤ L.seq (f k)
    climbs = let r = linked_is L f k link in no_fall L trips f n g (k - 1) k (omega (arith, r.0)) (omega arith) high r.1

  -- a group begins
  pub alone : linked L f k ≡ false → (a : ℕ) → 0 < a → a ≤ k → L.same (f a) (f k) ≡ true → a ≡ k
  alone h a x y e = go (split a x y e)
    where
      go : Joins L f k a → a ≡ k
      go (inl p) = p
      go (inr p) = both (linked L f k) p.1.1 h
