-- An order that is sorted by trip, sequence and line: trips stand together and rise in it.
use Prim.Native.Nat.{ℕ, ◌≤◌, ◌<◌}
use native.Mathlib.Omega.{arith}
use mathlib.Core.Path.{◌≡◌}
use mathlib.Core.Bool.{Bool, true}
use Rattle.ordering.specs.Ids.{Sorted, Apart}
use Rattle.ordering.proofs.Laws.{Alike, yes, no, alike}
use Rattle.trip_order.specs.Lines.{Lines, Trips}
use Rattle.trip_order.specs.Cells.{Grouped}
use Rattle.trip_order.specs.Steady.{ByTrip}

pub sorted_grouped : (le : ℕ → ℕ → Bool) (L : Lines) → Trips L → ByTrip le L → (f : ℕ → ℕ) (n : ℕ) → Sorted le f n → Apart f n → Grouped L f n
unfolding Sorted Apart
sorted_grouped le L trips by f n sorted apart = record {
  together = λ a b c x y z u s. mid a b c x y z u s (alike a b) (alike b c);
  rising = λ a b x y z s. by.rising (f a) (f b) (sorted a b x y z) s;
  tied = λ a b x y z s e. less a b (by.tied (f a) (f b) (sorted a b x y z) s e) (apart a b x y z);
}
  where
    mid : (a b c : ℕ) → 0 < a → a ≤ b → b ≤ c → c ≤ n → L.same (f a) (f c) ≡ true → Alike a b → Alike b c → L.same (f a) (f b) ≡ true
    mid a b c x y z u s (yes p) q = rw p (trips.self (f b))
    mid a b c x y z u s (no p) (yes q) = rw q s
    mid a b c x y z u s (no p) (no q) = by.between (f a) (f b) (f c) (sorted a b x (omega (arith, p)) (omega arith)) (sorted b c (omega arith) (omega (arith, q)) u) s

    less : (a b : ℕ) → f a ≤ f b → (f a ≡ f b → ⊥) → f a < f b
    less a b l e = omega (arith, e)
