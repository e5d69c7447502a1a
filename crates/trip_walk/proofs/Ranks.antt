-- Two orders of lines in which trips stand together and rise: the file's own, where it will do, and the sorted one.
use Prim.Native.Nat.{ℕ, ◌≤◌, ◌<◌}
use native.Mathlib.Omega.{arith}
use mathlib.Core.Path.{◌≡◌, sym, subst}
use mathlib.Core.List.{List}
use lib.IntN.{ℤ}
use Rattle.ordering.specs.declared.By.TheVariants.{TripAndSequence}
use Rattle.ordering.specs.Cells.{KeptAt, Moved}
use Rattle.ordering.specs.Ids.{in_order, Sorted}
use Rattle.ordering.proofs.Laws.{moved_whole, moved_apart}
use Rattle.sorting.specs.Heaps.{Listed}
use Rattle.sorting.proofs.Laws.{listed_whole, listed_apart}
use Rattle.trip_order.specs.Lines.{Lines}
use Rattle.trip_order.specs.Cells.{Grouped}
use Rattle.trip_order.proofs.Sorted.{sorted_grouped}
use Rattle.trip_walk.specs.Table.{lines_in, cells_in, Ranged}
use Rattle.trip_walk.proofs.Table.{trips_in, by_trip, lines_kept}

-- cells that hold the lines in the order of the file
grouped_as : (L : Lines) (f : ℕ → ℕ) (n : ℕ) → ((i : ℕ) → 0 < i → i ≤ n → f i ≡ i) → Grouped L (λ i. i) n → Grouped L f n
grouped_as L f n e g = record {
  together = λ a b c x y z u h.
      let p = e a x (omega arith) in
      let q = e b (omega arith) (omega arith) in
      let r = e c (omega arith) u in
      rw (p, q) (g.together a b c x y z u (rw (p, r) at h));
  rising = λ a b x y z h. let p = e a x (omega arith) in let q = e b (omega arith) z in rw (p, q) (g.rising a b x y z (rw (p, q) at h));
  tied = λ a b x y z h k. let p = e a x (omega arith) in let q = e b (omega arith) z in rw (p, q) (g.tied a b x y z (rw (p, q) at h) (rw (p, q) at k));
}

module _ (s : List ℕ) (n : ℕ) (u : List ℤ) (l : Listed 7 8 n u) where
  pub ranged_file : Grouped (lines_in s u) (λ i. i) n → Ranged s u n
  unfolding Listed
  ranged_file g = record {
    whole = listed_whole 7 8 n u l;
    apart = listed_apart 7 8 n u l;
    grouped = grouped_as (lines_in s u) (cells_in u) n l g;
  }

  pub ranged_sorted : (v : List ℤ) → Sorted (in_order TripAndSequence s u 8) (cells_in v) n → Moved n (cells_in u) (cells_in v) → KeptAt 7 8 n u v → Ranged s v n
  ranged_sorted v sorted moved j = record {
    whole = moved_whole moved (listed_whole 7 8 n u l);
    apart = moved_apart moved (listed_apart 7 8 n u l);
    grouped = subst (λ (d : Lines). Grouped d (cells_in v) n) (sym (lines_kept s j))
        (sorted_grouped (in_order TripAndSequence s u 8) (lines_in s u) (trips_in s u) (by_trip s u) (cells_in v) n sorted (moved_apart moved (listed_apart 7 8 n u l)));
  }
