-- What the functions of one turn hand on.
use Prim.Native.Nat.{ℕ, ◌+◌, ◌*◌, ◌-◌, ◌≤◌, ◌<◌}
use native.Mathlib.Omega.{arith}
use mathlib.Core.Path.{◌≡◌, refl, sym, ◌∙◌}
use mathlib.Core.List.{List, []}
use mathlib.Core.Bool.{Bool, true, false, cond, not, ◌&&◌, ◌||◌}
use lib.Dec.{eqb, ltb}
use lib.IntN.{ℤ}
use borrow.Author.Tests.{eq-eqb, ne_eqb, lt-ltb, le-ltb}
use Rattle.meaning.specs.Lists.{same}
use Rattle.meaning.specs.Bytes.{bounds, part, value}
use Rattle.meaning.specs.Rules.{seconds_of}
use Rattle.meaning.proofs.ListLaws.{both, same_self}
use Rattle.marks.specs.Marks.{paired_mark, open_mark}
use Rattle.rows.specs.Cells.{nat_at, bounds_at, time_at}
use Rattle.ordering.specs.Ids.{trip_of, key_of, stray_id}
use Rattle.trip_order.specs.Cells.{linked, repeats, leaves, larger, next_lower, next_level, next_start, next_run}
use Rattle.trip_walk.specs.Table.{same_in, timed_in, lines_in, cells_in}
use Rattle.trip_walk.specs.Told.{ToldTwo}
use Rattle.trip_walk.specs.Walk.{Turned, Closed}
use Rattle.trip_walk.proofs.Table.{trip_is}

-- ---- lines of one trip

pub raw_is : (s : List ℕ) (t : List ℤ) (x a e : ℕ) (q : List ℕ) → a ≡ nat_at t (x * 8 + 5) → e ≡ nat_at t (x * 8 + 6) → q ≡ part s (bounds a e) → q ≡ part s (bounds_at t (x * 8 + 5))
raw_is s t x a e q p r i = let n : x * 8 + 5 + 1 ≡ x * 8 + 6 = omega arith in i ∙ rw (p, r, n)

module _ (s : List ℕ) (t : List ℤ) (x y a b : ℕ) (p : a ≡ nat_at t (x * 8)) (q : b ≡ nat_at t (y * 8)) where
  pub trips_differ : (a ≡ b → ⊥) → false ≡ same_in s t x y
  unfolding same_in
  trips_differ n = rw (trip_is t x a p, trip_is t y b q, ne_eqb a b n)

  pub trips_stand : a ≡ b → (a ≡ 0 → ⊥) → true ≡ same_in s t x y
  unfolding same_in stray_id
  trips_stand i n =
      let z : eqb b 0 ≡ false = ne_eqb b 0 (λ k. n (i ∙ k)) in
      rw (trip_is t x a p, trip_is t y b q, eq-eqb a b i, ne_eqb a 0 n, z) (sym (same_self []))

  pub trips_stray : (u v : List ℕ) (r : Bool) → a ≡ b → a ≡ 0 → u ≡ part s (bounds_at t (x * 8 + 5)) → v ≡ part s (bounds_at t (y * 8 + 5))
      → r ≡ same (value u) (value v) → r ≡ same_in s t x y
  unfolding same_in stray_id
  trips_stray u v r i z k l m =
      let z' : eqb b 0 ≡ true = eq-eqb b 0 (sym i ∙ z) in
      m ∙ rw (trip_is t x a p, trip_is t y b q, eq-eqb a b i, eq-eqb a 0 z, z', k, l)

-- ---- a cell and the one before

module _ (s : List ℕ) (t : List ℤ) (k : ℕ) where
  pub linked_here : (x y : ℕ) (b : Bool) → 1 < k → x ≡ cells_in t (k - 1) → y ≡ cells_in t k → b ≡ same_in s t x y → b ≡ linked (lines_in s t) (cells_in t) k
  unfolding linked
  linked_here x y b h p q e = e ∙ rw (p, q, lt-ltb 1 k h)

  pub linked_one : k ≤ 1 → false ≡ linked (lines_in s t) (cells_in t) k
  unfolding linked
  linked_one h = rw (le-ltb 1 k h)

  pub repeats_here : (x y p q : ℕ) (link : Bool) → link ≡ true → link ≡ linked (lines_in s t) (cells_in t) k → x ≡ cells_in t (k - 1) → y ≡ cells_in t k
      → p ≡ nat_at t (x * 8 + 2) → q ≡ nat_at t (y * 8 + 2) → eqb p q ≡ repeats (lines_in s t) (cells_in t) k
  unfolding repeats key_of
  repeats_here x y p q link h l a b c d = rw (← l, h, c, d, a, b)

  pub repeats_not : (link : Bool) → link ≡ false → link ≡ linked (lines_in s t) (cells_in t) k → false ≡ repeats (lines_in s t) (cells_in t) k
  unfolding repeats
  repeats_not link h l = rw (← l, h)

  pub turned :
      (b h f r below here from begins : ℕ) (link equal falls : Bool) (x : ℕ) (timed : Bool) (arrives departs : ℕ) (link' equal' : Bool)
      → link ≡ linked (lines_in s t) (cells_in t) k
      → equal ≡ repeats (lines_in s t) (cells_in t) k
      → x ≡ cells_in t k
      → (timed ≡ timed_in t x) × ((arrives ≡ seconds_of (time_at t (x * 8 + 3))) × (departs ≡ seconds_of (time_at t (x * 8 + 4))))
      → (below ≡ cond link (cond equal b (larger b h)) 0) × (here ≡ cond equal (larger h (cond timed departs 0)) (cond timed departs 0))
      → (from ≡ cond link f k) × (begins ≡ cond equal r k)
      → (link' ≡ link) × (equal' ≡ equal)
      → falls ≡ (timed && ltb arrives (cond link (cond equal b (larger b h)) 0))
      → Turned (lines_in s t) (cells_in t) k b h f r below here from begins link' equal' falls
  unfolding next_lower next_level next_start next_run leaves
  turned b h f r below here from begins link equal falls x timed arrives departs link' equal' l p q u c d e i = record {
    is_below = c.0 ∙ rw (l, p);
    is_here = c.1 ∙ rw (p, u.0, u.1.1, q);
    is_from = d.0 ∙ rw l;
    is_begins = d.1 ∙ rw p;
    is_link = e.0 ∙ l;
    is_equal_lem = e.1 ∙ p;
    is_falls = i ∙ rw (l, p, u.0, u.1.0, q);
  }

-- ---- a group that is told of, or not

pub trip_told : (t : List ℤ) (k x r : ℕ) (m m' : List ℕ) (p q q' : Bool) → x ≡ cells_in t k → r ≡ nat_at t (x * 8) → q ≡ q'
    → ToldTwo m m' paired_mark p open_mark q r → ToldTwo m m' paired_mark p open_mark q' (trip_of t 8 (cells_in t k))
unfolding trip_of
trip_told t k x r m m' p q q' a b c d = rw (← a, ← b, ← c) d

module _ (s : List ℕ) (t : List ℤ) (k from begins : ℕ) (link : Bool) (m : List ℕ) where
  pub closed_going : link ≡ true → Closed (lines_in s t) (trip_of t 8) (cells_in t) k from begins link m m
  closed_going e = record { first = λ h. refl; going = λ h. refl; ended = λ h i. both link e i }

  pub closed_first : k ≤ 1 → Closed (lines_in s t) (trip_of t 8) (cells_in t) k from begins link m m
  closed_first l = record { first = λ h. refl; going = λ h. refl; ended = λ h i. absurd (clash h) }
    where
      clash : 1 < k → ⊥
      clash h = omega arith

  pub closed_ended : (m' : List ℕ) → link ≡ false → 1 < k
      → ToldTwo m m' paired_mark (not (eqb from (k - 1))) open_mark (not (timed_in t (cells_in t from)) || not (timed_in t (cells_in t begins))) (trip_of t 8 (cells_in t (k - 1)))
      → Closed (lines_in s t) (trip_of t 8) (cells_in t) k from begins link m m'
  closed_ended m' e l d = record { first = λ h. absurd (clash h); going = λ h. both link h e; ended = λ h i. d }
    where
      clash : k ≤ 1 → ⊥
      clash h = omega arith
