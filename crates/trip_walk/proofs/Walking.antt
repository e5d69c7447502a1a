-- The walk along the cells: what it has told of, and what it carries.
use Prim.Native.Nat.{ℕ, ◌+◌, ◌-◌, ◌≤◌, ◌<◌}
use native.Mathlib.Omega.{arith}
use mathlib.Core.Path.{◌≡◌, refl, sym, ap, ◌∙◌}
use mathlib.Core.List.{List}
use mathlib.Core.Bool.{Bool, true, false, not, ◌||◌}
use mathlib.Core.Logic.{◌⊎◌, inl, inr}
use lib.Dec.{eqb}
use lib.ListN.{length}
use borrow.Author.Tests.{lt-ltb, le-ltb}
use Rattle.marks.specs.Marks.{marked, equal_mark, falling_mark, paired_mark, open_mark}
use Rattle.ordering.specs.Ids.{Whole, Apart}
use Rattle.trip_order.specs.Lines.{Lines, Trips, rule28, rule29, rule30, rule31}
use Rattle.trip_order.specs.Cells.{Grouped, linked, ends, Walked}
use Rattle.meaning.proofs.Tests.{Standing, below, level, over, standing}
use Rattle.trip_order.proofs.Sequences.{rule28_cell, rule29_cell}
use Rattle.trip_order.proofs.Steps.{walk_next}
use Rattle.trip_order.proofs.Ends.{rule30_end, rule31_end, rule30_none, rule31_none}
use Rattle.ordering.specs.Ids.{trip_of}
use lib.IntN.{ℤ}
use Rattle.trip_walk.specs.Table.{lines_in, cells_in, Ranged}
use Rattle.trip_walk.proofs.Table.{trips_in, one_record, by_record}
use Rattle.trip_walk.specs.Told.{Told, ToldTwo, KeptMarks}
use Rattle.trip_walk.specs.Walk.{Turned, Closed}
use Rattle.trip_walk.proofs.Telling.{Lined, lined_none, lined_as, lined_more, lined_all, Ended, ended_none, ended_as, ended_on, ended_more, ended_all}

-- what is told of the trip of record r
abbrev pub pairs : (ℕ → ℕ) → ℕ → ℕ → Bool
pairs trip n r = not (rule30 n (λ y. eqb (trip y) r))

abbrev pub opens : Lines → (ℕ → ℕ) → ℕ → ℕ → Bool
opens L trip n r = rule31 L n (λ y. eqb (trip y) r)

-- lines in the cells below k and trips whose groups end up to cell d are told of, and no mark below 9 has changed
pub record Telling (L : Lines) (trip f : ℕ → ℕ) (n k d : ℕ) (old m : List ℕ) : Type 0 where
  pub kept : KeptMarks old m
  pub equal : Lined f n k equal_mark (rule28 L) m
  pub falls : Lined f n k falling_mark (rule29 L n) m
  pub paired : Ended L trip f n d paired_mark (pairs trip n) m
  pub opened : Ended L trip f n d open_mark (opens L trip n) m

-- what the walk knows before cell k
pub record Walking (L : Lines) (trip f : ℕ → ℕ) (n k : ℕ) (old m : List ℕ) (below here from begins : ℕ) : Type 0 where
  pub low : 0 < k
  pub high : k ≤ n + 1
  pub telling : Telling L trip f n k (k - 2) old m
  pub carried : 1 < k → Walked L f (k - 1) below here from begins

module _ (L : Lines) (trips : Trips L) (trip f : ℕ → ℕ) (n : ℕ) (g : Grouped L f n) (whole : Whole f n) (apart : Apart f n)
    (key : (x y : ℕ) → 0 < trip y → L.same x y ≡ eqb (trip x) (trip y)) where
  walking_start : (m : List ℕ) (b h s r : ℕ) → ((c q : ℕ) → 9 ≤ c → c ≤ 12 → marked m c q ≡ false) → Walking L trip f n 1 m m b h s r
  walking_start m b h s r blank = record {
    low = omega arith;
    high = omega arith;
    telling = record {
      kept = record { size = refl; below = λ c q l. refl };
      equal = lined_none f n equal_mark (rule28 L) m (λ q. blank equal_mark q (omega arith) (omega arith));
      falls = lined_none f n falling_mark (rule29 L n) m (λ q. blank falling_mark q (omega arith) (omega arith));
      paired = ended_none L trips trip f n g key paired_mark (pairs trip n) m (λ q. blank paired_mark q (omega arith) (omega arith));
      opened = ended_none L trips trip f n g key open_mark (opens L trip n) m (λ q. blank open_mark q (omega arith) (omega arith));
    };
    carried = λ l. absurd (one l);
  }
    where
      one : 1 < 1 → ⊥
      one l = omega arith

  -- ---- the group before cell k

  -- it ends with a cell that the next isn't linked to, and with the last cell
  ends_before : (k : ℕ) (link : Bool) → 1 < k → k ≤ n → link ≡ linked L f k → ends L f n (k - 1) ≡ not link
  unfolding ends
  ends_before k link l h e = let z : k - 1 + 1 ≡ k = omega arith in rw (lt-ltb (k - 1) n (omega arith), z, ← e)

  ends_last : ends L f n (n + 1 - 1) ≡ true
  unfolding ends
  ends_last = rw (le-ltb (n + 1 - 1) n (omega arith))

  module _ (k : ℕ) (old m m' : List ℕ) {b h s r : ℕ} (link : Bool) (high : k ≤ n + 1) (end : 1 < k → ends L f n (k - 1) ≡ not link)
      (w : 1 < k → Walked L f (k - 1) b h s r) (c : Closed L trip f k s r link m m') (d : Telling L trip f n k (k - 2) old m) where
    -- nothing is told, and no group ends
    stays : (k ≤ 1) ⊎ (link ≡ true) → m' ≡ m
    stays (inl l) = c.first l
    stays (inr e) = c.going e

    -- the trip of a group that ends
    module _ (l : 1 < k) (e : link ≡ false) where
      one : ToldTwo m m' paired_mark (not (eqb s (k - 1))) open_mark (not (L.timed (f s)) || not (L.timed (f r))) (trip (f (k - 1)))
      one = c.ended l e

      last : ends L f n (k - 1) ≡ true
      last = end l ∙ rw e

      own : 0 < trip (f (k - 1)) → (x : ℕ) → 0 < x → x ≤ n → eqb (trip x) (trip (f (k - 1))) ≡ L.same x (f (k - 1))
      own p x u v = sym (key x (f (k - 1)) p)

      next : k - 2 + 1 ≡ k - 1
      next = omega arith

      paired_now : Ended L trip f n (k - 2) paired_mark (pairs trip n) m → Ended L trip f n (k - 2 + 1) paired_mark (pairs trip n) m'
      paired_now =
          ended_more L trips trip f n g key paired_mark (pairs trip n) (k - 2) m m' (omega arith) (rw next last) one.size
          (rw next (λ p i j. one.first i j ∙ sym (ap not (rule30_end L trips f n g whole (k - 1) (omega arith) (omega arith) (w l) last (λ y. eqb (trip y) (trip (f (k - 1)))) (own p)))))
          (rw next (λ q i. one.other paired_mark q (λ x y. i y) (λ x y. i y)))

      opened_now : Ended L trip f n (k - 2) open_mark (opens L trip n) m → Ended L trip f n (k - 2 + 1) open_mark (opens L trip n) m'
      opened_now =
          ended_more L trips trip f n g key open_mark (opens L trip n) (k - 2) m m' (omega arith) (rw next last) one.size
          (rw next (λ p i j. one.second i j ∙ sym (rule31_end L trips f n g whole (k - 1) (omega arith) (omega arith) (w l) last (λ y. eqb (trip y) (trip (f (k - 1)))) (own p))))
          (rw next (λ q i. one.other open_mark q (λ x y. i y) (λ x y. i y)))

      telling_ended : Telling L trip f n k (k - 1) old m'
      telling_ended = record {
        kept = record { size = one.size ∙ d.kept.size; below = λ x q i. one.other x q (λ y z. omega arith) (λ y z. omega arith) ∙ d.kept.below x q i };
        equal = lined_as f n equal_mark (rule28 L) k m m' (λ q. one.other equal_mark q (λ y z. omega arith) (λ y z. omega arith)) d.equal;
        falls = lined_as f n falling_mark (rule29 L n) k m m' (λ q. one.other falling_mark q (λ y z. omega arith) (λ y z. omega arith)) d.falls;
        paired = rw next at (paired_now d.paired);
        opened = rw next at (opened_now d.opened);
      }

    telling_going : 1 < k → link ≡ true → Telling L trip f n k (k - 1) old m
    telling_going l e =
        let next : k - 2 + 1 ≡ k - 1 = omega arith in
        let none : ends L f n (k - 2 + 1) ≡ false = rw (next, end l, e) in
        record {
          kept = d.kept;
          equal = d.equal;
          falls = d.falls;
          paired = rw next at (ended_on L trips trip f n g key paired_mark (pairs trip n) (k - 2) m none d.paired);
          opened = rw next at (ended_on L trips trip f n g key open_mark (opens L trip n) (k - 2) m none d.opened);
        }

    telling_closed : 0 < k → Telling L trip f n k (k - 1) old m'
    telling_closed low = go (standing k 1) link refl
      where
        go : Standing k 1 → (t : Bool) → link ≡ t → Telling L trip f n k (k - 1) old m'
        go (below l) t e = absurd (omega arith)
        go (level l) t e = let z : k - 2 ≡ k - 1 = omega arith in rw (stays (inl (omega arith))) (rw z at d)
        go (over l) true e = rw (stays (inr e)) (telling_going l e)
        go (over l) false e = telling_ended l e

  -- ---- cell k

  module _ (k : ℕ) (old m u v : List ℕ) (b h s r below here from begins : ℕ) (link equal falls : Bool) (w : Walking L trip f n k old m b h s r) (high : k ≤ n)
      (room : n < length old) (z : Turned L f k b h s r below here from begins link equal falls) (c : Closed L trip f k s r link m u) (x : ℕ) (at : x ≡ f k)
      (d : ToldTwo u v equal_mark equal falling_mark falls x) where
    carries : Walked L f k below here from begins
    carries = rw (z.is_below, z.is_here, z.is_from, z.is_begins) (walk_next L trips f n g k w.low high b h s r w.carried)

    before : Telling L trip f n k (k - 1) old u
    before = telling_closed k old m u link w.high (λ l. ends_before k link l high z.is_link) w.carried c w.telling w.low

    fits : x < length u
    fits = let i = whole.within k w.low high in omega (arith, at, i.1, before.kept.size)

    walking_turn : Walking L trip f n (k + 1) old v below here from begins
    walking_turn = record {
      low = omega arith;
      high = omega arith;
      telling = record {
        kept = record { size = d.size ∙ before.kept.size; below = λ y q i. d.other y q (λ a e. omega arith) (λ a e. omega arith) ∙ before.kept.below y q i };
        equal = lined_more f n equal_mark (rule28 L) apart k u v w.low high
            (λ e. rw (← at) (d.first fits (rw at e)) ∙ z.is_equal_lem ∙ sym (rule28_cell L trips f n g whole k w.low high))
            (λ q e. d.other equal_mark q (λ a i. e (i ∙ at)) (λ a i. e (i ∙ at)))
            before.equal;
        falls = lined_more f n falling_mark (rule29 L n) apart k u v w.low high
            (λ e. rw (← at) (d.second fits (rw at e)) ∙ z.is_falls ∙ rw (← z.is_below) (sym (rule29_cell L trips f n g whole k w.low high below carries.less)))
            (λ q e. d.other falling_mark q (λ a i. e (i ∙ at)) (λ a i. e (i ∙ at)))
            before.falls;
        paired = rw next (ended_as L trips trip f n g key paired_mark (pairs trip n) (k - 1) u v d.size (λ q. d.other paired_mark q (λ a e. omega arith) (λ a e. omega arith)) before.paired);
        opened = rw next (ended_as L trips trip f n g key open_mark (opens L trip n) (k - 1) u v d.size (λ q. d.other open_mark q (λ a e. omega arith) (λ a e. omega arith)) before.opened);
      };
      carried = λ l. let i : k + 1 - 1 ≡ k = omega arith in rw i carries;
    }
      where
        next : k + 1 - 2 ≡ k - 1
        next = omega arith

  -- ---- the last cell

  walking_end : (k : ℕ) (old m u : List ℕ) (b h s r : ℕ) → n < k → Walking L trip f n k old m b h s r → Closed L trip f (n + 1) s r false m u → Telling L trip f n (n + 1) n old u
  walking_end k old m u b h s r past w c =
      let e : k ≡ n + 1 = omega (arith, w.high) in
      let last : n + 1 - 1 ≡ n = omega arith in
      let d : Telling L trip f n (n + 1) (n + 1 - 2) old m = rw e at w.telling in
      let i : 1 < n + 1 → Walked L f (n + 1 - 1) b h s r = rw e at w.carried in
      rw last at (telling_closed (n + 1) old m u false (omega arith) (λ l. ends_last) i c d (omega arith))

  -- each line and each trip is told of
  all_lines : (old m : List ℕ) → Telling L trip f n (n + 1) n old m → (x : ℕ) → 0 < x → x ≤ n → (marked m equal_mark x ≡ rule28 L x) × (marked m falling_mark x ≡ rule29 L n x)
  all_lines old m d x a e = (
    lined_all f n equal_mark (rule28 L) whole (n + 1) m (omega arith) d.equal x a e,
    lined_all f n falling_mark (rule29 L n) whole (n + 1) m (omega arith) d.falls x a e,
  )

  all_trips : ((x y : ℕ) → L.same x y ≡ true → trip x ≡ trip y) → (old m : List ℕ) → Telling L trip f n (n + 1) n old m
      → (r : ℕ) → 0 < r → r < length m → (marked m paired_mark r ≡ pairs trip n r) × (marked m open_mark r ≡ opens L trip n r)
  all_trips one old m d r a e = (
    ended_all L trips trip f n g key paired_mark (pairs trip n) whole one m d.paired (λ q none. ap not (rule30_none L n (λ y. eqb (trip y) q) none)) r a e,
    ended_all L trips trip f n g key open_mark (opens L trip n) whole one m d.opened (λ q none. rule31_none L n (λ y. eqb (trip y) q) none) r a e,
  )

-- ---- over a table

module _ (s : List ℕ) (t : List ℤ) (n : ℕ) (r : Ranged s t n) where
  pub table_start : (m : List ℕ) {b h f g : ℕ} → ((c q : ℕ) → 9 ≤ c → c ≤ 12 → marked m c q ≡ false) → Walking (lines_in s t) (trip_of t 8) (cells_in t) n 1 m m b h f g
  table_start m {b} {h} {f} {g} blank = walking_start (lines_in s t) (trips_in s t) (trip_of t 8) (cells_in t) n r.grouped r.whole r.apart (by_record s t) m b h f g blank

  pub table_turn :
      (k : ℕ) (old m u v : List ℕ) {b h f g below here from begins : ℕ} {link equal falls : Bool} (x : ℕ)
      → Walking (lines_in s t) (trip_of t 8) (cells_in t) n k old m b h f g
      → k ≤ n
      → n < length old
      → Turned (lines_in s t) (cells_in t) k b h f g below here from begins link equal falls
      → Closed (lines_in s t) (trip_of t 8) (cells_in t) k f g link m u
      → x ≡ cells_in t k
      → ToldTwo u v equal_mark equal falling_mark falls x
      → Walking (lines_in s t) (trip_of t 8) (cells_in t) n (k + 1) old v below here from begins
  table_turn k old m u v x w high room z c at d =
      walking_turn (lines_in s t) (trips_in s t) (trip_of t 8) (cells_in t) n r.grouped r.whole r.apart (by_record s t) k old m u v _ _ _ _ _ _ _ _ _ _ _ w high room z c x at d

  pub table_end : (k : ℕ) (old m u : List ℕ) {b h f g : ℕ} → n < k → Walking (lines_in s t) (trip_of t 8) (cells_in t) n k old m b h f g
      → Closed (lines_in s t) (trip_of t 8) (cells_in t) (n + 1) f g false m u → Told s t n u × KeptMarks old u
  table_end k old m u past w c = (
    record { equal = λ x a b. (lines x a b).0; falls = λ x a b. (lines x a b).1; paired = λ x a b. (groups x a b).0; opens = λ x a b. (groups x a b).1 },
    d.kept,
  )
    where
      d : Telling (lines_in s t) (trip_of t 8) (cells_in t) n (n + 1) n old u
      d = walking_end (lines_in s t) (trips_in s t) (trip_of t 8) (cells_in t) n r.grouped r.whole r.apart (by_record s t) k old m u _ _ _ _ past w c

      lines : (x : ℕ) → 0 < x → x ≤ n → (marked u equal_mark x ≡ rule28 (lines_in s t) x) × (marked u falling_mark x ≡ rule29 (lines_in s t) n x)
      lines = all_lines (lines_in s t) (trips_in s t) (trip_of t 8) (cells_in t) n r.grouped r.whole r.apart (by_record s t) old u d

      groups : (x : ℕ) → 0 < x → x < length u → (marked u paired_mark x ≡ pairs (trip_of t 8) n x) × (marked u open_mark x ≡ opens (lines_in s t) (trip_of t 8) n x)
      groups = all_trips (lines_in s t) (trips_in s t) (trip_of t 8) (cells_in t) n r.grouped r.whole r.apart (by_record s t) (one_record s t) old u d
