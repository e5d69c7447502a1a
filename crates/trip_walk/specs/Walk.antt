-- One turn of the walk, and the test of the file's own order.
use Rattle.std.specs.Prelude.{ℕ, ◌+◌, ◌-◌, ◌<◌, ◌≤◌, ◌≡◌, List, Bool, true, false, cond, not, ◌&&◌, ◌||◌, eqb, ltb, leb, ℤ, length}
use Rattle.marks.specs.Marks.{marked, paired_mark, open_mark, met_mark}
use Rattle.ordering.specs.Ids.{trip_of, key_of}
use Rattle.trip_order.specs.Lines.{Lines}
use Rattle.trip_order.specs.Cells.{linked, repeats, next_lower, next_level, next_start, next_run}
use Rattle.trip_walk.specs.Told.{ToldTwo}

-- what is carried on to cell k, and told of its line, from what was carried to the cell before
pub record Turned (L : Lines) (f : ℕ → ℕ) (k b h s r : ℕ) (below here from begins : ℕ) (link equal falls : Bool) : Type 0 where
  pub is_below : below ≡ next_lower L f k b h
  pub is_here : here ≡ next_level L f k h
  pub is_from : from ≡ next_start L f k s
  pub is_begins : begins ≡ next_run L f k r
  pub is_link : link ≡ linked L f k
  pub is_equal_lem : equal ≡ repeats L f k
  pub is_falls : falls ≡ (L.timed (f k) && ltb (L.arr (f k)) (next_lower L f k b h))

-- the group before cell k is told of, where there is one and it has ended: two lines at least, and its first or its last untimed
pub record Closed (L : Lines) (trip f : ℕ → ℕ) (k from begins : ℕ) (link : Bool) (m m' : List ℕ) : Type 0 where
  pub first : k ≤ 1 → m' ≡ m
  pub going : link ≡ true → m' ≡ m
  pub ended : 1 < k → link ≡ false
      → ToldTwo m m' paired_mark (not (eqb from (k - 1))) open_mark (not (L.timed (f from)) || not (L.timed (f begins))) (trip (f (k - 1)))

-- line i + 1 goes on with the trip of line i and doesn't fall, or begins a trip that is not met yet; its trip has a record, and that an entry among the marks
unfoldable pub goes_by : List ℤ → List ℕ → ℕ → Bool
goes_by t m i =
    (ltb 0 (trip_of t 8 (i + 1)) && ltb (trip_of t 8 (i + 1)) (length m))
    && cond (ltb 0 i && eqb (trip_of t 8 i) (trip_of t 8 (i + 1))) (leb (key_of t 8 i) (key_of t 8 (i + 1))) (not (marked m met_mark (trip_of t 8 (i + 1))))
