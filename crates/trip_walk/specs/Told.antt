-- What is told by marks: of each line rules 28 and 29, of each trip rules 30 and 31.
use Rattle.std.specs.Prelude.{ℕ, ◌<◌, ◌≤◌, ◌≡◌, List, Bool, false, not, eqb, ℤ, length}
use Rattle.marks.specs.Marks.{marked, equal_mark, falling_mark, paired_mark, open_mark, met_mark}
use Rattle.ordering.specs.Ids.{trip_of}
use Rattle.trip_order.specs.Lines.{rule28, rule29, rule30, rule31}
use Rattle.trip_walk.specs.Table.{lines_in}

-- the marks say which of n lines break 28 and 29, and which trips don't break 30 and do break 31
pub record Told (s : List ℕ) (t : List ℤ) (n : ℕ) (m : List ℕ) : Type 0 where
  pub equal : (x : ℕ) → 0 < x → x ≤ n → marked m equal_mark x ≡ rule28 (lines_in s t) x
  pub falls : (x : ℕ) → 0 < x → x ≤ n → marked m falling_mark x ≡ rule29 (lines_in s t) n x
  pub paired : (r : ℕ) → 0 < r → r < length m → marked m paired_mark r ≡ not (rule30 n (λ y. eqb (trip_of t 8 y) r))
  pub opens : (r : ℕ) → 0 < r → r < length m → marked m open_mark r ≡ rule31 (lines_in s t) n (λ y. eqb (trip_of t 8 y) r)

-- marks 9 to 13 are not set
abbrev pub Untold : List ℕ → Type 0
Untold m = (b r : ℕ) → 9 ≤ b → b ≤ 13 → marked m b r ≡ false

-- as many marks, those below 9 as they were
pub record KeptMarks (m m' : List ℕ) : Type 0 where
  pub size : length m' ≡ length m
  pub below : (b r : ℕ) → b < 9 → marked m' b r ≡ marked m b r

-- of marks that were not set, b of record r is set where p holds, c where q does, and no other changes
pub record ToldTwo (m m' : List ℕ) (b : ℕ) (p : Bool) (c : ℕ) (q : Bool) (r : ℕ) : Type 0 where
  pub size : length m' ≡ length m
  pub first : r < length m → marked m b r ≡ false → marked m' b r ≡ p
  pub second : r < length m → marked m c r ≡ false → marked m' c r ≡ q
  pub other : (d x : ℕ) → (d ≡ b → x ≡ r → ⊥) → (d ≡ c → x ≡ r → ⊥) → marked m' d x ≡ marked m d x

-- no mark but the trips met has changed
pub record OnlyMet (m m' : List ℕ) : Type 0 where
  pub size : length m' ≡ length m
  pub other : (b r : ℕ) → (b ≡ met_mark → ⊥) → marked m' b r ≡ marked m b r
