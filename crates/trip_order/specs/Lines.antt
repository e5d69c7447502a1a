-- The lines 1 to n of stop_times, as far as rules 28 to 31 look at them, and those rules.
use Rattle.std.specs.Prelude.{ℕ, zero, suc, ◌+◌, ◌-◌, ◌≡◌, Bool, true, cond, not, ◌&&◌, ◌||◌, eqb, ltb}
use Rattle.meaning.specs.Lists.{some}

pub record Lines : Type 0 where
  pub same : ℕ → ℕ → Bool
  pub seq : ℕ → ℕ
  pub timed : ℕ → Bool
  pub arr : ℕ → ℕ
  pub dep : ℕ → ℕ

-- "of one trip" is an equivalence
pub record Trips (L : Lines) : Type 0 where
  pub self : (i : ℕ) → L.same i i ≡ true
  pub turn : (i j : ℕ) → L.same i j ≡ true → L.same j i ≡ true
  pub join : (i j k : ℕ) → L.same i j ≡ true → L.same j k ≡ true → L.same i k ≡ true

-- 28: an earlier line of the same trip has the same sequence
unfoldable pub rule28 : Lines → ℕ → Bool
rule28 L i = some (λ j. L.same j i && eqb (L.seq j) (L.seq i)) 1 (i - 1)

-- 29: some timed line of the same trip with a smaller sequence departs after this timed line arrives
unfoldable pub rule29 : Lines → ℕ → ℕ → Bool
rule29 L n i = L.timed i && some (λ j. L.same j i && (L.timed j && (ltb (L.seq j) (L.seq i) && ltb (L.arr i) (L.dep j)))) 1 n

-- Of a trip, T says which lines are its own.

-- how many of lines 1 to n
unfoldable pub count : (ℕ → Bool) → ℕ → ℕ
count T zero = 0
count T (suc n) = let k = count T n in cond (T (suc n)) (k + 1) k

-- a smaller sequence, or the same on an earlier line
unfoldable pub ahead : Lines → ℕ → ℕ → Bool
ahead L y x = ltb (L.seq y) (L.seq x) || (eqb (L.seq y) (L.seq x) && ltb y x)

-- a larger sequence, or the same on an earlier line
unfoldable pub beyond : Lines → ℕ → ℕ → Bool
beyond L y x = ltb (L.seq x) (L.seq y) || (eqb (L.seq y) (L.seq x) && ltb y x)

unfoldable pub is_first : Lines → ℕ → (ℕ → Bool) → ℕ → Bool
is_first L n T x = T x && not (some (λ y. T y && ahead L y x) 1 n)

unfoldable pub is_last : Lines → ℕ → (ℕ → Bool) → ℕ → Bool
is_last L n T x = T x && not (some (λ y. T y && beyond L y x) 1 n)

-- 30: fewer than two lines
unfoldable pub rule30 : ℕ → (ℕ → Bool) → Bool
rule30 n T = ltb (count T n) 2

-- 31: the first or the last isn't timed; not with none
unfoldable pub rule31 : Lines → ℕ → (ℕ → Bool) → Bool
rule31 L n T = some (λ x. is_first L n T x && not (L.timed x)) 1 n || some (λ x. is_last L n T x && not (L.timed x)) 1 n
