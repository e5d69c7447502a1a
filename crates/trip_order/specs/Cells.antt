-- An order of lines, kept in cells 1 to n, in which the lines of a trip stand together and rise; and what a walk along the cells carries.
use Rattle.std.specs.Prelude.{ℕ, ◌+◌, ◌-◌, ◌≤◌, ◌<◌, ◌≡◌, Bool, true, cond, not, ◌&&◌, eqb, ltb}
use Rattle.trip_order.specs.Lines.{Lines}

pub record Grouped (L : Lines) (f : ℕ → ℕ) (n : ℕ) : Type 0 where
  pub together : (a b c : ℕ) → 0 < a → a ≤ b → b ≤ c → c ≤ n → L.same (f a) (f c) ≡ true → L.same (f a) (f b) ≡ true
  pub rising : (a b : ℕ) → 0 < a → a < b → b ≤ n → L.same (f a) (f b) ≡ true → L.seq (f a) ≤ L.seq (f b)
  pub tied : (a b : ℕ) → 0 < a → a < b → b ≤ n → L.same (f a) (f b) ≡ true → L.seq (f a) ≡ L.seq (f b) → f a < f b

-- the line in cell k is of the trip of the one before
unfoldable pub linked : Lines → (ℕ → ℕ) → ℕ → Bool
linked L f k = ltb 1 k && L.same (f (k - 1)) (f k)

-- and has its sequence too
unfoldable pub repeats : Lines → (ℕ → ℕ) → ℕ → Bool
repeats L f k = linked L f k && eqb (L.seq (f (k - 1))) (L.seq (f k))

-- the group of cell k ends there
unfoldable pub ends : Lines → (ℕ → ℕ) → ℕ → ℕ → Bool
ends L f n k = not (ltb k n && linked L f (k + 1))

-- the departure of a timed line, 0 for another
unfoldable pub leaves : Lines → ℕ → ℕ
leaves L i = cond (L.timed i) (L.dep i) 0

abbrev pub larger : ℕ → ℕ → ℕ
larger a b = cond (ltb a b) b a

-- What a walk carries on to cell k, from what it carried to the cell before:
-- the greatest departure in the group so far, of the sequence of cell k
unfoldable pub next_level : Lines → (ℕ → ℕ) → ℕ → ℕ → ℕ
next_level L f k here = cond (repeats L f k) (larger here (leaves L (f k))) (leaves L (f k))

-- and of smaller sequences
unfoldable pub next_lower : Lines → (ℕ → ℕ) → ℕ → ℕ → ℕ → ℕ
next_lower L f k below here = cond (linked L f k) (cond (repeats L f k) below (larger below here)) 0

-- the first cell of the group
unfoldable pub next_start : Lines → (ℕ → ℕ) → ℕ → ℕ → ℕ
next_start L f k from = cond (linked L f k) from k

-- the first cell of the run of equal sequences
unfoldable pub next_run : Lines → (ℕ → ℕ) → ℕ → ℕ → ℕ
next_run L f k begins = cond (repeats L f k) begins k

-- cell a is of the group of cell k, not past it, and of its sequence
pub record Level (L : Lines) (f : ℕ → ℕ) (k a : ℕ) : Type 0 where
  pub low : 0 < a
  pub high : a ≤ k
  pub trip : L.same (f a) (f k) ≡ true
  pub even : L.seq (f a) ≡ L.seq (f k)

-- or of a smaller sequence
pub record Lower (L : Lines) (f : ℕ → ℕ) (k a : ℕ) : Type 0 where
  pub low : 0 < a
  pub high : a ≤ k
  pub trip : L.same (f a) (f k) ≡ true
  pub less : L.seq (f a) < L.seq (f k)

-- m is the greatest v of those of which P holds, 0 where there is none
pub record Reached (P : ℕ → Type 0) (v : ℕ → ℕ) (m : ℕ) : Type 0 where
  pub place : ℕ
  pub holds : P place
  pub is : v place ≡ m

pub record Greatest (P : ℕ → Type 0) (v : ℕ → ℕ) (m : ℕ) : Type 0 where
  pub bound : (a : ℕ) → P a → v a ≤ m
  pub reached : 0 < m → Reached P v m

-- what a walk carries once it has seen cell k
pub record Walked (L : Lines) (f : ℕ → ℕ) (k : ℕ) (below here from begins : ℕ) : Type 0 where
  pub less : Greatest (Lower L f k) (λ a. leaves L (f a)) below
  pub even : Greatest (Level L f k) (λ a. leaves L (f a)) here
  pub low : 0 < from
  pub high : begins ≤ k
  pub order : from ≤ begins
  pub trip : (a : ℕ) → from ≤ a → a ≤ k → L.same (f a) (f k) ≡ true
  pub first : (a : ℕ) → 0 < a → a ≤ k → L.same (f a) (f k) ≡ true → from ≤ a
  pub equal : L.seq (f begins) ≡ L.seq (f k)
  pub least : (a : ℕ) → Level L f k a → begins ≤ a
