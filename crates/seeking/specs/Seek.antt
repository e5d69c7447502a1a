-- The place of a value in a sorted order.
use Rattle.std.specs.Prelude.{ℕ, ◌+◌, ◌<◌, ◌≤◌, ◌≡◌, true, false, List}
use Rattle.ranking.specs.Ranks.{before}

-- the ids in cells below r come before v, the others up to n don't
pub record Lower (id : ℕ → List ℕ) (f : ℕ → ℕ) (n : ℕ) (v : List ℕ) (r : ℕ) : Type 0 where
  pub low : 0 < r
  pub high : r ≤ n + 1
  pub under : (k : ℕ) → 0 < k → k < r → before (id (f k)) v ≡ true
  pub above : (k : ℕ) → r ≤ k → k ≤ n → before (id (f k)) v ≡ false
