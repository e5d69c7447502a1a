-- Records that are alike to an earlier one, by an order.
use Rattle.std.specs.Prelude.{ℕ, ◌+◌, ◌-◌, ◌≤◌, ◌<◌, ◌≡◌, Bool, false, ◌&&◌, List, ltb, ℤ, length}
use Rattle.meaning.specs.Lists.{some}
use Rattle.marks.specs.Marks.{marked}
use Rattle.ordering.specs.declared.By.{By}
use Rattle.ordering.specs.Ids.{alike}

-- is the record in cell k alike to the one in the cell before it
unfoldable pub linked : (ℕ → ℕ → Bool) → (ℕ → ℕ) → ℕ → Bool
linked like f k = ltb 1 k && like (f (k - 1)) (f k)

-- no record from 1 to n has mark f
abbrev pub Unmarked : ℕ → ℕ → List ℕ → Type 0
Unmarked n f m = (r : ℕ) → 0 < r → r ≤ n → marked m f r ≡ false

-- mark f of n records says which are alike to an earlier one, and no other mark has changed
pub record Marking (by : By) (s : List ℕ) (t : List ℤ) (w n f : ℕ) (m m' : List ℕ) : Type 0 where
  pub size : length m' ≡ length m
  pub told : n < length m → Unmarked n f m → (i : ℕ) → i < n → marked m' f (i + 1) ≡ some (λ j. alike by s t w (j + 1) (i + 1)) 0 i
  pub other : (b r : ℕ) → (b ≡ f → 0 < r → r ≤ n → ⊥) → marked m' b r ≡ marked m b r
