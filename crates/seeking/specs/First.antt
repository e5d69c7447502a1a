-- The first record of a table that has an id.
use Rattle.std.specs.Prelude.{ℕ, ◌+◌, ◌*◌, ◌≤◌, ◌<◌, ◌≡◌, List, [], Bool, true, not, ◌&&◌, ℤ, length, get_or, leb}
use Rattle.rows.specs.Cells.{nat_at, bounds_at}
use Rattle.meaning.specs.declared.Bounds.{Bounds}
use Rattle.meaning.specs.Lists.{same, empty}
use Rattle.meaning.specs.Bytes.{part, value}

-- is a place inside a file, and is v the value there
unfoldable pub value_is : List ℕ → List ℕ → Bounds → Bool
value_is s v p = leb p.start p.end && (leb p.end (length s) && same (value (part s p)) v)

-- does record r lie wholly inside a table of this width, and is v the value of its id
unfoldable pub id_is : List ℕ → List ℤ → ℕ → List ℕ → ℕ → Bool
id_is s t width v r = leb ((r + 1) * width) (length t) && value_is s v (bounds_at t (r * width))

-- the same for a reference: an empty one names nothing
unfoldable pub names : List ℕ → List ℤ → ℕ → List ℕ → ℕ → Bool
names s t width v r = not (empty v) && id_is s t width v r

-- r is the first record below count, record 0 aside, of which P holds; 0 where there is none
pub record First (P : ℕ → Bool) (count r : ℕ) : Type 0 where
  pub found : 0 < r → (r < count) × (P r ≡ true)
  pub least : (k : ℕ) → 0 < k → k < count → P k ≡ true → (0 < r) × (r ≤ k)

-- v is the value of the id with which the record at a place begins
pub record IdAt (s : List ℕ) (t : List ℤ) (at : ℕ) (v : List ℕ) : Type 0 where
  pub ordered : nat_at t at ≤ nat_at t (at + 1)
  pub inside : nat_at t (at + 1) ≤ length s
  pub equal : value (part s (bounds_at t at)) ≡ v

-- a table holds ids: record k + 1 has the id at k
pub record Held (s : List ℕ) (t : List ℤ) (width : ℕ) (ids : List (List ℕ)) : Type 0 where
  pub room : (length ids + 1) * width ≤ length t
  pub at : (k : ℕ) → k < length ids → IdAt s t ((k + 1) * width) (get_or ids k [])
