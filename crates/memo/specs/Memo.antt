-- A memo of records.
use Rattle.std.specs.Prelude.{ℕ, ◌+◌, ◌<◌, ◌≤◌, List, ℤ, get_or}
use Rattle.ordering.specs.Ids.{id_of, Placed, Arranged}
use Rattle.seeking.specs.First.{First, id_is}

-- r is none, or the first of n records with its own id
unfoldable pub FirstOfOwn : List ℕ → List ℤ → ℕ → ℕ → ℕ → Type 0
FirstOfOwn s t w n r = 0 < r → First (id_is s t w (id_of s t w r)) (n + 1) r × (r ≤ n)

-- each entry is none, or the first record with its own id
unfoldable pub Known : List ℕ → List ℤ → ℕ → ℕ → List ℕ → Type 0
Known s t w n m = (k : ℕ) → FirstOfOwn s t w n (get_or m k 0)

-- a table of n records in the order of their ids, and a memo of it
pub record Ready (s : List ℕ) (t : List ℤ) (w n : ℕ) (m : List ℕ) : Type 0 where
  pub placed : Placed s t w n
  pub arranged : Arranged s w n t
  pub known : Known s t w n m
