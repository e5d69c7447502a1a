-- The records of a file ranked by their ids, in cells that hold where the ids begin; and an index while it is written.
use Rattle.std.specs.Prelude.{ℕ, ◌+◌, ◌-◌, ◌≤◌, ◌<◌, ◌≡◌, List, [], ◌∷◌, ℤ, length, get_or}
use Rattle.meaning.specs.Bytes.{count_lf}
use Rattle.ordering.specs.Cells.{cell_at, RoomAt}
use Rattle.ordering.specs.Ids.{in_order, Sorted, Stands, Apart}
use Rattle.ordering.specs.declared.By.TheVariants.{Field}
use Rattle.indexes.specs.declared.version.Version.{Version}
use Rattle.indexes.specs.Index.{number_at, head_length, index_length, entry}
use Rattle.id_places.specs.Places.{id_start}

-- the record whose id begins at a byte
pub record Begins (f : ℕ) (s : List ℕ) (n x : ℕ) : Type 0 where
  pub record_number : ℕ
  pub low : 0 < record_number
  pub high : record_number ≤ n
  pub is : x ≡ id_start f s record_number

-- n cells hold where the ids of the n records begin, each once, in the order of the ids
pub record Ranked (f : ℕ) (s : List ℕ) (n : ℕ) (t : List ℤ) : Type 0 where
  pub count : n + 1 ≡ count_lf s
  pub room : RoomAt 0 1 n t
  pub sorted : Sorted (in_order Field s t 1) (cell_at 0 t 1) n
  pub apart : Apart (cell_at 0 t 1) n
  pub only : (k : ℕ) → 0 < k → k ≤ n → Begins f s n (cell_at 0 t 1 k)
  pub every : (r : ℕ) → 0 < r → r ≤ n → Stands (cell_at 0 t 1) n (id_start f s r)

-- the bytes before the count
abbrev pub start_of : Version → ℕ → List ℕ
start_of v f = 84 ∷ 84 ∷ 88 ∷ v.number ∷ 0 ∷ f ∷ []

-- a number stands at a byte, in so many, and nothing else has changed
pub record Put (w at x : ℕ) (lent b : List ℕ) : Type 0 where
  pub size : length b ≡ length lent
  pub here : number_at w b at ≡ x
  pub below : (i : ℕ) → i < at → get_or b i 0 ≡ get_or lent i 0
  pub above : (i : ℕ) → at + w ≤ i → get_or b i 0 ≡ get_or lent i 0

-- nothing but n entries has changed
pub record Within (v : Version) (n : ℕ) (lent b : List ℕ) : Type 0 where
  pub size : length b ≡ length lent
  pub head : (i : ℕ) → i < head_length v → get_or b i 0 ≡ get_or lent i 0
  pub rest : (i : ℕ) → index_length v n ≤ i → get_or b i 0 ≡ get_or lent i 0

-- record r stands in the entry whose cell holds byte x, and no other entry has changed
pub record Entry (v : Version) (n x r : ℕ) (t : List ℤ) (lent b : List ℕ) : Type 0 where
  pub at : ℕ
  pub low : 0 < at
  pub high : at ≤ n
  pub is : cell_at 0 t 1 at ≡ x
  pub here : entry v b (at - 1) ≡ r
  pub others : (k : ℕ) → 0 < k → (k ≡ at → ⊥) → entry v b (k - 1) ≡ entry v lent (k - 1)
  pub within : Within v n lent b

-- records below r stand in the entries of their cells
abbrev pub Entered : Version → ℕ → List ℕ → ℕ → ℕ → List ℤ → List ℕ → Type 0
Entered v f s n r t b = (j k : ℕ) → 0 < j → j < r → 0 < k → k ≤ n → cell_at 0 t 1 k ≡ id_start f s j → entry v b (k - 1) ≡ j
