-- The columns of a header and the fields under them, as tables of ten.
use Rattle.std.specs.Prelude.{ℕ, zero, suc, ◌+◌, ◌-◌, ◌≤◌, ◌<◌, ◌≡◌, List, [], ◌∷◌, map, Option, Some, None, Bool, cond, ◌&&◌, length, get_or, set, eqb, ltb}
use Rattle.meaning.specs.declared.Bounds.{Bounds}
use Rattle.meaning.specs.Bytes.{bounds, fields}
use Rattle.meaning.specs.Lists.{some}
use Rattle.meaning.specs.Columns.{column_of, count_of, places, field_at}

-- g from k on, n times, then zeros, w in all
unfoldable pub tab : (ℕ → ℕ) → ℕ → ℕ → ℕ → List ℕ
tab g k n zero = []
tab g k zero (suc w) = 0 ∷ tab g k zero w
tab g k (suc n) (suc w) = g k ∷ tab g (k + 1) n w

-- the column of each known name among a header's values, filled up by 0
unfoldable pub places_of : ℕ → List (List ℕ) → List ℕ
places_of f header = tab (λ k. get_or (places f header) k 0) 0 (count_of f) 10

-- where names stand, one more standing: in column n stands the name of known column k, counted from 1, 0 being none. Its first standing is kept
unfoldable pub firsts_with : List ℕ → ℕ → ℕ → List ℕ
firsts_with at k n = cond (eqb k 0) at (cond (eqb (get_or at (k - 1) 0) 0) (set at (k - 1) n) at)

-- the first standing of any that isn't its name's first, 0 being none, one more standing
unfoldable pub again_with : List ℕ → ℕ → ℕ → ℕ → ℕ
again_with at again k n = cond (eqb k 0) again (cond (eqb (get_or at (k - 1) 0) 0) again (cond (eqb again 0) n again))

-- a column as code tells it, counted from 1; 0 is none
abbrev pub told : ℕ → Option ℕ
told c = cond (eqb c 0) None (Some c)

-- a must-be-present name has no column among these
unfoldable pub lacking : ℕ → List ℕ → Bool
lacking f ps = some (λ k. (column_of f k).must && eqb (get_or ps k 0) 0) 0 (count_of f)

-- a field in place of each of the first n of xs whose column is j
unfoldable pub noted : List ℕ → ℕ → Bounds → ℕ → List Bounds → List Bounds
noted ps j v zero xs = xs
noted [] j v (suc n) xs = xs
noted (p ∷ ps) j v (suc n) [] = []
noted (p ∷ ps) j v (suc n) (x ∷ xs) = cond (eqb p j) v x ∷ noted ps j v n xs

-- where the field in each of these columns lies
unfoldable pub fields_at : List ℕ → List ℕ → List Bounds
fields_at l ps = map (field_at l) ps

-- the field in column p of n fields, by a table of where they start: number 0 has the first, number k the one past field k
unfoldable pub field_by : ℕ → List ℕ → ℕ → Bounds
field_by n t p = cond (eqb p 0) (bounds 0 0) (cond (ltb n p) (bounds 0 0) (bounds (get_or t (p - 1) 0) (get_or t p 0 - 1)))

-- such a table has where the fields of a line start, as far as it goes, which is no further than rule 7 allows
pub record Noted (l t : List ℕ) : Type 0 where
  pub short : length t ≤ 33
  pub first : get_or t 0 0 ≡ 0
  pub past : (k : ℕ) → 0 < k → k ≤ length (fields l) → k < length t → get_or t k 0 ≡ (field_at l k).end + 1
