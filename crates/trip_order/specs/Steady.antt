-- Orders in which trips stand together and rise: the file's own, where one walk says so, and one that is sorted.
use Rattle.std.specs.Prelude.{ℕ, zero, suc, ◌+◌, ◌≤◌, ◌<◌, ◌≡◌, List, Bool, true, cond, not, ◌&&◌, eqb, ltb, leb, length}
use Rattle.meaning.specs.Lists.{some}
use Rattle.marks.specs.Marks.{marked, met_mark}
use Rattle.trip_order.specs.Lines.{Lines}

-- line i + 1 goes on with the trip of line i and doesn't fall, or begins a trip that no line before is of
unfoldable pub goes_on : Lines → ℕ → Bool
goes_on L i = cond (ltb 0 i && L.same i (i + 1)) (leb (L.seq i) (L.seq (i + 1))) (not (some (λ j. L.same j (i + 1)) 1 i))

-- each of lines 1 to n does
unfoldable pub steady : Lines → ℕ → Bool
steady L zero = true
steady L (suc i) = let r = steady L i in goes_on L i && r

-- the marks say which trips lines 1 to i are of, the trip of a line being a record
abbrev pub Met : (ℕ → ℕ) → List ℕ → ℕ → Type 0
Met trip m i = (r : ℕ) → r < length m → marked m met_mark r ≡ some (λ j. eqb (trip j) r) 1 i

-- an order by trip, sequence and line
pub record ByTrip (le : ℕ → ℕ → Bool) (L : Lines) : Type 0 where
  pub between : (x y z : ℕ) → le x y ≡ true → le y z ≡ true → L.same x z ≡ true → L.same x y ≡ true
  pub rising : (x y : ℕ) → le x y ≡ true → L.same x y ≡ true → L.seq x ≤ L.seq y
  pub tied : (x y : ℕ) → le x y ≡ true → L.same x y ≡ true → L.seq x ≡ L.seq y → x ≤ y
