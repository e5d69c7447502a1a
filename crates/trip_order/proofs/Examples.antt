-- Two trips whose lines stand out of order: the rules, and what the walk carries, computed.
use Prim.Native.Nat.{ℕ}
use mathlib.Core.Path.{◌≡◌, refl}
use mathlib.Core.List.{List, [], ◌∷◌}
use mathlib.Core.Bool.{Bool, true, false}
use lib.Dec.{eqb, ltb}
use lib.ListN.{get_or}
use Rattle.meaning.specs.Lists.{some}
use Rattle.trip_order.specs.Lines.{Lines, rule28, rule29, rule30, rule31, count, ahead, beyond, is_first, is_last}
use Rattle.trip_order.specs.Cells.{linked, repeats, ends, leaves, next_level, next_lower, next_start, next_run}
use Rattle.trip_order.specs.Steady.{goes_on, steady}

abbrev at : List ℕ → ℕ → ℕ
at l i = get_or l i 0

-- lines 1 to 6; trip 7 has 1 (5), 3 (2), 4 (5), 6 (9); trip 8 has 2 (1), 5 (3): sequences in brackets; line 6 is not timed, and line 1 arrives before line 3 departs
abbrev six : Lines
six = record {
  same = λ i j. eqb (at (0 ∷ 7 ∷ 8 ∷ 7 ∷ 7 ∷ 8 ∷ 7 ∷ []) i) (at (0 ∷ 7 ∷ 8 ∷ 7 ∷ 7 ∷ 8 ∷ 7 ∷ []) j);
  seq = at (0 ∷ 5 ∷ 1 ∷ 2 ∷ 5 ∷ 3 ∷ 9 ∷ []);
  timed = λ i. ltb 0 (at (0 ∷ 1 ∷ 1 ∷ 1 ∷ 1 ∷ 1 ∷ 0 ∷ []) i);
  arr = at (0 ∷ 100 ∷ 100 ∷ 150 ∷ 170 ∷ 120 ∷ 0 ∷ []);
  dep = at (0 ∷ 110 ∷ 110 ∷ 160 ∷ 180 ∷ 130 ∷ 0 ∷ []);
}

-- cells: 3 1 4 6, 2 5
abbrev order : ℕ → ℕ
order = at (0 ∷ 3 ∷ 1 ∷ 4 ∷ 6 ∷ 2 ∷ 5 ∷ [])

abbrev list6 : (ℕ → Bool) → List Bool
list6 P = P 1 ∷ P 2 ∷ P 3 ∷ P 4 ∷ P 5 ∷ P 6 ∷ []

-- 28: line 4 alone, since the later of two lines with one sequence breaks it
breaks28 : list6 (rule28 six) ≡ false ∷ false ∷ false ∷ true ∷ false ∷ false ∷ []
unfolding rule28 some
breaks28 = refl

-- 29: line 1 alone, though the line that departs too late stands after it in the file; line 4 is of the same sequence as 1
breaks29 : list6 (rule29 six 6) ≡ true ∷ false ∷ false ∷ false ∷ false ∷ false ∷ []
unfolding rule29 some
breaks29 = refl

-- any line of a smaller sequence, not the nearest: line 3 arrives after line 2 departs, but before line 1 does
abbrev three : Lines
three = record { same = λ i j. true; seq = λ i. i; timed = λ i. true; arr = at (0 ∷ 100 ∷ 120 ∷ 200 ∷ []); dep = at (0 ∷ 500 ∷ 130 ∷ 210 ∷ []) }

any_smaller : rule29 three 3 1 ∷ rule29 three 3 2 ∷ rule29 three 3 3 ∷ [] ≡ false ∷ true ∷ true ∷ []
unfolding rule29 some
any_smaller = refl

greatest_carried : next_lower three (λ k. k) 3 500 130 ≡ 500
unfolding next_lower linked repeats
greatest_carried = refl

-- what is carried to cell 2, a larger sequence; to cell 3, the same one; to cell 4, a larger one; to cell 5, another trip: the greatest departure of smaller sequences
carried : next_lower six order 2 0 160 ∷ next_lower six order 3 160 110 ∷ next_lower six order 4 160 180 ∷ next_lower six order 5 180 0 ∷ [] ≡ 160 ∷ 160 ∷ 180 ∷ 0 ∷ []
unfolding next_lower linked repeats
carried = refl

-- to cell 3, the greatest departure of its sequence; and the first cell of its run, and of the next
levels : next_level six order 3 110 ∷ next_run six order 3 2 ∷ next_run six order 4 2 ∷ [] ≡ 180 ∷ 2 ∷ 4 ∷ []
unfolding next_level next_run linked repeats leaves
levels = refl

-- the first cell of the group, which ends with cell 4
starts : next_start six order 4 1 ∷ next_start six order 5 1 ∷ [] ≡ 1 ∷ 5 ∷ []
unfolding next_start linked
starts = refl

ends_there : ends six order 6 3 ∷ ends six order 6 4 ∷ ends six order 6 6 ∷ [] ≡ false ∷ true ∷ true ∷ []
unfolding ends linked
ends_there = refl

-- 31: the last line of trip 7, line 6, isn't timed; the first and the last of trip 8 are
breaks31 : rule31 six 6 (λ x. six.same x 1) ∷ rule31 six 6 (λ x. six.same x 2) ∷ [] ≡ true ∷ false ∷ []
unfolding rule31 is_first is_last ahead beyond some
breaks31 = refl

-- of two lines with the largest sequence the earlier is the last one
abbrev tied : Lines
tied = record { same = λ i j. true; seq = at (0 ∷ 5 ∷ 9 ∷ 9 ∷ []); timed = λ i. ltb i 3; arr = λ i. i; dep = λ i. i }

last_tied : is_last tied 3 (λ x. true) 2 ∷ is_last tied 3 (λ x. true) 3 ∷ rule31 tied 3 (λ x. true) ∷ [] ≡ true ∷ false ∷ false ∷ []
unfolding rule31 is_first is_last ahead beyond some
last_tied = refl

-- 30
breaks30 : rule30 6 (λ x. eqb x 2) ∷ rule30 6 (λ x. six.same x 2) ∷ rule30 6 (λ x. false) ∷ [] ≡ true ∷ false ∷ true ∷ []
unfolding rule30 count
breaks30 = refl

-- the file's own order will not do for the six, and will for the three
orders : steady six 6 ∷ steady tied 3 ∷ [] ≡ false ∷ true ∷ []
unfolding steady goes_on some
orders = refl
