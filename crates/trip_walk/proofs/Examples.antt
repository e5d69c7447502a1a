-- Seven waiting lines, of which four have trips that stand nowhere: which are of one trip, and what the rules say, computed.
use Prim.Native.Nat.{ℕ}
use mathlib.Core.Path.{◌≡◌, refl}
use mathlib.Core.List.{List, [], ◌∷◌, ◌++◌}
use mathlib.Core.Bool.{Bool, true, false}
use lib.Dec.{eqb}
use lib.IntN.{ℤ, pos, negsuc}
use Rattle.meaning.specs.Lists.{some, same}
use Rattle.meaning.specs.Bytes.{part, value, undouble, content, marked}
use Rattle.ordering.specs.Ids.{trip_of, key_of, stray_id}
use Rattle.trip_order.specs.Lines.{rule28, rule29, rule30, rule31, count, ahead, beyond, is_first, is_last}
use Rattle.trip_order.specs.Steady.{goes_on, steady}
use Rattle.trip_walk.specs.Table.{same_in, timed_in, lines_in}

-- a waiting record: its trip, sequence, arrival and departure, and where its trip_id stands
waits : ℕ → ℕ → ℤ → ℤ → ℕ → ℕ → List ℤ
waits trip sequence arrival departure start end = pos trip ∷ pos 0 ∷ pos sequence ∷ arrival ∷ departure ∷ pos start ∷ pos end ∷ pos 0 ∷ []

-- the trip_ids, one after the other: A "A" B A
file : List ℕ
file = 65 ∷ 34 ∷ 65 ∷ 34 ∷ 66 ∷ 65 ∷ []

-- lines 1, 2 and 4 are of A, line 3 of B; lines 5 to 7 of trip 9, its largest sequence first, and the last of it by sequence not timed
table : List ℤ
table =
    waits 0 0 (pos 0) (pos 0) 0 0
    ++ waits 0 5 (pos 100) (pos 110) 0 1
    ++ waits 0 5 (pos 120) (pos 130) 1 4
    ++ waits 0 5 (pos 100) (pos 110) 4 5
    ++ waits 0 6 (pos 125) (pos 140) 5 6
    ++ waits 9 7 (negsuc 0) (negsuc 0) 0 1
    ++ waits 9 2 (pos 150) (pos 160) 0 1
    ++ waits 9 1 (pos 100) (pos 200) 4 5

seven : (ℕ → Bool) → List Bool
seven P = P 1 ∷ P 2 ∷ P 3 ∷ P 4 ∷ P 5 ∷ P 6 ∷ P 7 ∷ []

-- a mark around a trip_id doesn't matter, and where a trip has a record no trip_id does
of_line_1 : seven (λ x. same_in file table x 1) ≡ true ∷ true ∷ false ∷ true ∷ false ∷ false ∷ false ∷ []
unfolding seven same_in trip_of stray_id file table waits same part value undouble content marked
of_line_1 = refl

of_line_5 : seven (λ x. same_in file table x 5) ≡ false ∷ false ∷ false ∷ false ∷ true ∷ true ∷ true ∷ []
unfolding seven same_in trip_of stray_id file table waits same part value undouble content marked
of_line_5 = refl

-- 28: line 2 alone
breaks28 : seven (rule28 (lines_in file table)) ≡ false ∷ true ∷ false ∷ false ∷ false ∷ false ∷ false ∷ []
unfolding seven rule28 some same_in trip_of key_of stray_id file table waits same part value undouble content marked
breaks28 = refl

-- 29: line 4 arrives before line 2 departs, and line 6 before line 7 does
breaks29 : seven (rule29 (lines_in file table) 7) ≡ false ∷ false ∷ false ∷ true ∷ false ∷ true ∷ false ∷ []
unfolding seven rule29 some same_in timed_in trip_of key_of stray_id file table waits same part value undouble content marked
breaks29 = refl

-- 30 and 31 of trip 9, and of trip 8, which has no line
breaks30 : rule30 7 (λ y. eqb (trip_of table 8 y) 9) ∷ rule30 7 (λ y. eqb (trip_of table 8 y) 8) ∷ [] ≡ false ∷ true ∷ []
unfolding rule30 count trip_of table waits
breaks30 = refl

breaks31 : rule31 (lines_in file table) 7 (λ y. eqb (trip_of table 8 y) 9) ∷ rule31 (lines_in file table) 7 (λ y. eqb (trip_of table 8 y) 8) ∷ [] ≡ true ∷ false ∷ []
unfolding rule31 is_first is_last ahead beyond some same_in timed_in trip_of key_of stray_id file table waits same part value undouble content marked
breaks31 = refl

-- the file's own order will do up to line 3; line 4 comes back to A
orders : steady (lines_in file table) 2 ∷ steady (lines_in file table) 3 ∷ steady (lines_in file table) 4 ∷ [] ≡ true ∷ true ∷ false ∷ []
unfolding steady goes_on some same_in trip_of key_of stray_id file table waits same part value undouble content marked
orders = refl
