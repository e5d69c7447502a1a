-- The first broken rule of an ordered list of tests with its column, and the tests of values one column at a time.
use Rattle.std.specs.Prelude.{ℕ, List, [], ◌∷◌, cond, ltb, Option, Some, None, option_map}
use Rattle.meaning.specs.declared.Need.{Need}
use Rattle.meaning.specs.declared.Column.{Column}
use Rattle.meaning.specs.Refusals.{Test, test, test_at, rule5, rule14, long, blank, formless, leftmost}
use Rattle.reading.specs.declared.Fault.{Fault}

abbrev pub fault : ℕ → ℕ → Fault
fault n c = record { rule = n; column = c }

-- a broken rule that names no column
abbrev pub of_rule : Option ℕ → Option Fault
of_rule r = option_map (λ n. fault n 0) r

-- the first broken one, where one is
unfoldable pub first : List Test → Option Fault
first [] = None
first (t ∷ r) = let k = first r in cond t.broken (Some (fault t.number t.column)) k

-- the tests of a line's bytes, whatever its fields
unfoldable pub byte_tests : List ℕ → List Test
byte_tests l = test 5 (rule5 l) ∷ test 14 (rule14 l) ∷ []

-- rules 11 to 13 of the value under a known column that stands in column p, on a line that may leave so much open
unfoldable pub column_tests : Need → Column → ℕ → List ℕ → List Test
column_tests free c p v =
    test_at 11 (cond (long c v) p 0) ∷ test_at 12 (cond (blank free c v) p 0) ∷ test_at 13 (cond (formless c v) p 0) ∷ []

-- rules 11 to 13 of the values under the first n known columns
unfoldable pub value_tests_to : Need → ℕ → List ℕ → List ℕ → ℕ → List Test
value_tests_to free f ps l n = test_at 11 (leftmost long f ps l n) ∷ test_at 12 (leftmost (blank free) f ps l n) ∷ test_at 13 (leftmost formless f ps l n) ∷ []

-- the fault of the lower rule; of two of one rule the one further left
unfoldable pub earlier_of : Option Fault → Option Fault → Option Fault
earlier_of a None = a
earlier_of None (Some t) = Some t
earlier_of (Some s) (Some t) =
    Some
    (cond (ltb s.rule t.rule) s
    (cond (ltb t.rule s.rule) t
    (cond (ltb t.column s.column) t s)))
