-- Marks of records: a number for each record, a bit of it for each mark.
use Rattle.std.specs.Prelude.{ℕ, ◌/◌, ◌%◌, ◌^◌, ◌<◌, ◌≡◌, List, Bool, true, false, ◌||◌, length, get_or, eqb}

-- has record r mark b
unfoldable pub marked : List ℕ → ℕ → ℕ → Bool
marked m b r = eqb (get_or m r 0 / 2 ^ b % 2) 1

-- no record has a mark
abbrev pub Blank : List ℕ → Type 0
Blank m = (b r : ℕ) → marked m b r ≡ false

-- mark b of record r is set, if it has an entry, and nothing else changes
pub record OneMore (m m' : List ℕ) (b r : ℕ) : Type 0 where
  pub size : length m' ≡ length m
  pub here : r < length m → marked m' b r ≡ true
  pub other : (c q : ℕ) → (c ≡ b → q ≡ r → ⊥) → marked m' c q ≡ marked m c q

-- the same where p holds
pub record MarkedIf (p : Bool) (m m' : List ℕ) (b r : ℕ) : Type 0 where
  pub size : length m' ≡ length m
  pub here : r < length m → marked m' b r ≡ p || marked m b r
  pub other : (c q : ℕ) → (c ≡ b → q ≡ r → p ≡ true → ⊥) → marked m' c q ≡ marked m c q

-- mark f, for files 1 to 4 and 6, is that the id of the line, with its date in file 6, repeats an earlier one of file f; 7, that the stop has a parent; 8, that both names of the route are empty
abbrev pub parent_mark : ℕ
parent_mark = 7

abbrev pub nameless_mark : ℕ
nameless_mark = 8

-- of a line of stop_times: 9, an earlier line of its trip has its sequence; 10, it arrives before a line of its trip with a smaller sequence departs
abbrev pub equal_mark : ℕ
equal_mark = 9

abbrev pub falling_mark : ℕ
falling_mark = 10

-- of a trip: 11, it has two lines at least; 12, its first or its last isn't timed; 13, a walk in file order has come to it
abbrev pub paired_mark : ℕ
paired_mark = 11

abbrev pub open_mark : ℕ
open_mark = 12

abbrev pub met_mark : ℕ
met_mark = 13
