-- An ordered list of tests: the first that is broken, and its column.
use mathlib.Core.Path.{◌≡◌, refl, ap, ◌∙◌}
use mathlib.Core.Bool.{Bool, true, false, cond, not}
use mathlib.Core.List.{List, [], ◌∷◌, ◌++◌}
use Prim.Native.Nat.{ℕ, ◌+◌, ◌<◌}
use native.Mathlib.Omega.{arith}
use native.Mathlib.Decide.{ℕ_discrete}
use native.Mathlib.Numerals.{add-one}
use lib.Dec.{ltb, eqb}
use lib.ListN.{get_or}
use borrow.Author.Tests.{eq-eqb, ne_eqb, lt-ltb, le-ltb}
use Rattle.std.specs.Prelude.{Option, Some, None}
use Rattle.meaning.specs.declared.Need.{Need}
use Rattle.meaning.specs.declared.Column.{Column}
use Rattle.meaning.specs.Lists.{lesser, least}
use Rattle.meaning.specs.Columns.{column_of, count_of, cell, row_of}
use Rattle.meaning.specs.Refusals.{Test, test, test_at, rule11, rule12, rule13, slack, long, blank, formless, leftmost, value_tests}
use Rattle.reading.specs.declared.Fault.{Fault}
use Rattle.reading.specs.Tests.{fault, first, column_tests, value_tests_to, earlier_of}

-- one test at a time
pub first_yes : (n : ℕ) (b : Bool) (r : List Test) → b ≡ true → Some (fault n 0) ≡ first (test n b ∷ r)
unfolding first
first_yes n b r e = rw e

pub first_no : (n : ℕ) (b : Bool) (r : List Test) → b ≡ false → (k : Option Fault) → k ≡ first r → k ≡ first (test n b ∷ r)
unfolding first
first_no n b r e k h = rw e h

pub first_none : None ≡ first []
unfolding first
first_none = refl

-- one that names a column
pub column_yes : (n c : ℕ) (r : List Test) → (c ≡ 0 → ⊥) → Some (fault n c) ≡ first (test_at n c ∷ r)
unfolding first
column_yes n c r z = rw (ne_eqb c 0 z)

pub column_no : (n c : ℕ) (r : List Test) → c ≡ 0 → (k : Option Fault) → k ≡ first r → k ≡ first (test_at n c ∷ r)
unfolding first
column_no n c r z k h = rw (eq-eqb c 0 z) h

-- and of a value, by what a rule says of it
pub value_yes : (n p : ℕ) (b : Bool) (r : List Test) → (p ≡ 0 → ⊥) → b ≡ true → Some (fault n p) ≡ first (test_at n (cond b p 0) ∷ r)
value_yes n p b r z e = rw e (column_yes n p r z)

pub value_no : (n p : ℕ) (b : Bool) (r : List Test) → b ≡ false → (k : Option Fault) → k ≡ first r → k ≡ first (test_at n (cond b p 0) ∷ r)
value_no n p b r e k h = rw e (column_no n 0 r refl k h)

-- an absent column breaks no rule
pub value_absent : (free : Need) (c : Column) (p : ℕ) (v : List ℕ) → p ≡ 0 → None ≡ first (column_tests free c p v)
unfolding column_tests
value_absent free c p v z =
    column_no 11 _ _ (none (long c v)) _ (column_no 12 _ _ (none (blank free c v)) _ (column_no 13 _ _ (none (formless c v)) _ first_none))
  where
    none : (b : Bool) → cond b p 0 ≡ 0
    none true = z
    none false = refl

-- two lists of tests, one after the other
pub first_then : (a b : List Test) (k : Option Fault) → None ≡ first a → k ≡ first b → k ≡ first (a ++ b)
unfolding first
first_then [] b k e h = h
first_then (t ∷ a) b k e h = go t.broken refl (first_then a b k)
  where
    go : (u : Bool) → t.broken ≡ u → (None ≡ first a → k ≡ first b → k ≡ first (a ++ b)) → k ≡ first (t ∷ (a ++ b))
    go true q ih =
        let y : None ≡ Some (fault t.number t.column) = rw q at e in
        let z : ◌≡◌ {A = ℕ} 0 1 = cc in
        absurd (omega arith)
    go false q ih = rw q (ih (rw q at e) h)

pub first_stop : (a b : List Test) (t : Fault) → Some t ≡ first a → Some t ≡ first (a ++ b)
unfolding first
first_stop [] b t e = let z : ◌≡◌ {A = ℕ} 0 1 = cc in absurd (omega arith)
first_stop (u ∷ a) b t e = go u.broken refl (first_stop a b t)
  where
    go : (c : Bool) → u.broken ≡ c → (Some t ≡ first a → Some t ≡ first (a ++ b)) → Some t ≡ first (u ∷ (a ++ b))
    go true q ih = rw q (rw q at e)
    go false q ih = rw q (ih (rw q at e))

-- no fault, or one of a rule after n
abbrev After : ℕ → Option Fault → Type 0
After n None = Unit
After n (Some t) = n < t.rule

-- rule n in column a, or else a later rule
abbrev or_later : ℕ → ℕ → Option Fault → Option Fault
or_later n a k = cond (not (eqb a 0)) (Some (fault n a)) k

after_later : (n m a : ℕ) (k : Option Fault) → n < m → After n k → After n (or_later m a k)
after_later n m a k h r = go (eqb a 0)
  where
    go : (t : Bool) → After n (cond (not t) (Some (fault m a)) k)
    go true = r
    go false = h

-- two faults, where rule n may be broken in column a and in column x: it speaks in the one further left
earlier_both : (n a x : ℕ) (k q : Option Fault) → After n k → After n q → earlier_of (or_later n a k) (or_later n x q) ≡ or_later n (lesser a x) (earlier_of k q)
unfolding earlier_of lesser
earlier_both n a x k q after afters = go (ℕ_discrete a 0) (ℕ_discrete x 0)
  where
    left : (k : Option Fault) → After n k → earlier_of k (Some (fault n x)) ≡ Some (fault n x)
    left None h = refl
    left (Some t) h = rw (le-ltb t.rule n (omega arith), lt-ltb n t.rule h)

    right : (q : Option Fault) → After n q → earlier_of (Some (fault n a)) q ≡ Some (fault n a)
    right None h = refl
    right (Some t) h = rw (lt-ltb n t.rule h)

    level : (t : Bool) → ltb x a ≡ t → (a ≡ 0 → ⊥) → (x ≡ 0 → ⊥) → Some (cond t (fault n x) (fault n a)) ≡ or_later n (cond t x a) (earlier_of k q)
    level true e y z = rw (ne_eqb x 0 z)
    level false e y z = rw (ne_eqb a 0 y)

    go : Dec (a ≡ 0) → Dec (x ≡ 0) → earlier_of (or_later n a k) (or_later n x q) ≡ or_later n (lesser a x) (earlier_of k q)
    go (yes y) (yes z) = rw (eq-eqb a 0 y, eq-eqb x 0 z)
    go (yes y) (no z) = rw (eq-eqb a 0 y, ne_eqb x 0 z) (left k after)
    go (no y) (yes z) = rw (ne_eqb a 0 y, eq-eqb x 0 z, ne_eqb a 0 y) (right q afters)
    go (no y) (no z) = rw (ne_eqb a 0 y, ne_eqb x 0 z, le-ltb n n (omega arith)) (level (ltb x a) refl y z)

-- the first of three over two parts
abbrev three : ℕ → ℕ → ℕ → Option Fault
three a b d = first (test_at 11 a ∷ test_at 12 b ∷ test_at 13 d ∷ [])

none_both : earlier_of None None ≡ None
unfolding earlier_of
none_both = refl

three_both : (a b d x y z : ℕ) → earlier_of (three a b d) (three x y z) ≡ three (lesser a x) (lesser b y) (lesser d z)
unfolding first
three_both a b d x y z =
    earlier_both 11 a x _ _ (late b d) (late y z)
    ∙ ap (or_later 11 (lesser a x))
    (earlier_both 12 b y _ _ (last d) (last z)
    ∙ ap (or_later 12 (lesser b y)) (earlier_both 13 d z None None tt tt ∙ ap (or_later 13 (lesser d z)) none_both))
  where
    last : (d : ℕ) → After 12 (or_later 13 d None)
    last d = after_later 12 13 d None (omega arith) tt

    late : (b d : ℕ) → After 11 (or_later 12 b (or_later 13 d None))
    late b d = after_later 11 12 b _ (omega arith) (after_later 11 13 d None (omega arith) tt)

-- a turn along the known columns
module _ (free : Need) (f : ℕ) (ps l : List ℕ) where
  pub row_none : None ≡ first (value_tests_to free f ps l 0)
  unfolding value_tests_to leftmost least first
  row_none = refl

  leftmost_more : (P : Column → List ℕ → Bool) (k : ℕ) → leftmost P f ps l (k + 1) ≡ lesser (leftmost P f ps l k) (cond (P (column_of f k) (cell l (get_or ps k 0))) (get_or ps k 0) 0)
  unfolding leftmost least
  leftmost_more P k = rw (add-one k)

  pub row_turn : (k : ℕ) (w j m : Option Fault) → w ≡ first (value_tests_to free f ps l k) → (c : Column) → c ≡ column_of f k → (v : List ℕ) → v ≡ cell l (get_or ps k 0)
      → j ≡ first (column_tests free c (get_or ps k 0) v) → m ≡ earlier_of w j → m ≡ first (value_tests_to free f ps l (k + 1))
  unfolding value_tests_to column_tests
  row_turn k w j m e c x v y p q =
      rw (leftmost_more long k, leftmost_more (blank free) k, leftmost_more formless k, q, e, p, x, y)
      (three_both _ _ _ _ _ _)

  pub row_end : (k : ℕ) (w : Option Fault) → w ≡ first (value_tests_to free f ps l k) → k ≡ count_of f → free ≡ slack f (row_of ps l) → w ≡ first (value_tests f ps l)
  unfolding value_tests_to value_tests rule11 rule12 rule13
  row_end k w e p s = rw (← p, ← s) e
