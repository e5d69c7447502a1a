-- Rules 5 to 14 on a line: what the callees say of each test.
use mathlib.Core.Path.{◌≡◌, refl, sym, ap, ◌∙◌}
use mathlib.Core.Bool.{Bool, true, false, cond, not, ◌&&◌}
use mathlib.Core.List.{List, []}
use Prim.Native.Nat.{ℕ, zero, suc, ◌+◌, ◌≤◌, ◌<◌}
use native.Mathlib.Omega.{arith}
use lib.Dec.{ltb, eqb}
use lib.ListN.{length, get_or}
use borrow.Author.Tests.{eq-eqb, ne_eqb, lt-ltb, le-ltb}
use Rattle.meaning.specs.declared.Need.{Need}
use Rattle.meaning.specs.declared.Need.TheVariants.{Never, AllButInner, AllButPlaceless, Always}
use Rattle.meaning.specs.contracts.NeedPartialOrd.TheImpl.{partial_cmp-value}
use Rattle.std.specs.Ordering.{partial_lt}
use Rattle.meaning.specs.declared.Column.{Column}
use Rattle.meaning.specs.Lists.{empty, least}
use Rattle.text.specs.Fields.{up_to33}
use Rattle.text.proofs.Spans.{up_exact, up_over}
use Rattle.meaning.specs.Bytes.{good, fields}
use Rattle.meaning.specs.Columns.{Row, rank, column_of, count_of, cell, row_of}
use Rattle.meaning.specs.Forms.{shape}
use Rattle.meaning.specs.Tables.{kind_of, inner, placed}
use Rattle.meaning.specs.Refusals.{rule6, rule7, rule10, rule11, rule12, rule13, slack, long, blank, formless, leftmost, value_tests, line_tests}
use Rattle.meaning.proofs.Columns.{row_at}

-- the order of needs in code is that of their ranks
pub need_less : (a b : Need) → partial_lt partial_cmp-value.it a b ≡ ltb (rank a) (rank b)
need_less Never Never = refl
need_less Never AllButInner = refl
need_less Never AllButPlaceless = refl
need_less Never Always = refl
need_less AllButInner Never = refl
need_less AllButInner AllButInner = refl
need_less AllButInner AllButPlaceless = refl
need_less AllButInner Always = refl
need_less AllButPlaceless Never = refl
need_less AllButPlaceless AllButInner = refl
need_less AllButPlaceless AllButPlaceless = refl
need_less AllButPlaceless Always = refl
need_less Always Never = refl
need_less Always AllButInner = refl
need_less Always AllButPlaceless = refl
need_less Always Always = refl

-- a value of n bytes under a column
module _ (c : Column) (v : List ℕ) (n : ℕ) (e : n ≡ length v) where
  pub long_is : (t u : Bool) → t ≡ (c.ident && ltb 64 n) → t ≡ u → long c v ≡ u
  unfolding long
  long_is t u p q = rw (← e, ← p) q

  pub blank_empty : (free : Need) → n ≡ 0 → (u : Bool) → ltb (rank free) (rank c.need) ≡ u → blank free c v ≡ u
  unfolding blank empty
  blank_empty free z true p = rw (← e, z, p)
  blank_empty free z false p = rw p

  pub formless_empty : n ≡ 0 → formless c v ≡ false
  unfolding formless empty
  formless_empty z = rw (← e, z)

  pub blank_full : (free : Need) → (n ≡ 0 → ⊥) → blank free c v ≡ false
  unfolding blank empty
  blank_full free z = rw (← e, ne_eqb n 0 z) (go (ltb (rank free) (rank c.need)))
    where
      go : (b : Bool) → (b && false) ≡ false
      go true = refl
      go false = refl

  pub formless_full : (n ≡ 0 → ⊥) → (t u : Bool) → t ≡ shape c.form v → t ≡ u → formless c v ≡ not u
  unfolding formless empty
  formless_full z t u p q = rw (← e, ne_eqb n 0 z, ← p, q)

-- what a line may leave open: nothing in another file, nothing on a line of another type, and else by whether it has a place
module _ (f : ℕ) (r : Row) where
  pub other_file_lem : (f ≡ 1 → ⊥) → Never ≡ slack f r
  unfolding slack
  other_file_lem h = rw (ne_eqb f 1 h)

  pub other_type : (n : ℕ) → n ≡ kind_of r → n ≤ 2 → Never ≡ slack f r
  unfolding slack inner
  other_type n e h = rw (← e, le-ltb 2 n h) (go (eqb f 1))
    where
      go : (b : Bool) → ◌≡◌ {A = Need} Never (cond (b && false) (cond (placed r) AllButInner AllButPlaceless) Never)
      go true = refl
      go false = refl

  pub by_place : (n : ℕ) → f ≡ 1 → n ≡ kind_of r → 2 < n → (b : Bool) → b ≡ placed r → cond b AllButInner AllButPlaceless ≡ slack f r
  unfolding slack inner
  by_place n z e h b q = rw (← e, ← q, eq-eqb f 1 z, lt-ltb 2 n h)

-- rules 6, 7 and 10 by what a walk along the line told
module _ (l : List ℕ) where
  pub bad_is : (g u : Bool) → g ≡ good l → not g ≡ u → rule6 l ≡ u
  unfolding rule6
  bad_is g u p q = rw (← p, q)

  module _ (n : ℕ) (e : n ≡ up_to33 (length (fields l))) where
    pub many_yes : 32 < n → rule7 l ≡ true
    unfolding rule7
    many_yes h = lt-ltb 32 (length (fields l)) (up_over (length (fields l)) n e h)

    pub many_no : n ≤ 32 → rule7 l ≡ false
    unfolding rule7
    many_no h = rw (← up_exact (length (fields l)) n e (omega arith)) (le-ltb 32 n h)

  module _ (n : ℕ) (e : n ≡ length (fields l)) where
    pub other_yes : (k : ℕ) → (n ≡ k → ⊥) → rule10 k l ≡ true
    unfolding rule10
    other_yes k h = rw (← e, ne_eqb n k h)

    pub other_no : (k : ℕ) → n ≡ k → rule10 k l ≡ false
    unfolding rule10
    other_no k h = rw (← e, eq-eqb n k h)

-- two tables that read alike give the same tests of a line
module _ (ps qs : List ℕ) (alike : (k : ℕ) → get_or ps k 0 ≡ get_or qs k 0) where
  least_same : (g h : ℕ → ℕ) → ((k : ℕ) → g k ≡ h k) → (n : ℕ) → least g n ≡ least h n
  unfolding least
  least_same g h e zero = refl
  least_same g h e (suc n) = rw (e n, least_same g h e n)

  leftmost_same : (P : Column → List ℕ → Bool) (f : ℕ) (l : List ℕ) (n : ℕ) → leftmost P f ps l n ≡ leftmost P f qs l n
  unfolding leftmost
  leftmost_same P f l n = least_same _ _ (λ k. ap (λ (p : ℕ). cond (P (column_of f k) (cell l p)) p 0) (alike k)) n

  row_same : (l : List ℕ) (k : ℕ) → get_or (row_of ps l) k [] ≡ get_or (row_of qs l) k []
  row_same l k = row_at ps l k ∙ ap (cell l) (alike k) ∙ sym (row_at qs l k)

  slack_same : (f : ℕ) (l : List ℕ) → slack f (row_of ps l) ≡ slack f (row_of qs l)
  unfolding slack inner placed kind_of
  slack_same f l = rw (row_same l 4, row_same l 2, row_same l 3)

  pub line_same : (f count : ℕ) (l : List ℕ) → line_tests f ps count l ≡ line_tests f qs count l
  unfolding line_tests value_tests rule11 rule12 rule13
  line_same f count l = rw (slack_same f l, leftmost_same long f l (count_of f), leftmost_same (blank (slack f (row_of qs l))) f l (count_of f), leftmost_same formless f l (count_of f))

-- a number that is none of the first k
pub past : (n k : ℕ) → k ≤ n → (n ≡ k → ⊥) → k + 1 ≤ n
past n k h e = omega arith
