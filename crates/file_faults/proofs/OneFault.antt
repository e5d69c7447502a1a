-- The fault of a line, by its first broken rule; and that its numbers are small.
use Prim.Native.Nat.{ℕ, ◌≤◌, ◌<◌}
use native.Mathlib.Omega.{arith}
use mathlib.Core.Path.{◌≡◌, refl, sym, ap, ◌∙◌}
use mathlib.Core.Bool.{Bool, true, false, cond}
use mathlib.Core.List.Memᴰ
use mathlib.Core.List.{List, [], ◌∷◌, ◌++◌}
use lib.Dec.{T, leb}
use lib.ListN.{length, get_or}
use borrow.Author.Tests.{leb-true}
use Rattle.std.specs.Prelude.{Option, Some, None, IfSome, is_some, is_none, Result, Ok, Err, ◌^◌}
use Rattle.std.specs.Result.{result_ok, result_err}
use Rattle.meaning.specs.declared.Refusal.{Refusal}
use Rattle.meaning.specs.Bytes.{fields, values}
use Rattle.meaning.specs.Columns.{places}
use Rattle.meaning.specs.Refusals.{Test, test, on_line, speaks, head_tests}
use Rattle.meaning.specs.Promises.{Each}
use Rattle.meaning.proofs.Computed.{all, mem_all}
use Rattle.meaning.proofs.ListLaws.{and_both}
use Rattle.meaning.proofs.FirstBroken.{spoken_first, silent_none}
use Rattle.columns.specs.declared.Columns.{Columns}
use Rattle.columns.specs.Columns.{places_of}
use Rattle.columns.proofs.Laws.{places_at}
use Rattle.reading.specs.declared.Fault.{Fault}
use Rattle.reading.specs.Tests.{fault, first}
use Rattle.reading.specs.Heads.{columns_in, unless, columns_under}
use Rattle.reading.proofs.Values.{line_same}
use Rattle.reading.proofs.Speaks.{refused, line_said, line_stop}
use Rattle.meaning.specs.declared.Place.{Place}
use Rattle.listing.specs.Handing.{State, adding}
use Rattle.listing.proofs.Laws.{adding_append}
use Rattle.faults.specs.Told.{quad}
use Rattle.faults.specs.List.{said, fault_at, head_said, tests_under}
use Rattle.faults.proofs.Numbers.{Few, of_line, text_few, line_few, head_few, good_few, head_numbers, line_numbers, text_numbers}
use Rattle.file_faults.specs.Walk.{fault_of, is_good, tests_by, Heads, marked_faults}

module _ (f n : ℕ) (ts : List Test) (t : Option Fault) (e : t ≡ first ts) where
  -- what a first broken rule tells is the fault of its place
  pub fault_is : fault_of f n t ≡ fault_at f n ts
  unfolding fault_of fault_at
  fault_is = rw (e, line_said f n ts) (go (first ts))
    where
      go : (k : Option Fault) → fault_of f n k ≡ said (refused k f n)
      go None = refl
      go (Some u) = refl

  -- and where none is broken, nothing is said
  pub good_is : is_none t ≡ is_good (speaks (on_line f n ts))
  good_is = rw (e, line_said f n ts) (go (first ts))
    where
      go : (k : Option Fault) → is_none k ≡ is_good (refused k f n)
      go None = refl
      go (Some u) = refl

-- ---- its numbers

-- what holds of every test's number and column holds of the first broken one's
first_each : (P : Fault → Type 0) (ts : List Test) → Each (λ u. P (fault u.number u.column)) ts → IfSome (first ts) P
unfolding first
first_each P [] each = tt
first_each P (u ∷ ts) each = go u.broken (first_each P ts (λ v m. each v (Memᴰ.tail m)))
  where
    go : (b : Bool) → IfSome (first ts) P → IfSome (cond b (Some (fault u.number u.column)) (first ts)) P
    go true rest = each u (Memᴰ.head refl)
    go false rest = rest

-- a fault with small numbers
abbrev pub Low : Option Fault → Type 0
Low t = IfSome t (λ u. (u.rule < 2 ^ 31) × (u.column < 2 ^ 31))

pub low_some : (t : Option Fault) (u : Fault) → t ≡ Some u → Low t → (u.rule < 2 ^ 31) × (u.column < 2 ^ 31)
low_some t u e h = rw e at h

both_low : (t : Option Fault) → IfSome t (λ u. u.rule ≤ 14) → IfSome t (λ u. u.column ≤ 32) → Low t
both_low None rule column = tt
both_low (Some u) rule column = (omega (arith, rule), omega (arith, column))

pub first_column : (ts : List Test) → Each Few ts → IfSome (first ts) (λ u. u.column ≤ 32)
first_column ts few = first_each (λ u. u.column ≤ 32) ts few

pub first_rule : (ts : List Test) → T (all of_line ts) → IfSome (first ts) (λ u. u.rule ≤ 14)
first_rule ts small =
    first_each (λ u. u.rule ≤ 14) ts
    (λ u m. leb-true u.number 14 (and_both (leb 5 u.number) (leb u.number 14) (mem_all of_line ts small u m)).1)

-- ---- a whole file

pub whole_low : (rule : ℕ) → rule ≤ 4 → (b : Bool) (t : Option Fault) → t ≡ first (test rule b ∷ []) → Low t
unfolding first
whole_low rule h b t e = rw e (go b)
  where
    go : (b : Bool) → Low (cond b (Some (fault rule 0)) None)
    go true = (omega (arith, h), omega arith)
    go false = tt

-- rules 1, 2 and 4, one after the other
pub whole_three :
    (f : ℕ) (p : Place) (w : List Bool) (t1 t2 t3 : Option Fault) (s0 s1 s2 s3 : State)
    → t1 ≡ first (test 1 (get_or w 0 false) ∷ [])
    → t2 ≡ first (test 2 (get_or w 1 false) ∷ [])
    → t3 ≡ first (test 4 (get_or w 3 false) ∷ [])
    → s1 ≡ adding quad p (fault_of f 0 t1) s0
    → s2 ≡ adding quad p (fault_of f 0 t2) s1
    → s3 ≡ adding quad p (fault_of f 0 t3) s2
    → s3 ≡ adding quad p (marked_faults f w) s0
unfolding marked_faults
whole_three f p w t1 t2 t3 s0 s1 s2 s3 e1 e2 e3 h1 h2 h3 =
    let one = fault_at f 0 (test 1 (get_or w 0 false) ∷ []) in
    let two = fault_at f 0 (test 2 (get_or w 1 false) ∷ []) in
    let four = fault_at f 0 (test 4 (get_or w 3 false) ∷ []) in
    let g1 : s1 ≡ adding quad p one s0 = rw (← fault_is f 0 _ t1 e1) h1 in
    let g2 : s2 ≡ adding quad p two s1 = rw (← fault_is f 0 _ t2 e2) h2 in
    let g3 : s3 ≡ adding quad p four s2 = rw (← fault_is f 0 _ t3 e3) h3 in
    g3
    ∙ ap (adding quad p four) (g2 ∙ ap (adding quad p two) g1)
    ∙ sym (adding_append quad p one (two ++ four) s0 ∙ adding_append quad p two four (adding quad p one s0))

-- ---- a header

module _ (f : ℕ) (h : List ℕ) (r : Result Columns Fault) (e : r ≡ columns_under f h) where
  err_first : result_err r ≡ first (head_tests f h)
  unfolding columns_under
  err_first = rw e (go (first (head_tests f h)))
    where
      go : (k : Option Fault) → result_err (unless k (columns_in f h)) ≡ k
      go None = refl
      go (Some u) = refl

  pub head_fault : (t : Option Fault) → t ≡ result_err r → fault_of f 1 t ≡ fault_at f 1 (head_tests f h)
  head_fault t p = fault_is f 1 (head_tests f h) t (p ∙ err_first)

  -- what lines are read under is told where it is good
  pub head_told : (k : Option Columns) → k ≡ result_ok r → Heads f h k
  unfolding columns_under head_said
  head_told k p = rw (p, e) (go (first (head_tests f h)) refl)
    where
      go : (t : Option Fault) → first (head_tests f h) ≡ t → Heads f h (result_ok (unless t (columns_in f h)))
      go None q = record { said = rw (line_said f 1 (head_tests f h), q); columns = refl; wide = refl }
      go (Some u) q = record { said = rw (line_said f 1 (head_tests f h), q); columns = tt; wide = tt }

  pub head_low : (t : Option Fault) → t ≡ result_err r → Low t
  head_low t p = rw (p, err_first) (both_low _ (first_rule (head_tests f h) (head_numbers f h)) (go (first (head_tests f h)) refl))
    where
      go : (k : Option Fault) → first (head_tests f h) ≡ k → IfSome k (λ u. u.column ≤ 32)
      go None q = tt
      go (Some u) q = head_few f h _ ((spoken_first (on_line f 1 (head_tests f h)) _).0 (line_stop f 1 (head_tests f h) u (sym q)))

-- ---- a line after it

module _ (f : ℕ) (h : List ℕ) (header : Option Columns) (k : Heads f h header) (l : List ℕ) where
  -- it is put to the tests that the header leaves it
  tests_are : tests_by f header l ≡ tests_under (head_said f h) f h l
  tests_are = go header (head_said f h) k.said k.columns k.wide
    where
      go : (c : Option Columns) (v : Result Unit Refusal) → is_some c ≡ is_good v → IfSome c (λ c. c.at ≡ places_of f (values h)) → IfSome c (λ c. c.count ≡ length (fields h)) → tests_by f c l ≡ tests_under v f h l
      go None (Ok tt) e at wide = let z : ◌≡◌ {A = ℕ} 0 1 = cc in absurd (omega arith)
      go None (Err r) e at wide = refl
      go (Some c) (Ok tt) e at wide = rw (at, wide) (line_same (places_of f (values h)) (places f (values h)) (places_at f (values h)) f (length (fields h)) l)
      go (Some c) (Err r) e at wide = let z : ◌≡◌ {A = ℕ} 0 1 = cc in absurd (omega arith)

  few : Each Few (tests_under (head_said f h) f h l)
  unfolding head_said
  few = go (head_said f h) refl
    where
      go : (v : Result Unit Refusal) → head_said f h ≡ v → Each Few (tests_under v f h l)
      go (Ok tt) e = line_few f h l (length (fields h)) (good_few f h ((silent_none (on_line f 1 (head_tests f h))).0 e))
      go (Err r) e = text_few l

  numbers : T (all of_line (tests_under (head_said f h) f h l))
  numbers = go (head_said f h)
    where
      go : (v : Result Unit Refusal) → T (all of_line (tests_under v f h l))
      go (Ok tt) = line_numbers f (places f (values h)) (length (fields h)) l
      go (Err r) = text_numbers l

  module _ (t : Option Fault) (e : t ≡ first (tests_by f header l)) where
    pub later_fault : (n : ℕ) → fault_of f n t ≡ fault_at f n (tests_under (head_said f h) f h l)
    later_fault n = fault_is f n _ t e ∙ ap (fault_at f n) tests_are

    pub later_low : Low t
    later_low = rw (e, tests_are) (both_low _ (first_rule _ numbers) (first_column _ few))
