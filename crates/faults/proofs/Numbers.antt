-- What the numbers of a fault can be.
use Prim.Native.Nat.{ℕ, zero, suc, ◌≤◌, ◌<◌}
use native.Mathlib.Omega.{arith}
use mathlib.Core.Path.{◌≡◌, refl, ap}
use mathlib.Core.Bool.{Bool, false, ◌&&◌}
use mathlib.Core.List.Memᴰ
use mathlib.Core.List.{List, []}
use lib.ListN.{length, get_or}
use lib.Dec.{T, leb, eqb}
use borrow.Author.Tests.{leb-true, ltb-false, eqb-true}
use Rattle.meaning.specs.declared.Refusal.{Refusal}
use Rattle.meaning.specs.Bytes.{fields, values}
use Rattle.meaning.specs.Columns.{places}
use Rattle.meaning.specs.Refusals.{Test, test, claim_of, on_line, rule7, rule11, rule12, rule13, text_tests, head_tests, value_tests, line_tests, refusal}
use Rattle.meaning.specs.Promises.{Each, test_of, no_claim, FirstBroken, NoneBroken}
use Rattle.meaning.proofs.Computed.{all, mem_all}
use Rattle.meaning.proofs.ListLaws.{and_both}
use Rattle.meaning.proofs.Laws.{each_cons, each_append}
use Rattle.meaning.proofs.Columns.{values_count, rule8_within, leftmost_within}
use Rattle.faults.specs.List.{faults_of}
use Rattle.faults.specs.Promises.{bytes_at, head_at, text_at, WholeRule, long, many, unclosed, OfWhole, OfJudged, Fault, of_whole, of_header, of_line_lem, of_text, Nameable}
use Rattle.faults.proofs.LastLf.{texts_few}
use Rattle.faults.proofs.OneFault.{claimed, first_here}
use Rattle.faults.proofs.Exactly.{faults_exactly}

-- ---- columns

-- a test that names one of 32 columns, or none
abbrev pub Few : Test → Type 0
Few t = t.column ≤ 32

-- no test at all
none_few : Each Few []
none_few t m = absurd (Memᴰ.not-nil m)

-- the tests that don't look at the header name no column
pub text_few : (l : List ℕ) → Each Few (text_tests l)
unfolding text_tests
text_few l t m = let z = eqb-true t.column 0 (mem_all (λ u. eqb u.column 0) _ tt t m) in omega arith

-- a header of at most 32 fields leaves the values of a line as many columns
pub line_few : (f : ℕ) (h l : List ℕ) (count : ℕ) → length (fields h) ≤ 32 → Each Few (line_tests f (places f (values h)) count l)
unfolding line_tests value_tests rule11 rule12 rule13
line_few f h l count few =
    each_append Few (text_tests l) _ (text_few l)
    (each_cons Few _ _ (omega arith)
    (each_cons Few _ _ (within (leftmost_within f (values h) _ l))
    (each_cons Few _ _ (within (leftmost_within f (values h) _ l))
    (each_cons Few _ _ (within (leftmost_within f (values h) _ l)) none_few))))
  where
    within : {c : ℕ} → c ≤ length (values h) → c ≤ 32
    within k = omega (arith, values_count h)

-- a header of more than 32 fields is refused before its names are looked at
pub head_few : (f : ℕ) (h : List ℕ) (d : Refusal) → FirstBroken (on_line f 1 (head_tests f h)) d → d.column ≤ 32
unfolding on_line head_tests text_tests rule7
head_few f h d b = let e : (refusal (get_or (on_line f 1 (head_tests f h)) b.at no_claim)).column ≡ d.column = ap (λ (x : Refusal). x.column) b.spoken in omega (arith, go b.at b.silent)
  where
    go : (k : ℕ) → ((j : ℕ) → j < k → (get_or (on_line f 1 (head_tests f h)) j no_claim).broken ≡ false) → (get_or (on_line f 1 (head_tests f h)) k no_claim).column ≤ 32
    go zero silent = omega arith
    go (suc zero) silent = omega arith
    go (suc (suc zero)) silent = omega arith
    go (suc (suc (suc zero))) silent = omega arith
    go (suc (suc (suc (suc zero)))) silent = omega (arith, rule8_within f (values h), values_count h, ltb-false 32 (length (fields h)) (silent 3 (omega arith)))
    go (suc (suc (suc (suc (suc zero))))) silent = omega arith
    go (suc (suc (suc (suc (suc (suc k)))))) silent = omega arith

-- a good header has at most 32 fields
pub good_few : (f : ℕ) (h : List ℕ) → NoneBroken (on_line f 1 (head_tests f h)) → length (fields h) ≤ 32
unfolding on_line head_tests text_tests rule7
good_few f h none = ltb-false 32 (length (fields h)) (none (claim_of f 1 (test 7 (rule7 h))) (Memᴰ.tail (Memᴰ.tail (Memᴰ.tail (Memᴰ.head refl)))))

-- ---- numbers

-- a number of a line's rules
abbrev pub of_line : Test → Bool
of_line t = leb 5 t.number && leb t.number 14

-- the rules of a header, of a line, and of a line's text are such
pub head_numbers : (f : ℕ) (h : List ℕ) → T (all of_line (head_tests f h))
unfolding head_tests text_tests
head_numbers f h = tt

pub line_numbers : (f : ℕ) (ps : List ℕ) (count : ℕ) (l : List ℕ) → T (all of_line (line_tests f ps count l))
unfolding line_tests text_tests value_tests
line_numbers f ps count l = tt

pub text_numbers : (l : List ℕ) → T (all of_line (text_tests l))
unfolding text_tests
text_numbers l = tt

-- ---- a fault's numbers

module _ (files : List (List ℕ)) (d : Refusal) (from : 1 ≤ d.file) (to : d.file ≤ length files) where
  -- of a whole file
  name_whole : OfWhole files d → Nameable files d
  name_whole w = go w.rule
    where
      of : (n : ℕ) → d.number ≡ n → 1 ≤ n → n ≤ 4 → (n ≡ 3 → ⊥) → Nameable files d
      of n e low high other = record {
        lowest = omega arith;
        highest = omega arith;
        not_3 = λ z. other (cc);
        file = (from, to);
        line = (λ z. omega arith, λ z. w.line);
        last = omega arith;
        column = omega arith;
      }

      go : WholeRule files d → Nameable files d
      go (long e h) = of 1 e (omega arith) (omega arith) (λ z. omega arith)
      go (many e h) = of 2 e (omega arith) (omega arith) (λ z. omega arith)
      go (unclosed e h) = of 4 e (omega arith) (omega arith) (λ z. omega arith)

  -- of a line, by what it is put to
  name_line : OfJudged files d → (n : ℕ) (ts : List Test) → T (all of_line ts) → FirstBroken (on_line d.file n ts) d → d.column ≤ 32 → Nameable files d
  name_line j n ts t b few =
      let m = (first_here d.file n ts d b).rule in
      let e = and_both (leb 5 d.number) (leb d.number 14) (mem_all of_line ts t (test_of (claimed d)) m) in
      let low : 5 ≤ d.number = leb-true 5 d.number e.0 in
      let high : d.number ≤ 14 = leb-true d.number 14 e.1 in
      record {
        lowest = omega arith;
        highest = high;
        not_3 = λ z. omega arith;
        file = (from, to);
        line = (λ z. absurd (omega (arith, j.from)), λ z. absurd (omega arith));
        last = omega (arith, j.to, j.few, texts_few (bytes_at files d));
        column = few;
      }

  -- of any fault
  name_fault : Fault files d → Nameable files d
  name_fault (of_whole w) = name_whole w
  name_fault (of_header t) = name_line t.judged 1 _ (head_numbers d.file (head_at files d)) t.first (head_few d.file (head_at files d) d t.first)
  name_fault (of_line_lem t) =
      let f = d.file in
      let h = head_at files d in
      let l = text_at files d in
      name_line t.judged d.line _ (line_numbers f (places f (values h)) (length (fields h)) l) t.first
      (line_few f h l (length (fields h)) (good_few f h t.good) (test_of (claimed d)) (first_here f d.line _ d t.first).rule)
  name_fault (of_text t) =
      let l = text_at files d in
      name_line t.judged d.line _ (text_numbers l) t.first (text_few l (test_of (claimed d)) (first_here d.file d.line _ d t.first).rule)

-- A fault's rule is any but 3, its file one of the files, its line 0 exactly for rules 1, 2 and 4 and at most one more than rule 2 allows, its column at most 32.
pub fault_numbers : (files : List (List ℕ)) → Each (Nameable files) (faults_of files)
fault_numbers files d m = let w = (faults_exactly files d).0 m in name_fault files d w.from w.to w.fault
