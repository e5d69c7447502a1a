-- A header: its first broken rule, from what is told of its text and its names; and under what the lines after it are read.
use Prim.Native.Nat.{ℕ}
use mathlib.Core.Path.{◌≡◌, refl, sym, ap, ◌∙◌}
use mathlib.Core.Bool.{Bool, true, false}
use mathlib.Core.List.{List}
use lib.ListN.{length}
use native.Mathlib.Omega.{arith}
use Rattle.std.specs.Prelude.{Option, Some, None, Ok, Err}
use Rattle.meaning.specs.Bytes.{fields, values}
use Rattle.meaning.specs.Refusals.{rule8, text_tests, head_tests}
use Rattle.columns.specs.declared.Columns.{Columns}
use Rattle.columns.specs.Columns.{places_of, lacking}
use Rattle.columns.proofs.Laws.{lacking_is}
use Rattle.reading.specs.declared.Fault.{Fault}
use Rattle.reading.specs.Tests.{fault, first}
use Rattle.reading.specs.Heads.{columns_in, unless, columns_under}
use Rattle.reading.proofs.First.{first_yes, first_no, first_none, column_yes, column_no, first_stop, first_then}

module _ (f : ℕ) (h : List ℕ) where
  -- it breaks a rule
  pub under_bad : (t : Fault) → Some t ≡ first (head_tests f h) → Err t ≡ columns_under f h
  unfolding columns_under
  under_bad t e = rw (← e)

  -- it breaks none
  pub under_good : None ≡ first (head_tests f h) → (c : Columns) → c ≡ columns_in f h → Ok c ≡ columns_under f h
  unfolding columns_under
  under_good e c k = rw (← e, k)

  pub same_columns : (at : List ℕ) (count : ℕ) → at ≡ places_of f (values h) → count ≡ length (fields h) → ◌≡◌ {A = Columns} (record { at = at; count = count }) (columns_in f h)
  same_columns at count p q = rw (p, q)

  -- and what it is by what is told
  pub bad_under : (t : Fault) → Err t ≡ columns_under f h → Some t ≡ first (head_tests f h)
  unfolding columns_under
  bad_under t e = go (first (head_tests f h)) e
    where
      go : (k : Option Fault) → Err t ≡ unless k (columns_in f h) → Some t ≡ k
      go None e = let z : ◌≡◌ {A = ℕ} 0 1 = cc in absurd (omega arith)
      go (Some u) e = cc

  pub good_under : (c : Columns) → Ok c ≡ columns_under f h → (None ≡ first (head_tests f h)) × (c ≡ columns_in f h)
  unfolding columns_under
  good_under c e = go (first (head_tests f h)) e
    where
      go : (k : Option Fault) → Ok c ≡ unless k (columns_in f h) → (None ≡ k) × (c ≡ columns_in f h)
      go None e = (refl, cc)
      go (Some u) e = let z : ◌≡◌ {A = ℕ} 0 1 = cc in absurd (omega arith)

  module _ (text : None ≡ first (text_tests h)) (again : ℕ) (second : again ≡ rule8 f (values h)) where
    -- a name stands twice
    pub head_again : (again ≡ 0 → ⊥) → Some (fault 8 again) ≡ first (head_tests f h)
    unfolding head_tests
    head_again z = first_then (text_tests h) _ _ text (rw (← second) (column_yes 8 again _ z))

    module _ (once : again ≡ 0) (at : List ℕ) (places : at ≡ places_of f (values h)) (lacks : Bool) (told : lacks ≡ lacking f at) where
      -- one is missing
      pub head_lacks : lacks ≡ true → Some (fault 9 0) ≡ first (head_tests f h)
      unfolding head_tests
      head_lacks e =
          first_then (text_tests h) _ _ text
          (column_no 8 _ _ (sym second ∙ once) _ (first_yes 9 _ _ (sym (told ∙ ap (lacking f) places ∙ lacking_is f (values h)) ∙ e)))

      -- nothing is wrong
      pub head_good : lacks ≡ false → None ≡ first (head_tests f h)
      unfolding head_tests
      head_good e =
          first_then (text_tests h) _ _ text
          (column_no 8 _ _ (sym second ∙ once) _ (first_no 9 _ _ (sym (told ∙ ap (lacking f) places ∙ lacking_is f (values h)) ∙ e) _ first_none))

  -- its text breaks a rule
  pub head_text : (t : Fault) → Some t ≡ first (text_tests h) → Some t ≡ first (head_tests f h)
  unfolding head_tests
  head_text t e = first_stop (text_tests h) _ t e
