-- Laws of fields in a file: a walk along one from any byte, and that it is the field of its line.
use mathlib.Core.Path.{◌≡◌, refl}
use mathlib.Core.Bool.{Bool, true, false, cond}
use mathlib.Core.List.{List, [], ◌∷◌, ◌++◌}
use Prim.Native.Nat.{ℕ, suc, ◌+◌, ◌-◌, ◌≤◌, ◌<◌}
use native.Mathlib.Omega.{arith}
use lib.Dec.{eqb}
use lib.ListN.{length, get_or, take, drop, length-drop}
use lib.Seq.{take-nil}
use borrow.Author.Tests.{eq-eqb, ne_eqb}
use Rattle.meaning.specs.Lists.{any}
use Rattle.meaning.specs.Bytes.{start, next}
use Rattle.meaning.proofs.ListLaws.{both}
use Rattle.text.specs.Fields.{field_len, ends_line, field_run, field_on}
use Rattle.text.proofs.Laws.{drop_next, drop_over}

-- a turn along the bytes of a file
module _ (s : List ℕ) (i : ℕ) (more : i < length s) (q k : ℕ) (inv : i + field_run q (drop i s) ≡ k) where
  pub run_ended : ends_line (get_or s i 0) ≡ true → i ≡ k
  unfolding field_run
  run_ended e = let z : field_run q (drop i s) ≡ 0 = rw (drop_next s i, e) in omega arith

  module _ (on : ends_line (get_or s i 0) ≡ false) (q' : ℕ) (to : q' ≡ next q (get_or s i 0)) where
    pub run_yes : q' ≡ start → i ≡ k
    unfolding field_run
    run_yes t = let z : field_run q (drop i s) ≡ 0 = rw (drop_next s i, on, ← to, eq-eqb _ _ t) in omega arith

    pub run_no : (q' ≡ start → ⊥) → i + 1 + field_run q' (drop (i + 1) s) ≡ k
    unfolding field_run
    run_no t =
        let z : field_run q (drop i s) ≡ field_run q' (drop (i + 1) s) + 1 = rw (drop_next s i, on, ← to, ne_eqb _ _ t) in omega arith

pub run_over : (s : List ℕ) (i : ℕ) → length s ≤ i → (q k : ℕ) → i + field_run q (drop i s) ≡ k → i ≡ k
unfolding field_run
run_over s i over q k inv = let z : field_run q (drop i s) ≡ 0 = rw (drop_over s i over) in omega arith

-- the end of a field lies within what is left
run_within : (q : ℕ) (r : List ℕ) → field_run q r ≤ length r
unfolding field_run
run_within q [] = omega arith
run_within q (b ∷ r) = go (ends_line b) (eqb (next q b) start) (run_within (next q b) r)
  where
    go : (u t : Bool) → field_run (next q b) r ≤ length r → cond u 0 (cond t 0 (field_run (next q b) r + 1)) ≤ suc (length r)
    go true t h = omega arith
    go false true h = omega arith
    go false false h = omega arith

pub run_end_within : (s : List ℕ) (at e : ℕ) → at ≤ length s → e ≡ at + field_run start (drop at s) → e ≤ length s
run_end_within s at e h p = omega (arith, run_within start (drop at s), length-drop at s)

pub on_past : (s : List ℕ) (at : ℕ) → length s ≤ at → ◌≡◌ {A = List ℕ} [] (field_on s at)
unfolding field_on
on_past s at h = rw (drop_over s at h, take-nil)

pub on_part : (s : List ℕ) (at e : ℕ) → e ≡ at + field_run start (drop at s) → take (e - at) (drop at s) ≡ field_on s at
unfolding field_on
on_part s at e p = let k : e - at ≡ field_run start (drop at s) = omega arith in rw k

-- up to a line's ending, a field of the file is one of the line
pub run_is : (q : ℕ) (l r : List ℕ) (b : ℕ) → any ends_line l ≡ false → ends_line b ≡ true → field_run q (l ++ (b ∷ r)) ≡ field_len q l
unfolding field_run field_len any
run_is q [] r b h e = rw e
run_is q (x ∷ l) r b h e = go (ends_line x) refl h (run_is (next q x) l r b)
  where
    go : (u : Bool) → ends_line x ≡ u → cond u true (any ends_line l) ≡ false → (any ends_line l ≡ false → ends_line b ≡ true → field_run (next q x) (l ++ (b ∷ r)) ≡ field_len (next q x) l)
        → cond (ends_line x) 0 (cond (eqb (next q x) start) 0 (field_run (next q x) (l ++ (b ∷ r)) + 1)) ≡ cond (eqb (next q x) start) 0 (field_len (next q x) l + 1)
    go true p k ih = both true refl k
    go false p k ih = rw (p, ih k e)
