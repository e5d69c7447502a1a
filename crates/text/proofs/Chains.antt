-- Bridges from the words of the library to ours: what a chain along bytes, a comparison of slices and a look at an end tell.
use mathlib.Core.Path.{◌≡◌, refl, sym, ◌∙◌}
use mathlib.Core.Bool.{Bool, true, false, cond, not, ◌||◌, ◌&&◌}
use mathlib.Core.List.{List, [], ◌∷◌}
use Prim.Native.Nat.{ℕ, suc, ◌+◌, ◌≤◌, ◌<◌}
use native.Mathlib.Omega.{arith}
use lib.Dec.{eqb, ltb}
use mir.Val.{bool_byte}
use lib.ListN.{length, drop}
use Rattle.std.specs.List.{list_any, position_or_len}
use Rattle.std.specs.Option.{unwrap_or}
use Rattle.std.specs.Prelude.{Option, Some, None}
use Rattle.std.specs.Cmp.Lexicographic.{pointwise}
use Rattle.meaning.specs.Lists.{same, any}
use Rattle.meaning.specs.Bytes.{count_lf}
use Rattle.meaning.specs.Refusals.{rule5}
use borrow.Author.Tests.{eq-eqb, ne_eqb, eqb-true, ltb-false}
use Rattle.meaning.proofs.ListLaws.{both}
use Rattle.text.specs.Lines.{to_first}
use Rattle.text.proofs.Laws.{drop_over}

-- a test of some element
pub any_listed : (P : ℕ → Bool) (s : List ℕ) → any P s ≡ list_any P s
unfolding any
any_listed P [] = refl
any_listed P (b ∷ r) = rw (any_listed P r) (go (P b))
  where
    go : (t : Bool) → cond t true (list_any P r) ≡ (t || list_any P r)
    go true = refl
    go false = refl

-- how far the first element stands of which a test holds
pub first_listed : (P : ℕ → Bool) (s : List ℕ) → to_first P s ≡ position_or_len P s
unfolding to_first
first_listed P [] = refl
first_listed P (b ∷ r) = rw (first_listed P r) (go (P b))
  where
    go : (t : Bool) → cond t 0 (position_or_len P r + 1) ≡ cond (not t) (1 + position_or_len P r) 0
    go true = refl
    go false = omega arith

-- equal byte strings
pub same_listed : (l m : List ℕ) → same l m ≡ pointwise eqb l m
unfolding same
same_listed [] [] = refl
same_listed [] (y ∷ m) = refl
same_listed (x ∷ l) [] = refl
same_listed (x ∷ l) (y ∷ m) = rw (same_listed l m) (go (eqb x y))
  where
    go : (t : Bool) → cond t (pointwise eqb l m) false ≡ (t && pointwise eqb l m)
    go true = refl
    go false = refl

-- the order of two doesn't matter
pub same_turned : (l m : List ℕ) → same l m ≡ same m l
unfolding same
same_turned [] [] = refl
same_turned [] (y ∷ m) = refl
same_turned (x ∷ l) [] = refl
same_turned (x ∷ l) (y ∷ m) = go (eqb x y) refl (same_turned l m)
  where
    go : (t : Bool) → eqb x y ≡ t → same l m ≡ same m l → cond (eqb x y) (same l m) false ≡ cond (eqb y x) (same m l) false
    go true e h = let p = eq-eqb y x (sym (eqb-true x y e)) in rw (e, p, h)
    go false e h = let p = ne_eqb y x (λ z. both (eqb x y) (eq-eqb x y (sym z)) e) in rw (e, p)

-- a tab or a CR
pub stray_listed : (l : List ℕ) → rule5 l ≡ (list_any (λ b. eqb b 9) l || list_any (λ b. eqb b 13) l)
unfolding rule5
stray_listed [] = refl
stray_listed (b ∷ r) = rw (stray_listed r) (go (eqb b 9) (eqb b 13) (list_any (λ b. eqb b 9) r))
  where
    go : (t u a : Bool) → cond t true (cond u true (a || list_any (λ b. eqb b 13) r)) ≡ ((t || a) || (u || list_any (λ b. eqb b 13) r))
    go true u a = refl
    go false true true = refl
    go false true false = refl
    go false false a = refl

-- where the first element stands in what is left from `at` on, as `position` tells it; the end where there is none
left_within : (P : ℕ → Bool) (r : List ℕ) → position_or_len P r ≤ length r
left_within P [] = omega arith
left_within P (b ∷ r) = go (P b) (left_within P r)
  where
    go : (t : Bool) → position_or_len P r ≤ length r → cond (not t) (1 + position_or_len P r) 0 ≤ suc (length r)
    go true h = omega arith
    go false h = omega arith

pub first_or : (P : ℕ → Bool) (r : List ℕ) (p : Option ℕ) → p ≡ cond (ltb (position_or_len P r) (length r)) (Some (position_or_len P r)) None → unwrap_or p (length r) ≡ to_first P r
first_or P r p e = rw (e, first_listed P r) (go (ltb (position_or_len P r) (length r)) refl)
  where
    go : (t : Bool) → ltb (position_or_len P r) (length r) ≡ t → unwrap_or (cond t (Some (position_or_len P r)) None) (length r) ≡ position_or_len P r
    go true h = refl
    go false h = let z : length r ≤ position_or_len P r = ltb-false (position_or_len P r) (length r) h in omega (arith, left_within P r)

pub first_past : (P : ℕ → Bool) (s : List ℕ) (at : ℕ) → length s < at → at ≡ at + to_first P (drop at s)
unfolding to_first
first_past P s at h = rw (drop_over s at (omega arith)) (omega arith)

-- 1 for LF, 0 for any other byte
pub lf_byte : (b v : ℕ) → v ≡ bool_byte (eqb b 10) → v ≡ count_lf (b ∷ [])
unfolding count_lf
lf_byte b v e = e ∙ go (eqb b 10)
  where
    go : (t : Bool) → bool_byte t ≡ cond t 1 0
    go true = refl
    go false = refl
