-- Laws of arrays: the elements from one on, an array that is filled in order, and one of six.
use Prim.Native.Nat.{ℕ, zero, suc, ◌+◌, ◌≤◌, ◌<◌}
use native.Mathlib.Numerals.{add-one}
use mathlib.Core.Path.{◌≡◌, refl, sym, ap, ◌∙◌}
use mathlib.Core.List.{List, [], ◌∷◌, ◌++◌, append-nil, append_assoc}
use lib.ListN.{length, get_or, set, take, drop}
use lib.Seq.{drop-cons, take-suc-set, take_all}

-- the elements from i on: the first of them, and the others
pub drop_next : {A : Type 0} (d : A) (l : List A) (i : ℕ) → i < length l → drop i l ≡ get_or l i d ∷ drop (i + 1) l
drop_next d l i h = rw add-one (drop-cons l i d h)

-- the first i elements are put, what is left follows: one more is put, or none is left
module _ {A : Type 0} (w g : List A) (i : ℕ) where
  pub fill_next : (x : A) (left : List A) → i < length w → take i w ++ (x ∷ left) ≡ g → take (i + 1) (set w i x) ++ left ≡ g
  fill_next x left h e = rw (add-one, take-suc-set w i x h, append_assoc) e

  pub fill_all : length w ≤ i → take i w ++ [] ≡ g → w ≡ g
  fill_all h e = sym (append-nil (take i w) ∙ take_all i w h) ∙ e

-- n elements, one by one
abbrev each : {A : Type 0} → ℕ → (ℕ → A) → List A
each zero g = []
each (suc n) g = g zero ∷ each n (λ i. g (suc i))

module _ {A : Type 0} (d : A) where
  each_is : (l : List A) → each (length l) (λ i. get_or l i d) ≡ l
  each_is [] = refl
  each_is (x ∷ r) = ap (λ (l : List A). x ∷ l) (each_is r)

  pub six_are : (l : List A) → length l ≡ 6 → l ≡ get_or l 0 d ∷ get_or l 1 d ∷ get_or l 2 d ∷ get_or l 3 d ∷ get_or l 4 d ∷ get_or l 5 d ∷ []
  six_are l h = sym (rw h at (each_is l))
