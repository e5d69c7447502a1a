-- Laws of byte strings: one byte more, the end, parts, equality.
use mathlib.Core.Path.{◌≡◌, refl, sym, ◌∙◌}
use mathlib.Core.Bool.{Bool, true, false}
use mathlib.Core.List.{List, [], ◌∷◌}
use Prim.Native.Nat.{ℕ, zero, suc, ◌+◌, ◌-◌, ◌≤◌, ◌<◌}
use native.Mathlib.Numerals.{add-one}
use native.Mathlib.Omega.{arith}
use lib.ListN.{length, get_or, take, drop, drop_of_length-le, length-take, length-drop}
use lib.Seq.{drop-cons, drop-drop, take-take, take-nil}
use Rattle.meaning.specs.Lists.{same}
use Rattle.meaning.specs.Bytes.{bounds, part}
use Rattle.meaning.proofs.ListLaws.{same_self, same_equal}

-- one byte more: the code's i + 1
pub drop_next : (s : List ℕ) (i : ℕ) → i < length s → drop i s ≡ get_or s i 0 ∷ drop (i + 1) s
drop_next s i h = rw (add-one, drop-cons s i 0)

pub drop_over : (s : List ℕ) (i : ℕ) → length s ≤ i → drop i s ≡ []
drop_over s i h = drop_of_length-le s {i = i} h

-- parts
pub drop_take : (m n : ℕ) (l : List ℕ) → drop m (take n l) ≡ take (n - m) (drop m l)
drop_take zero n l = let z : n - 0 ≡ n = omega arith in rw z
drop_take (suc m) zero l = let z : 0 - suc m ≡ 0 = omega arith in rw z
drop_take (suc m) (suc n) [] = rw take-nil
drop_take (suc m) (suc n) (x ∷ l) = let z : suc n - suc m ≡ n - m = omega arith in rw z (drop_take m n l)

pub part_length : (s : List ℕ) (a e : ℕ) → e ≤ length s → length (part s (bounds a e)) ≡ e - a
unfolding part
part_length s a e h = omega (arith, length-take (e - a) (drop a s), length-drop a s)

-- a part of a part, counted from the first byte of all
pub part_part : (s : List ℕ) (a e st en : ℕ) → a + en ≤ e → part (part s (bounds a e)) (bounds st en) ≡ part s (bounds (a + st) (a + en))
unfolding part
part_part s a e st en h =
    let k : a + en - (a + st) ≡ en - st = omega arith in
    let j : en - st ≤ e - a - st = omega arith in
    rw (k, drop_take st (e - a) (drop a s), take-take (en - st) (e - a - st) (drop st (drop a s)) j, drop-drop st a s)

-- `same` is equality
pub same_sym : (a b : List ℕ) → same a b ≡ same b a
same_sym a b = go (same a b) (same b a) refl refl
  where
    go : (t u : Bool) → same a b ≡ t → same b a ≡ u → t ≡ u
    go true true p q = refl
    go false false p q = refl
    go true false p q = let e : a ≡ b = same_equal a b p in sym (same_self a) ∙ rw (← e) at q
    go false true p q = let e : b ≡ a = same_equal b a q in sym p ∙ rw e (same_self a)

pub same_no : (a b : List ℕ) → (a ≡ b → ⊥) → same a b ≡ false
same_no a b n = go (same a b) refl
  where
    go : (t : Bool) → same a b ≡ t → t ≡ false
    go true p = absurd (n (same_equal a b p))
    go false p = refl
