-- 40 and 41, as the code tests them.
use mathlib.Core.Path.{◌≡◌, refl, sym, ◌∙◌}
use mathlib.Core.Bool.{Bool, true, false, not}
use mathlib.Core.List.{List}
use Prim.Native.Nat.{ℕ, ◌≤◌, ◌<◌}
use lib.Dec.{eqb, ltb}
use lib.ListN.{length, take}
use borrow.Author.Tests.{lt-ltb, le-ltb, ne_eqb}
use Rattle.std.specs.Str.{bytes_eq}
use Rattle.std.proofs.lemmas.Slice.Eq.{bytes_eq-Decides}
use Rattle.meaning.specs.Lists.{same}
use Rattle.meaning.proofs.ListLaws.{both, same_equal, same_self}
use Rattle.indexes.specs.Index.{number_at, mark, rule40, other_version, rule41}

-- bytes are compared as std compares them
pub marked_as : (xs ys : List ℕ) (r : Bool) → r ≡ bytes_eq ys xs → r ≡ same xs ys
marked_as xs ys r e = go r e (same xs ys) refl
  where
    go : (r : Bool) → r ≡ bytes_eq ys xs → (t : Bool) → same xs ys ≡ t → r ≡ t
    go true e true f = refl
    go false e false f = refl
    go true e false f = let z : ys ≡ xs = (bytes_eq-Decides ys xs).0 (sym e) in both (same xs ys) (rw z (same_self xs)) f
    go false e true f = e ∙ (bytes_eq-Decides ys xs).1 (sym (same_equal xs ys f))

module _ (b : List ℕ) where
  pub short_head : length b < 8 → ltb (length b) 8 ≡ rule40 b
  unfolding rule40
  short_head h = rw (lt-ltb (length b) 8 h)

  pub long_head : (r : Bool) → 8 ≤ length b → r ≡ same (take 3 b) mark → not r ≡ rule40 b
  unfolding rule40
  long_head r h e = rw (le-ltb (length b) 8 h, e)

  pub first_known : (k : ℕ) → k ≡ number_at 2 b 3 → k ≡ 1 → not (eqb k 1) ≡ rule41 b
  unfolding other_version rule41
  first_known k e h = rw (← e, h)

  pub second_known : (k : ℕ) → k ≡ number_at 2 b 3 → (k ≡ 1 → ⊥) → not (eqb k 2) ≡ rule41 b
  unfolding other_version rule41
  second_known k e h = rw (← e, ne_eqb k 1 h)
