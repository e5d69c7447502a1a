-- A choice as it is stored: none, or a number up to the largest.
use Rattle.std.specs.Prelude.{Option, Some, None}
use mathlib.Core.Path.{◌≡◌, refl}
use mathlib.Core.Bool.{Bool, true, false, cond}
use mathlib.Core.List.{List}
use Prim.Native.Nat.{ℕ, ◌≤◌}
use native.Mathlib.Omega.{arith}
use lib.IntN.{ℤ, pos}
use Rattle.num.specs.Signs.{nat_of}
use Rattle.meaning.specs.Lists.{empty}
use Rattle.meaning.specs.Forms.{no_mark, formed, digit_text, choice_of}
use Rattle.meaning.specs.Tables.{picked, choice_or, or_zero}
use Rattle.forms.specs.Bounds.{ChoiceFits}
use Rattle.meaning.proofs.Forms.{not_picked}
use Rattle.forms.proofs.Laws.{choice_fits}

pub data Stored (none : ℤ) (m : ℕ) : ℤ → Type 0 where
  nothing : Stored none m none
  number : (n : ℕ) → n ≤ m → Stored none m (pos n)

fits : (m : ℕ) (v : List ℕ) → ChoiceFits m (choice_of m v)
unfolding choice_of formed
fits m v n e = go (no_mark v) e
  where
    go : (b : Bool) → cond b (digit_text 0 m v) None ≡ Some n → n ≤ m
    go true q = choice_fits 0 m v n q
    go false q = not_picked n q

pub choice_stored : (none : ℤ) (m : ℕ) (v : List ℕ) → Stored none m (choice_or none m v)
unfolding choice_or
choice_stored none m v = go (empty v) (choice_of m v) (fits m v)
  where
    go : (b : Bool) (c : Option ℕ) → ChoiceFits m c → Stored none m (cond b none (picked c))
    go true c h = nothing
    go false (Some n) h = number n (h n refl)
    go false None h = number 0 (omega arith)

-- empty means 0
module _ (m : ℕ) (v : List ℕ) where
  pub zero_stored : (or_zero m v ≡ pos (nat_of (or_zero m v))) × (nat_of (or_zero m v) ≤ m)
  unfolding or_zero
  zero_stored = go (choice_or (pos 0) m v) (choice_stored (pos 0) m v)
    where
      go : (z : ℤ) → Stored (pos 0) m z → (z ≡ pos (nat_of z)) × (nat_of z ≤ m)
      go z nothing = (refl, omega arith)
      go z (number n h) = (refl, h)
