-- Records of stop_times that wait: what was packed is there again.
use mathlib.Core.Path.{◌≡◌, refl, sym, ap, ◌∙◌, subst}
use mathlib.Core.Bool.{true, false}
use mathlib.Core.List.{List, [], ◌∷◌}
use Prim.Native.Nat.{ℕ, zero, suc, ◌+◌, ◌-◌, ◌/◌, ◌%◌, ◌<◌, zero-le}
use native.Mathlib.Nat.{add-zero}
use native.Mathlib.Omega.{arith}
use borrow.Author.Tests.{le-ltb}
use lib.Dec.{T}
use lib.IntN.{ℤ, pos}
use lib.ListN.{get_or}
use lib.Signed.{lt_z}
use Rattle.num.specs.Signs.{nat_of}
use Rattle.rows.specs.Cells.{nat_at}
use Rattle.rows.specs.Waiting.{unmark, packed, settled_at}

-- ---- a number taken apart

module _ (stop pickup drop_off mark : ℕ) (a : pickup < 4) (b : drop_off < 4) (c : mark < 4) where
  stop_back : packed stop pickup drop_off mark / 64 ≡ stop
  unfolding packed
  stop_back = omega arith

  pickup_back : packed stop pickup drop_off mark / 16 % 4 ≡ pickup
  unfolding packed
  pickup_back = omega arith

  drop_off_back : packed stop pickup drop_off mark / 4 % 4 ≡ drop_off
  unfolding packed
  drop_off_back = omega arith

  mark_back : packed stop pickup drop_off mark % 4 ≡ mark
  unfolding packed
  mark_back = omega arith

  -- the record that waited, number 7 being anything
  pub settled_back :
      (t : List ℤ) (at : ℕ) (trip sequence arrival departure : ℤ)
      → get_or t at (pos 0) ≡ trip
      → get_or t (at + 1) (pos 0) ≡ pos (packed stop pickup drop_off mark)
      → get_or t (at + 2) (pos 0) ≡ sequence
      → get_or t (at + 3) (pos 0) ≡ arrival
      → get_or t (at + 4) (pos 0) ≡ departure
      → settled_at t at ≡ trip ∷ pos stop ∷ sequence ∷ arrival ∷ departure ∷ pos pickup ∷ pos drop_off ∷ unmark mark ∷ []
  unfolding settled_at
  settled_back t at trip sequence arrival departure p q r d e =
      rw (p, q, r, d, e, stop_back, pickup_back, drop_off_back, mark_back)

-- ---- the marks of a timepoint

-- a negative one
pub mark_none : (z : ℤ) (m : ℕ) → lt_z z (pos 0) ≡ true → z ≡ unmark m → 0 ≡ m
unfolding unmark
mark_none z zero e p = refl
mark_none z (suc n) e p = absurd (subst T (sym (rw p at e) ∙ le-ltb n 0 zero-le) tt)

pub mark_some : (z : ℤ) (m n : ℕ) → lt_z z (pos 0) ≡ false → n ≡ nat_of z → m < 4 → z ≡ unmark m → (n + 1) % 4 ≡ m
unfolding unmark
mark_some z zero n e q l p = absurd (subst T (rw p at e) tt)
mark_some z (suc k) n e q l p = let i : n ≡ k = q ∙ ap nat_of p in omega arith

pub unmark_some : (m : ℕ) → (m ≡ 0 → ⊥) → pos (m - 1) ≡ unmark m
unfolding unmark
unmark_some zero h = absurd (h refl)
unmark_some (suc n) h = let e : suc n - 1 ≡ n = omega arith in rw e

-- ---- what settle stores

pub settled_as :
    (t : List ℤ) (at n : ℕ) (a b c d e f g h : ℤ)
    → n ≡ nat_at t (at + 1)
    → a ≡ get_or t (at + 0) (pos 0)
    → b ≡ pos (n / 64)
    → c ≡ get_or t (at + 2) (pos 0)
    → d ≡ get_or t (at + 3) (pos 0)
    → e ≡ get_or t (at + 4) (pos 0)
    → f ≡ pos (n / 16 % 4)
    → g ≡ pos (n / 4 % 4)
    → h ≡ unmark (n % 4)
    → a ∷ b ∷ c ∷ d ∷ e ∷ f ∷ g ∷ h ∷ [] ≡ settled_at t at
unfolding settled_at
settled_as t at n a b c d e f g h k pa pb pc pd pe pf pg ph = rw (pa, pb, pc, pd, pe, pf, pg, ph, k, add-zero at)
