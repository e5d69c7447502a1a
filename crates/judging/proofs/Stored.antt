-- Laws: a stored number says what the value that it was stored for says.
use Rattle.std.specs.Prelude.{Option, Some, None}
use Prim.Native.Nat.{ℕ}
use mathlib.Core.Path.{◌≡◌, refl}
use mathlib.Core.List.{List}
use mathlib.Core.Bool.{Bool, true, false, cond, ◌||◌}
use lib.ListN.{length}
use lib.Dec.{eqb, leb}
use lib.IntN.{ℤ}
use borrow.Author.Tests.{eqb-true}
use Rattle.num.specs.Signs.{nat_of}
use Rattle.meaning.specs.declared.Time.{Time}
use Rattle.meaning.specs.declared.Time.TheVariants.{Seconds, Untimed, NoTime}
use Rattle.meaning.specs.Lists.{empty}
use Rattle.meaning.specs.Columns.{Row}
use Rattle.meaning.specs.Forms.{no_mark, formed, digit_text, choice_of}
use Rattle.meaning.specs.Tables.{location_type, picked, choice_or, or_zero, or_minus, one_if, kind_of}
use Rattle.meaning.specs.Rules.{seconds_of, is_one, is_two_or_three, two_days, is_late}

-- ---- choices

-- an empty value is no choice
pub empty_choice : (m : ℕ) (v : List ℕ) → empty v ≡ true → choice_of m v ≡ None
unfolding empty choice_of formed digit_text
empty_choice m v e =
    let z : length v ≡ 0 = eqb-true (length v) 0 e in
    rw z (go (no_mark v))
  where
    go : (b : Bool) → cond {A = Option ℕ} b None None ≡ None
    go true = refl
    go false = refl

-- a question that the stored number answers as the choice does, where `none` answers as no choice
stored :
    {A : Type 0} (none : ℤ) (m : ℕ) (v : List ℕ) (f : ℤ → A) (g : Option ℕ → A)
    → ((c : Option ℕ) → f (picked c) ≡ g c)
    → f none ≡ g None
    → f (choice_or none m v) ≡ g (choice_of m v)
unfolding choice_or
stored none m v f g h k = go (empty v) refl
  where
    go : (b : Bool) → empty v ≡ b → f (cond b none (picked (choice_of m v))) ≡ g (choice_of m v)
    go true e = rw (empty_choice m v e) k
    go false e = h (choice_of m v)

pub choice_number : (m : ℕ) (v : List ℕ) → nat_of (or_zero m v) ≡ one_if (choice_of m v)
unfolding or_zero
choice_number m v = stored _ m v nat_of one_if go refl
  where
    go : (c : Option ℕ) → nat_of (picked c) ≡ one_if c
    go (Some n) = refl
    go None = refl

pub kind_number : (r : Row) → nat_of (or_zero 4 (location_type r)) ≡ kind_of r
unfolding kind_of
kind_number r = choice_number 4 (location_type r)

-- -1, which stands for an empty value, isn't 1
pub one_number : (m : ℕ) (v : List ℕ) → eqb (nat_of (or_minus m v)) 1 ≡ is_one (choice_of m v)
unfolding or_minus
one_number m v = stored _ m v (λ z. eqb (nat_of z) 1) is_one go refl
  where
    go : (c : Option ℕ) → eqb (nat_of (picked c)) 1 ≡ is_one c
    go (Some n) = refl
    go None = refl

-- 0, which stands for an empty value, isn't 2 or 3
pub two_or_three_number : (m : ℕ) (v : List ℕ) → (eqb (nat_of (or_zero m v)) 2 || eqb (nat_of (or_zero m v)) 3) ≡ is_two_or_three (choice_of m v)
unfolding or_zero
two_or_three_number m v = stored _ m v (λ z. eqb (nat_of z) 2 || eqb (nat_of z) 3) is_two_or_three go refl
  where
    go : (c : Option ℕ) → (eqb (nat_of (picked c)) 2 || eqb (nat_of (picked c)) 3) ≡ is_two_or_three c
    go (Some n) = refl
    go None = refl

-- ---- times

-- where none is given, its seconds are 0, and not late
pub late_seconds : (t : Time) → is_late t ≡ leb two_days (seconds_of t)
late_seconds (Seconds n) = refl
late_seconds Untimed = refl
late_seconds NoTime = refl
