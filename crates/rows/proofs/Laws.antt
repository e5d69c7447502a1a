-- Records in a table: written, laid one after the other, and read back.
use mathlib.Core.Path.{◌≡◌, refl, sym, ◌∙◌, subst}
use mathlib.Core.Bool.{true, false}
use mathlib.Core.List.{List, ◌++◌, append_assoc}
use Prim.Native.Nat.{ℕ, zero, suc, ◌+◌, ◌-◌, ◌*◌, ◌/◌, ◌≤◌, ◌<◌, zero-le}
use native.Mathlib.Nat.{le-div_iff_mul-le, div-lt_iff_lt-mul}
use native.Mathlib.Omega.{arith}
use borrow.Author.Tests.{le-ltb}
use borrow.Rule.Slice.PartMut.{put_mid}
use lib.Dec.{T}
use lib.IntN.{ℤ, pos, negsuc}
use lib.ListN.{length, drop, take, get_or, replicate, length-append, length-take, length-drop, length-replicate, get_or-eq_default}
use lib.Seq.{length-take-le, drop-drop}
use lib.Signed.{lt_z}
use Rattle.num.specs.Signs.{nat_of}
use Rattle.meaning.specs.declared.Time.TheVariants.{Seconds, Untimed}
use Rattle.meaning.specs.Tables.{width_of, widths}
use Rattle.meaning.specs.Lists.{laid}
use Rattle.rows.specs.Cells.{put_at, time_in}

-- ---- one record

pub put_length :
    (xs : List ℤ) (at : ℕ) (vs : List ℤ)
    → at + length vs ≤ length xs
    → length (put_at xs at vs) ≡ length xs
unfolding put_at
put_length xs at vs h = simp (length-append, length-take, length-drop) (omega arith)

-- a record copied over a part of a table
pub copied : (t r : List ℤ) (at : ℕ) → put_mid at (at + length r - at) t r ≡ put_at t at r
unfolding put_at
copied t r at =
    let e : at + length r - at ≡ length r = omega arith in
    rw (e, drop-drop) (sym (append_assoc (take at t) r (drop (at + length r) t)))

-- numbers written over the first of a table
pub laid_fill : (n : ℕ) (v : ℤ) (d : List ℤ) → replicate n v ++ drop n d ≡ laid (replicate n v) d
unfolding laid
laid_fill n v d = rw length-replicate

-- ---- one number

-- a number that is no file's
pub no_width :
    (f : ℕ)
    → (f ≡ 1 → ⊥)
    → (f ≡ 2 → ⊥)
    → (f ≡ 3 → ⊥)
    → (f ≡ 4 → ⊥)
    → (f ≡ 5 → ⊥)
    → (f ≡ 6 → ⊥)
    → 0 ≡ width_of f
unfolding width_of widths
no_width zero a b c d e g = refl
no_width (suc zero) a b c d e g = absurd (a refl)
no_width (suc (suc zero)) a b c d e g = absurd (b refl)
no_width (suc (suc (suc zero))) a b c d e g = absurd (c refl)
no_width (suc (suc (suc (suc zero)))) a b c d e g = absurd (d refl)
no_width (suc (suc (suc (suc (suc zero))))) a b c d e g = absurd (e refl)
no_width (suc (suc (suc (suc (suc (suc zero)))))) a b c d e g = absurd (g refl)
no_width (suc (suc (suc (suc (suc (suc (suc f))))))) a b c d e g = refl

-- a row up to the number of whole records starts within the table, one past it doesn't
pub row_within : (n w row : ℕ) → 0 < w → row ≤ n / w → row * w ≤ n
row_within n w row h l = (le-div_iff_mul-le h).0 l

pub row_past : (n w row : ℕ) → 0 < w → n / w < row → n < row * w
row_past n w row h l = (div-lt_iff_lt-mul h).0 l

pub number_past :
    (t : List ℤ) (w row k : ℕ) → 0 < w → length t / w < row → pos 0 ≡ get_or t (row * w + k) (pos 0)
number_past t w row k h l =
    let m : length t < row * w = row_past (length t) w row h l in
    sym (get_or-eq_default t (pos 0) (omega arith))

pub untimed : (z : ℤ) → lt_z z (pos 0) ≡ true → Untimed ≡ time_in z
untimed (pos n) e = absurd (subst T (sym e ∙ le-ltb n 0 zero-le) tt)
untimed (negsuc n) e = refl

pub timed : (z : ℤ) → lt_z z (pos 0) ≡ false → Seconds (nat_of z) ≡ time_in z
timed (pos n) e = refl
timed (negsuc n) e = absurd (subst T e tt)

-- room for the first numbers of a list
pub take_room : (v : List ℤ) (n at m : ℕ) → n ≤ length v → at + n ≤ m → at + length (take n v) ≤ m
take_room v n at m h k = rw (length-take-le n v h) k
