-- Two lists that mark alike are equal.
use Prim.Native.Nat.{ℕ, zero, suc, ◌+◌, ◌*◌, ◌/◌, ◌%◌, ◌^◌, ◌<◌}
use mathlib.Core.Path.{◌≡◌, refl, sym, ap, ◌∙◌}
use mathlib.Core.List.{List}
use mathlib.Core.Bool.{Bool, true, false}
use native.Mathlib.Omega.{arith}
use native.Mathlib.Nat.{mod-lt, div-one, div-add-mod', div-div-eq-div-mul, pow-succ'}
use borrow.Author.Tests.{eqb-true, eqb-false, leb-true, leb-false}
use lib.Dec.{eqb, leb}
use lib.ListN.{length, get_or}
use lib.Seq.{ext_get_or}
use Rattle.marks.specs.Marks.{marked}
use Rattle.marks.specs.One.{Narrow, OneBlank, OneMarked, OneMarkedIf}
use Rattle.marks.proofs.Bits.{unmarked_past}
use Rattle.marks.proofs.Tests.{marked_yes}

-- ---- numbers by their bits

-- a digit of two is told by whether it is 1
one_digit : (a b : ℕ) → a < 2 → b < 2 → eqb a 1 ≡ eqb b 1 → a ≡ b
one_digit a b h k e = go (eqb a 1) refl
  where
    go : (x : Bool) → eqb a 1 ≡ x → a ≡ b
    go true f = eqb-true a 1 f ∙ sym (eqb-true b 1 (sym e ∙ f))
    go false f = let u = eqb-false a 1 f in let v = eqb-false b 1 (sym e ∙ f) in omega arith

-- numbers with the same bits are equal
one_number : (k x y : ℕ) → x < 2 ^ k → y < 2 ^ k → ((c : ℕ) → eqb (x / 2 ^ c % 2) 1 ≡ eqb (y / 2 ^ c % 2) 1) → x ≡ y
one_number zero x y h l same = omega arith
one_number (suc k) x y h l same =
    sym (div-add-mod' x 2)
    ∙ ap (λ n. n * 2 + x % 2) (one_number k (x / 2) (y / 2) (half x h) (half y l) (λ c. rw (up x c, up y c) (same (suc c))))
    ∙ ap (λ n. y / 2 * 2 + n) last
    ∙ div-add-mod' y 2
  where
    half : (z : ℕ) → z < 2 ^ suc k → z / 2 < 2 ^ k
    half z b = omega (arith, b)

    up : (z c : ℕ) → z / 2 / 2 ^ c ≡ z / 2 ^ suc c
    up z c = div-div-eq-div-mul z 2 (2 ^ c) ∙ ap (λ n. z / n) (sym (pow-succ' 2 c))

    last : x % 2 ≡ y % 2
    last = one_digit (x % 2) (y % 2) (mod-lt x (omega arith)) (mod-lt y (omega arith)) (rw (div-one x, div-one y) at (same 0))

-- so are lists of them
one_list : (a b : List ℕ) → Narrow a → Narrow b → length a ≡ length b → ((c r : ℕ) → marked a c r ≡ marked b c r) → a ≡ b
unfolding marked
one_list a b n m e same = ext_get_or 0 a b e (λ i h. one_number 16 (get_or a i 0) (get_or b i 0) (n i) (m i) (λ c. same c i))

-- ---- the theorems

pub one_blank : OneBlank
one_blank a b n m e p q = one_list a b n m e (λ c r. p c r ∙ sym (q c r))

pub one_marked_if : OneMarkedIf
one_marked_if p m a b c r n k x y = one_list a b n k (x.size ∙ sym y.size) (λ d q. go d q (eqb d c) refl (eqb q r) refl)
  where
    here : (t : Bool) → leb (length m) r ≡ t → marked a c r ≡ marked b c r
    here true e =
        unmarked_past a c r (rw x.size (leb-true (length m) r e)) ∙ sym (unmarked_past b c r (rw y.size (leb-true (length m) r e)))
    here false e = x.here (leb-false (length m) r e) ∙ sym (y.here (leb-false (length m) r e))

    go : (d q : ℕ) (s : Bool) → eqb d c ≡ s → (t : Bool) → eqb q r ≡ t → marked a d q ≡ marked b d q
    go d q false e t f = x.other d q (λ u v w. eqb-false d c e u) ∙ sym (y.other d q (λ u v w. eqb-false d c e u))
    go d q true e false f = x.other d q (λ u v w. eqb-false q r f v) ∙ sym (y.other d q (λ u v w. eqb-false q r f v))
    go d q true e true f = rw (eqb-true d c e, eqb-true q r f) (here (leb (length m) r) refl)

pub one_marked : OneMarked
one_marked m a b c r n k x y = one_marked_if true m a b c r n k (marked_yes true m a c r refl x) (marked_yes true m b c r refl y)
