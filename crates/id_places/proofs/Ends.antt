-- A line in its file: it ends where its ending begins, and no byte of it is one of an ending.
use Rattle.std.specs.Prelude.{Some, None}
use Rattle.std.proofs.lemmas.Option.{same_Some}
use mathlib.Core.Path.{◌≡◌, refl, sym, ap, ◌∙◌}
use mathlib.Core.Bool.{Bool, true, false, cond, ◌&&◌, ◌||◌}
use mathlib.Core.List.{List, [], ◌∷◌}
use Prim.Native.Nat.{ℕ, zero, suc, ◌+◌, ◌-◌, ◌≤◌, ◌<◌}
use native.Mathlib.Omega.{arith}
use lib.Dec.{eqb, ltb}
use lib.ListN.{length, get_or, take, drop, length-drop}
use lib.Seq.{get_or-drop}
use borrow.Author.Tests.{eqb-true, ltb-true}
use Rattle.meaning.specs.Lists.{any}
use Rattle.meaning.specs.Bytes.{bounds, part, end_of}
use Rattle.meaning.specs.Refusals.{rule5}
use Rattle.meaning.proofs.ListLaws.{both, and_both}
use Rattle.meaning.specs.declared.Bounds.{Bounds}
use Rattle.text.specs.Lines.{to_first, is_lf, to_lf, line_to, line_at}
use Rattle.text.proofs.Lines.{first_stands}
use Rattle.text.specs.Fields.{ends_line}

-- no LF stands before the first
no_lf : (k : ℕ) (r : List ℕ) → k ≤ to_lf r → any is_lf (take k r) ≡ false
unfolding to_first any
no_lf zero r h = refl
no_lf (suc k) [] h = refl
no_lf (suc k) (b ∷ r) h = go (eqb b 10) refl (no_lf k r)
  where
    go : (t : Bool) → eqb b 10 ≡ t → (k ≤ to_lf r → any is_lf (take k r) ≡ false) → cond (eqb b 10) true (any is_lf (take k r)) ≡ false
    go true e ih = let z : suc k ≤ 0 = rw e at h in absurd (omega arith)
    go false e ih = let z : suc k ≤ to_lf r + 1 = rw e at h in rw e (ih (omega arith))

-- a line without stray bytes and LF has no byte of an ending
pub calm : (l : List ℕ) → any is_lf l ≡ false → rule5 l ≡ false → any ends_line l ≡ false
unfolding any rule5 ends_line
calm [] p q = refl
calm (b ∷ r) p q = go (eqb b 10) refl (eqb b 13) refl (eqb b 9) refl (calm r)
  where
    go : (x : Bool) → eqb b 10 ≡ x → (y : Bool) → eqb b 13 ≡ y → (z : Bool) → eqb b 9 ≡ z → (any is_lf r ≡ false → rule5 r ≡ false → any ends_line r ≡ false)
        → cond (eqb b 10 || eqb b 13) true (any ends_line r) ≡ false
    go true e y f z g ih = both true refl (rw e at p)
    go false e true f true g ih = both true refl (rw g at q)
    go false e true f false g ih = both true refl (rw (g, f) at q)
    go false e false f true g ih = both true refl (rw g at q)
    go false e false f false g ih = rw (e, f) (ih (rw e at p) (rw (g, f) at q))

-- a byte of an ending stands where a line ends, and no LF before it
pub line_ends : (s : List ℕ) (at a e n : ℕ) → line_at s at ≡ Some (bounds a e, n) → (ends_line (get_or s e 0) ≡ true) × (any is_lf (part s (bounds a e)) ≡ false)
unfolding line_at line_to end_of part ends_line
line_ends s at a e n p = go (at + to_lf (drop at s)) refl
  where
    cr : (x : ℕ) → eqb x 13 ≡ true → (eqb x 10 || eqb x 13) ≡ true
    cr x h = rw (eqb-true x 13 h)

    lf : (x : ℕ) → x ≡ 10 → (eqb x 10 || eqb x 13) ≡ true
    lf x h = rw h

    go : (x : ℕ) → x ≡ at + to_lf (drop at s) → (ends_line (get_or s e 0) ≡ true) × (any is_lf (part s (bounds a e)) ≡ false)
    go x q = split (ltb x (length s)) refl (ltb at x && eqb (get_or s (x - 1) 0) 13) refl
      where
        split : (t : Bool) → ltb x (length s) ≡ t → (u : Bool) → (ltb at x && eqb (get_or s (x - 1) 0) 13) ≡ u
            → (ends_line (get_or s e 0) ≡ true) × (any is_lf (part s (bounds a e)) ≡ false)
        split false t u v = let z : None ≡ Some (bounds a e, n) = rw (← q, t) at p in let w : ◌≡◌ {A = ℕ} 0 1 = cc in absurd (omega arith)
        split true t true v =
            let z : Some (bounds at (x - 1), x + 1) ≡ Some (bounds a e, n) = rw (← q, t, v) at p in
            let y : ◌≡◌ {A = Bounds × ℕ} (bounds at (x - 1), x + 1) (bounds a e, n) = same_Some _ _ z in
            let i : at ≡ a = ap (λ (o : Bounds × ℕ). o.0.start) y in
            let j : x - 1 ≡ e = ap (λ (o : Bounds × ℕ). o.0.end) y in
            let w = and_both (ltb at x) (eqb (get_or s (x - 1) 0) 13) v in
            let k : e - a ≤ to_lf (drop at s) = omega arith in
            (rw (← j) (cr (get_or s (x - 1) 0) w.1), rw (← i) (no_lf (e - at) (drop at s) (omega arith)))
        split true t false v =
            let z : Some (bounds at x, x + 1) ≡ Some (bounds a e, n) = rw (← q, t, v) at p in
            let y : ◌≡◌ {A = Bounds × ℕ} (bounds at x, x + 1) (bounds a e, n) = same_Some _ _ z in
            let i : at ≡ a = ap (λ (o : Bounds × ℕ). o.0.start) y in
            let j : x ≡ e = ap (λ (o : Bounds × ℕ). o.0.end) y in
            let h : x < length s = ltb-true x (length s) t in
            let d : to_lf (drop at s) < length (drop at s) = omega (arith, length-drop at s) in
            let b : get_or s x 0 ≡ 10 = rw q (sym (get_or-drop at s (to_lf (drop at s)) 0) ∙ eqb-true _ _ (first_stands is_lf (drop at s) d)) in
            (rw (← j) (lf (get_or s x 0) b), rw (← i) (no_lf (e - at) (drop at s) (omega arith)))
