-- A step along all the lines of a file: a line that an LF ends, the bytes after the last LF, or none any more.
use Rattle.std.specs.Prelude.{Option, Some, None}
use Rattle.std.specs.Option.{option_or}
use Rattle.std.specs.Bool.{then_some}
use Rattle.std.proofs.lemmas.Option.{same_Some}
use Prim.Native.Nat.{ℕ, suc, ◌+◌, ◌-◌, ◌≤◌, ◌<◌}
use native.Mathlib.Omega.{arith}
use native.Mathlib.Nat.{not-suc-le-zero}
use native.Mathlib.Numerals.{add-one}
use mathlib.Core.Path.{◌≡◌, refl, sym, ap, ◌∙◌}
use mathlib.Core.Bool.{Bool, true, false, cond}
use mathlib.Core.List.{List, [], ◌∷◌}
use lib.ListN.{length, drop, length-drop}
use lib.Seq.{drop-drop, take_all}
use lib.Dec.{eqb, ltb}
use borrow.Author.Tests.{eq-eqb, ne_eqb, ltb-true, ltb-false}
use Rattle.meaning.specs.Lists.{empty}
use Rattle.meaning.specs.Bytes.{bounds, part, count_lf}
use Rattle.meaning.specs.declared.Bounds.{Bounds}
use Rattle.text.specs.Lines.{to_first, to_lf, line_to, line_at}
use Rattle.text.proofs.Laws.{drop_over}
use Rattle.text.proofs.Lines.{line_found, line_none, lines_over}
use Rattle.faults.specs.List.{after_lf, unended, texts_from}
use Rattle.forms.proofs.Laws.{chosen}
use Rattle.file_faults.specs.Walk.{or_rest, any_at, AnyStands}

-- ---- the bytes after the last LF, by the first LF

no_lf : (r : List ℕ) → length r ≤ to_lf r → count_lf r ≡ 0
unfolding count_lf to_first
no_lf [] h = refl
no_lf (b ∷ r) h = go (eqb b 10) refl (no_lf r)
  where
    go : (t : Bool) → eqb b 10 ≡ t → (length r ≤ to_lf r → count_lf r ≡ 0) → count_lf (b ∷ r) ≡ 0
    go true e rest = let z : length (b ∷ r) ≤ 0 = rw e at h in absurd (not-suc-le-zero z)
    go false e rest = let z : suc (length r) ≤ to_lf r + 1 = rw e at h in rw e (rest (omega arith))

some_lf : (r : List ℕ) → to_lf r < length r → count_lf r ≡ 0 → ⊥
unfolding count_lf to_first
some_lf [] h z = not-suc-le-zero h
some_lf (b ∷ r) h z = go (eqb b 10) refl (some_lf r)
  where
    go : (t : Bool) → eqb b 10 ≡ t → (to_lf r < length r → count_lf r ≡ 0 → ⊥) → ⊥
    go true e rest = let y : count_lf r + 1 ≡ 0 = rw e at z in omega arith
    go false e rest =
        let y : count_lf r ≡ 0 = rw e at z in
        let k : to_lf r + 1 < suc (length r) = rw e at h in
        rest (omega arith) y

-- where there is no LF they are all
after_all : (r : List ℕ) → length r ≤ to_lf r → after_lf r ≡ r
unfolding after_lf
after_all [] h = refl
after_all (b ∷ r) h = rw (eq-eqb (count_lf (b ∷ r)) 0 (no_lf (b ∷ r) h))

-- else they are those after what follows the first
after_step : (r : List ℕ) → to_lf r < length r → after_lf r ≡ after_lf (drop (to_lf r + 1) r)
unfolding after_lf to_first
after_step [] h = absurd (not-suc-le-zero h)
after_step (b ∷ r) h = rw (ne_eqb (count_lf (b ∷ r)) 0 (some_lf (b ∷ r) h)) (go (eqb b 10) refl (after_step r))
  where
    go : (t : Bool) → eqb b 10 ≡ t → (to_lf r < length r → after_lf r ≡ after_lf (drop (to_lf r + 1) r)) → after_lf r ≡ after_lf (drop (to_lf (b ∷ r) + 1) (b ∷ r))
    go true e rest = rw e
    go false e rest = let k : to_lf r + 1 < suc (length r) = rw e at h in rw (e, add-one (to_lf r + 1)) (rest (omega arith))

-- ---- a step

-- from a file's end on there is no line
nothing_over : (s : List ℕ) (at : ℕ) → length s ≤ at → texts_from s at ≡ []
unfolding texts_from unended after_lf empty
nothing_over s at h = rw (lines_over s at h, drop_over s at h)

module _ (s : List ℕ) (at : ℕ) where
  abbrev to : ℕ
  to = at + to_lf (drop at s)

  found_to : (a e n : ℕ) → line_at s at ≡ Some (bounds a e, n) → (to < length s) × (n ≡ to + 1)
  unfolding line_at line_to
  found_to a e n p = go (ltb to (length s)) refl
    where
      go : (t : Bool) → ltb to (length s) ≡ t → (to < length s) × (n ≡ to + 1)
      go true t = let z : Some (bounds at _, to + 1) ≡ Some (bounds a e, n) = rw t at p in let k : to + 1 ≡ n = ap (λ (v : Bounds × ℕ). v.1) (same_Some _ _ z) in (ltb-true to (length s) t, sym k)
      go false t = let z : None ≡ Some (bounds a e, n) = rw t at p in let w : ◌≡◌ {A = ℕ} 0 1 = cc in absurd (omega arith)

  none_to : line_at s at ≡ None → length s ≤ to
  unfolding line_at line_to
  none_to p = go (ltb to (length s)) refl
    where
      go : (t : Bool) → ltb to (length s) ≡ t → length s ≤ to
      go true t = let z : Some (bounds at _, to + 1) ≡ None = rw t at p in let w : ◌≡◌ {A = ℕ} 0 1 = cc in absurd (omega arith)
      go false t = ltb-false to (length s) t

  -- a line that an LF ends
  any_line : (a e n : ℕ) → line_at s at ≡ Some (bounds a e, n) → AnyStands s at a e n
  unfolding texts_from unended
  any_line a e n p =
      let l = line_found s at a e n p in
      let t = found_to a e n p in
      let d : n ≡ at + (to_lf (drop at s) + 1) = omega arith in
      let same : after_lf (drop at s) ≡ after_lf (drop n s) =
      after_step (drop at s) (omega (arith, length-drop at s)) ∙ rw (d, ← drop-drop (to_lf (drop at s) + 1) at s) in
      record {
        ordered = l.ordered;
        within = omega (arith, l.before, l.within);
        further = omega (arith, l.starts, l.ordered, l.before);
        inside = l.within;
        texts = rw (l.lines, same);
      }

  -- the bytes after the last LF
  any_rest : line_at s at ≡ None → at < length s → AnyStands s at at (length s) (length s)
  unfolding texts_from unended empty part
  any_rest p h =
      let long : length (drop at s) ≡ length s - at = length-drop at s in
      let rest : after_lf (drop at s) ≡ drop at s = after_all (drop at s) (omega (arith, none_to p)) in
      let some : length (drop at s) ≡ 0 → ⊥ = λ z. omega arith in
      record {
        ordered = omega arith;
        within = omega arith;
        further = h;
        inside = omega arith;
        texts = rw (line_none s at p, rest, ne_eqb (length (drop at s)) 0 some, nothing_over s (length s) (omega arith), take_all (length s - at) (drop at s) (omega arith));
      }

-- what a step finds
pub any_found : (s : List ℕ) (at a e n : ℕ) → any_at s at ≡ Some (bounds a e, n) → AnyStands s at a e n
unfolding any_at
any_found s at a e n p = go (line_at s at) refl
  where
    rest : (t : Bool) → ltb at (length s) ≡ t → line_at s at ≡ None → cond {A = Option (Bounds × ℕ)} t (Some (bounds at (length s), length s)) None ≡ Some (bounds a e, n) → AnyStands s at a e n
    rest true h d q =
        let v : ◌≡◌ {A = Bounds × ℕ} (bounds at (length s), length s) (bounds a e, n) = same_Some _ _ q in
        let x : at ≡ a = ap (λ (u : Bounds × ℕ). u.0.start) v in
        let y : length s ≡ e = ap (λ (u : Bounds × ℕ). u.0.end) v in
        let z : length s ≡ n = ap (λ (u : Bounds × ℕ). u.1) v in
        rw (← x, ← y, ← z) (any_rest s at d (ltb-true at (length s) h))
    rest false h d q = let w : ◌≡◌ {A = ℕ} 0 1 = cc in absurd (omega arith)

    go : (x : Option (Bounds × ℕ)) → line_at s at ≡ x → AnyStands s at a e n
    go (Some x) q = any_line s at a e n (q ∙ rw q at p)
    go None q = rest (ltb at (length s)) refl q (rw q at p)

pub any_none : (s : List ℕ) (at : ℕ) → any_at s at ≡ None → texts_from s at ≡ []
unfolding any_at texts_from
any_none s at p = go (line_at s at) refl
  where
    over : (t : Bool) → ltb at (length s) ≡ t → cond {A = Option (Bounds × ℕ)} t (Some (bounds at (length s), length s)) None ≡ None → texts_from s at ≡ []
    over true h q = let w : ◌≡◌ {A = ℕ} 0 1 = cc in absurd (omega arith)
    over false h q = nothing_over s at (ltb-false at (length s) h)

    go : (x : Option (Bounds × ℕ)) → line_at s at ≡ x → texts_from s at ≡ []
    go (Some x) q = let z : Some x ≡ None = rw q at p in let w : ◌≡◌ {A = ℕ} 0 1 = cc in absurd (omega arith)
    go None q = over (ltb at (length s)) refl (rw q at p)

-- the same in the library's words
pub or_is : (s : List ℕ) (at : ℕ) (o : Option (Bounds × ℕ)) → option_or o (then_some (ltb at (length s)) (bounds at (length s), length s)) ≡ or_rest s at o
or_is s at (Some x) = refl
or_is s at None = chosen (ltb at (length s)) (bounds at (length s), length s)
