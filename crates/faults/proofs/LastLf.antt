-- Laws of the bytes after the last LF, and of the lines that a file has with them.
use Prim.Native.Nat.{ℕ, suc, ◌+◌, ◌-◌, ◌≤◌}
use native.Mathlib.Omega.{arith}
use native.Mathlib.Numerals.{unary_clauses}
use mathlib.Core.Path.{◌≡◌, refl, ap, ◌∙◌}
use mathlib.Core.Logic.{◌⊎◌, inl, inr}
use mathlib.Core.Bool.{Bool, true, false, cond, not}
use mathlib.Core.List.{List, [], ◌∷◌, ◌++◌, append-nil, map}
use lib.ListN.{length, get_or, take, drop, length-append, length-drop, length-map, drop_of_length-le}
use lib.Seq.{take_at, get_or-drop}
use lib.Dec.{eqb, ltb}
use borrow.Author.Tests.{eqb-true, eqb-false, ne_eqb, ltb-true, ltb-false, not-false}
use Rattle.meaning.specs.Lists.{same, empty}
use Rattle.meaning.specs.Bytes.{Line, leading_mark, start_of, count_lf, cuts, lines_from, lines_of}
use Rattle.meaning.specs.Refusals.{may_lack, ended, rule4}
use Rattle.meaning.proofs.ListLaws.{nothing}
use Rattle.meaning.proofs.Records.{count_some}
use Rattle.text.proofs.Lines.{lines_all}
use Rattle.faults.specs.List.{after_lf, unended, texts_from, texts_of}
use Rattle.faults.specs.Promises.{LastLf}

-- ---- the bytes after the last LF

-- some front part ends where they begin
record Parted (s : List ℕ) : Type 0 where
  front : List ℕ
  last : LastLf s front (after_lf s)

-- a byte that alone makes the LF count more than 0 is LF
lf_alone : (b : ℕ) (r : List ℕ) → count_lf r ≡ 0 → (count_lf (b ∷ r) ≡ 0 → ⊥) → b ≡ 10
unfolding count_lf
lf_alone b r none some = go (eqb b 10) refl
  where
    go : (t : Bool) → eqb b 10 ≡ t → b ≡ 10
    go true e = eqb-true b 10 e
    go false e = absurd (some (rw e none))

-- a byte put before a part that ends with LF, or one that is LF itself
ends_cons : (b : ℕ) (front : List ℕ) → (front ≡ [] → b ≡ 10) → (front ≡ []) ⊎ (get_or front (length front - 1) 0 ≡ 10) → get_or (b ∷ front) (length (b ∷ front) - 1) 0 ≡ 10
ends_cons b [] alone e = alone refl
ends_cons b (c ∷ front) alone (inl e) = let z : suc (length front) ≡ 0 = ap length e in absurd (omega arith)
ends_cons b (c ∷ front) alone (inr e) = simp unary_clauses (simp unary_clauses at e)

-- every list of bytes is so
parted : (s : List ℕ) → Parted s
unfolding after_lf count_lf
parted [] = record { front = []; last = record { whole = refl; none = refl; ends = inl refl } }
parted (b ∷ r) = go (eqb (count_lf (b ∷ r)) 0) refl (parted r)
  where
    go : (t : Bool) → eqb (count_lf (b ∷ r)) 0 ≡ t → Parted r → Parted (b ∷ r)
    go true e p = record { front = []; last = rw e (record { whole = refl; none = eqb-true (count_lf (b ∷ r)) 0 e; ends = inl refl }) }
    go false e p =
        let q = p.last in
        record {
          front = b ∷ p.front;
          last =
              rw e (record {
                whole = ap (λ (l : List ℕ). b ∷ l) q.whole;
                none = q.none;
                ends = inr (ends_cons b p.front (λ z. lf_alone b r (ap count_lf (q.whole ∙ ap (λ (l : List ℕ). l ++ after_lf r) z) ∙ q.none) (eqb-false (count_lf (b ∷ r)) 0 e)) q.ends);
              });
        }

-- The bytes after the last LF are all that follows it, and the part before them is empty or ends with it.
pub after_last : (s : List ℕ) → LastLf s (take (length s - length (after_lf s)) s) (after_lf s)
after_last s =
    let p = parted s in
    let q = p.last in
    let long : length p.front ≡ length s - length (after_lf s) = omega (arith, ap length q.whole, length-append p.front (after_lf s)) in
    let e : take (length s - length (after_lf s)) s ≡ p.front = ap (take (length s - length (after_lf s))) q.whole ∙ take_at p.front (after_lf s) _ long in
    rw e q

-- after a last LF there are none
after_ended : (s : List ℕ) → get_or s (length s - 1) 0 ≡ 10 → after_lf s ≡ []
unfolding after_lf
after_ended [] e = refl
after_ended (b ∷ r) e =
    let last : get_or (b ∷ r) (length r) 0 ≡ 10 = simp unary_clauses at e in
    let some : 1 ≤ count_lf (b ∷ r) = count_some (b ∷ r) (length r) (omega arith) last in
    rw (ne_eqb (count_lf (b ∷ r)) 0 (λ z. omega arith)) (go r last (after_ended r))
  where
    go : (r : List ℕ) → get_or (b ∷ r) (length r) 0 ≡ 10 → (get_or r (length r - 1) 0 ≡ 10 → after_lf r ≡ []) → after_lf r ≡ []
    go [] e rest = refl
    go (c ∷ r) e rest = rest (simp unary_clauses e)

-- ---- the lines of a file with them

-- of a file that ends with LF there are none from any place on
after_from : (s : List ℕ) (at : ℕ) → get_or s (length s - 1) 0 ≡ 10 → after_lf (drop at s) ≡ []
unfolding after_lf
after_from s at e = go (ltb at (length s)) refl
  where
    go : (t : Bool) → ltb at (length s) ≡ t → after_lf (drop at s) ≡ []
    go true h =
        let k : at + (length (drop at s) - 1) ≡ length s - 1 = omega (arith, ltb-true at (length s) h, length-drop at s) in
        after_ended (drop at s) (rw (get_or-drop at s (length (drop at s) - 1) 0, k) e)
    go false h = rw (drop_of_length-le s (ltb-false at (length s) h))

-- the texts of lines
abbrev pub texts : List Line → List (List ℕ)
texts ls = map (λ l. l.text) ls

-- Where no byte is left after the last LF, a file's lines are those that end with LF.
pub texts_ended : (s : List ℕ) → after_lf (drop (start_of s) s) ≡ [] → texts_of s ≡ texts (lines_of s)
unfolding texts_of texts_from lines_of unended empty
texts_ended s e = rw (e, append-nil)

-- Where some are left, they are one line more, the last, as they stand.
pub texts_unended : (s : List ℕ) → (after_lf (drop (start_of s) s) ≡ [] → ⊥) → texts_of s ≡ texts (lines_of s) ++ (after_lf (drop (start_of s) s) ∷ [])
unfolding texts_of texts_from lines_of unended empty
texts_unended s some =
    let left = after_lf (drop (start_of s) s) in
    rw (ne_eqb (length left) 0 (λ e. some (nothing left (omega arith))))

-- A file that keeps rule 4 has just the lines that end with LF.
pub texts_kept : (files : List (List ℕ)) (f : ℕ) (s : List ℕ) → rule4 files f s 0 ≡ false → texts_of s ≡ texts (lines_of s)
unfolding rule4 ended empty after_lf start_of same leading_mark
texts_kept files f s kept = texts_ended s (go s kept)
  where
    go : (s : List ℕ) → cond (empty s) (not (may_lack files f)) (not (eqb (get_or s (length s - 1) 0) 10)) ≡ false → after_lf (drop (start_of s) s) ≡ []
    go [] h = refl
    go (b ∷ r) h = after_from (b ∷ r) (start_of (b ∷ r)) (eqb-true _ 10 (not-false _ (rw (ne_eqb (length (b ∷ r)) 0 (λ z. omega arith)) at h)))

-- An empty file has no line.
pub texts_none : texts_of [] ≡ []
unfolding texts_of texts_from lines_from start_of same leading_mark cuts unended empty after_lf
texts_none = refl

-- at most one line is unended
unended_few : (r : List ℕ) → length (unended r) ≤ 1
unfolding unended
unended_few r = go (empty (after_lf r))
  where
    go : (t : Bool) → length (cond t [] (after_lf r ∷ [])) ≤ 1
    go true = omega arith
    go false = omega arith

-- A file has at most one line more than LF bytes.
pub texts_few : (s : List ℕ) → length (texts_of s) ≤ count_lf s + 1
unfolding texts_of texts_from lines_of
texts_few s =
    let at = start_of s in
    omega (arith, length-append (texts (lines_from s at)) (unended (drop at s)), length-map (lines_from s at) (λ l. l.text), lines_all s, unended_few (drop at s))
