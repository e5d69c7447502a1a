-- A record that no code can be compared with is one that is outside the table, or whose place or bytes are wrong.
use mathlib.Core.Path.{◌≡◌, refl}
use mathlib.Core.Bool.{Bool, true, false, cond, not, ◌||◌}
use mathlib.Core.List.{List}
use Prim.Native.Nat.{ℕ, zero, suc, ◌+◌, ◌*◌}
use native.Mathlib.Omega.{arith}
use lib.Dec.{leb, ltb, eqb}
use lib.IntN.{ℤ, pos, negsuc}
use lib.ListN.{length, get_or}
use borrow.Author.Tests.{ltb-true, lt-ltb, leb-false, lt-leb, eqb-false, ne_eqb}
use Rattle.meaning.specs.Bytes.{bounds, part, good, fields, count_lf, value}
use Rattle.std.specs.declared.cmp.Ordering.{Ordering}
use Rattle.ranking.specs.Ranks.{compare}
use Rattle.lookups.specs.Lookup.{Standing, refused, stop_width, outside, is_place, misplaced, not_one, number_in, raw_id, standing_of, standing_to, standing}
use Rattle.lookups.specs.Promises.{Unfit, beyond, negative, past, backward, ill, several, broken}

-- ---- what each test says

either : (a b : Bool) → b ≡ true → (a || b) ≡ true
either true b h = refl
either false b h = h

module _ (s : List ℕ) (t : List ℤ) (code : List ℕ) (r : ℕ) where
  at_zero : r * stop_width + 0 ≡ r * stop_width
  at_zero = omega arith

  out : (k : Standing) → outside t r ≡ true → cond (outside t r) refused k ≡ refused
  out k h = rw h

  in_or_out : (k : Standing) → k ≡ refused → cond (outside t r) refused k ≡ refused
  in_or_out k h = go (outside t r)
    where
      go : (u : Bool) → cond u refused k ≡ refused
      go true = refl
      go false = h

  badly_placed : misplaced (length s) (number_in t r 0) (number_in t r 1) ≡ true → standing s t code r ≡ refused
  unfolding standing
  badly_placed h = in_or_out _ (rw h)

  not_field : not_one (raw_id s t r) ≡ true → standing s t code r ≡ refused
  unfolding standing standing_to
  not_field h = in_or_out _ (go (misplaced (length s) (number_in t r 0) (number_in t r 1)))
    where
      go : (u : Bool) → cond u refused (cond (not_one (raw_id s t r)) refused (standing_of (compare code (value (raw_id s t r))))) ≡ refused
      go true = refl
      go false = rw h

  raw_of : (a e : ℕ) → number_in t r 0 ≡ pos a → number_in t r 1 ≡ pos e → raw_id s t r ≡ part s (bounds a e)
  raw_of a e x y = let z : get_or t (r * stop_width) (pos 0) ≡ pos a = rw at_zero at x in rw (z, y)

  pub unfit_unsound : Unfit s t r → standing s t code r ≡ refused
  unfolding standing outside misplaced not_one
  unfit_unsound (beyond h) = rw (lt-ltb (length t) ((r + 1) * stop_width) h)
  unfit_unsound (negative zero k h e) = badly_placed (rw e)
  unfit_unsound (negative (suc zero) k h e) = badly_placed (either (not (is_place (length s) (number_in t r 0))) _ (rw e))
  unfit_unsound (negative (suc (suc j)) k h e) = absurd (omega arith)
  unfit_unsound (past zero k h e l) = badly_placed (rw (e, lt-leb k (length s) l))
  unfit_unsound (past (suc zero) k h e l) = badly_placed (either (not (is_place (length s) (number_in t r 0))) _ (rw (e, lt-leb k (length s) l)))
  unfit_unsound (past (suc (suc j)) k h e l) = absurd (omega arith)
  unfit_unsound (backward a e x y l) =
      badly_placed (either (not (is_place (length s) (number_in t r 0))) _ (either (not (is_place (length s) (number_in t r 1))) _ (rw (x, y) (lt-ltb e a l))))
  unfit_unsound (ill a e x y g) = not_field (rw (raw_of a e x y, g))
  unfit_unsound (several a e x y g) = not_field (rw (raw_of a e x y) (either (not (good (part s (bounds a e)))) _ (rw (ne_eqb _ _ g))))
  unfit_unsound (broken a e x y g) =
      not_field (rw (raw_of a e x y) (either (not (good (part s (bounds a e)))) _ (either (not (eqb (length (fields (part s (bounds a e)))) 1)) _ (rw (ne_eqb (count_lf (part s (bounds a e))) 0 (λ z. omega arith))))))

  no_order : (o : Ordering) → standing_of o ≡ refused → Unfit s t r
  no_order o e = let z : ◌≡◌ {A = ℕ} 0 1 = cc in absurd (omega arith)

  -- places that are in the file and run forward
  field_unfit : (a e : ℕ) → number_in t r 0 ≡ pos a → number_in t r 1 ≡ pos e → standing_to code (raw_id s t r) ≡ refused → Unfit s t r
  unfolding standing_to not_one
  field_unfit a e x y h = go (good raw) refl (eqb (length (fields raw)) 1) refl (eqb (count_lf raw) 0) refl (rw (raw_of a e x y) at h)
    where
      raw : List ℕ
      raw = part s (bounds a e)

      go : (p : Bool) → good raw ≡ p → (q : Bool) → eqb (length (fields raw)) 1 ≡ q → (v : Bool) → eqb (count_lf raw) 0 ≡ v
          → cond (not (good raw) || (not (eqb (length (fields raw)) 1) || not (eqb (count_lf raw) 0))) refused (standing_of (compare code (value raw))) ≡ refused → Unfit s t r
      go false i q j v k f = ill a e x y i
      go true i false j v k f = several a e x y (eqb-false _ _ j)
      go true i true j false k f = broken a e x y (let n = eqb-false (count_lf raw) 0 k in omega arith)
      go true i true j true k f = no_order (compare code (value raw)) (rw (i, j, k) at f)

  place_unfit : (a e : ℤ) → number_in t r 0 ≡ a → number_in t r 1 ≡ e → cond (misplaced (length s) a e) refused (standing_to code (raw_id s t r)) ≡ refused → Unfit s t r
  unfolding misplaced
  place_unfit (negsuc k) e x y h = negative 0 k (omega arith) x
  place_unfit (pos a) (negsuc k) x y h = negative 1 k (omega arith) y
  place_unfit (pos a) (pos e) x y h = go (leb a (length s)) refl (leb e (length s)) refl (ltb e a) refl
    where
      go : (p : Bool) → leb a (length s) ≡ p → (q : Bool) → leb e (length s) ≡ q → (v : Bool) → ltb e a ≡ v → Unfit s t r
      go false i q j v k = past 0 a (omega arith) x (leb-false a (length s) i)
      go true i false j v k = past 1 e (omega arith) y (leb-false e (length s) j)
      go true i true j true k = backward a e x y (ltb-true e a k)
      go true i true j false k = field_unfit a e x y (rw (i, j, k) at h)

  pub unsound_unfit : standing s t code r ≡ refused → Unfit s t r
  unfolding standing outside
  unsound_unfit h = go (ltb (length t) ((r + 1) * stop_width)) refl h
    where
      go : (u : Bool) → ltb (length t) ((r + 1) * stop_width) ≡ u
          → cond u refused (cond (misplaced (length s) (number_in t r 0) (number_in t r 1)) refused (standing_to code (raw_id s t r))) ≡ refused → Unfit s t r
      go true e f = beyond (ltb-true _ _ e)
      go false e f = place_unfit (number_in t r 0) (number_in t r 1) refl refl f
