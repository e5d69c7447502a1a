-- Tables that are one another from a number on.
use mathlib.Core.Path.{◌≡◌, sym, ap, ◌∙◌}
use mathlib.Core.List.{List, ◌++◌}
use Prim.Native.Nat.{ℕ, ◌+◌, ◌*◌, ◌-◌, ◌/◌, ◌%◌, ◌≤◌, ◌<◌}
use native.Mathlib.Omega.{arith}
use native.Mathlib.Nat.{div-add-mod', mod-lt, le-div_iff_mul-le}
use lib.IntN.{ℤ, pos}
use lib.ListN.{length, get_or, drop, length-drop}
use lib.Seq.{ext_get_or, get_or-drop, get_or-append-add}
use Rattle.meaning.specs.Lists.{laid}
use Rattle.rows.proofs.Records.{laid_length}
use Rattle.ordering.specs.Cells.{KeptAt}
use Rattle.tables.specs.Walk.{Beyond}

pub beyond_trans : {m : ℕ} {t u v : List ℤ} → Beyond m t u → Beyond m u v → Beyond m t v
beyond_trans p q = record { size = q.size ∙ p.size; same = λ j h. q.same j h ∙ p.same j h }

-- what is laid at the start leaves the rest
pub laid_rest : (xs t : List ℤ) (j : ℕ) → length xs ≤ j → get_or (laid xs t) j (pos 0) ≡ get_or t j (pos 0)
unfolding laid
laid_rest xs t j k =
    let d : length xs + (j - length xs) ≡ j = omega arith in
    rw d at (get_or-append-add xs (drop (length xs) t) (j - length xs) (pos 0) ∙ get_or-drop (length xs) t (j - length xs) (pos 0))

pub laid_beyond : (xs t : List ℤ) (m : ℕ) → length xs ≡ m → m ≤ length t → Beyond m t (laid xs t)
laid_beyond xs t m e h = record { size = laid_length xs t (omega arith); same = λ j k. laid_rest xs t j (omega arith) }

-- .. and takes nothing else from what was lent
pub laid_past : (xs t u : List ℤ) → Beyond (length xs) t u → laid xs u ≡ laid xs t
unfolding laid
laid_past xs t u p = ap (λ (v : List ℤ). xs ++ v) (ext_get_or (pos 0) (drop m u) (drop m t) long at)
  where
    m : ℕ
    m = length xs

    long : length (drop m u) ≡ length (drop m t)
    long = length-drop m u ∙ ap (λ (k : ℕ). k - m) p.size ∙ sym (length-drop m t)

    at : (i : ℕ) → i < length (drop m u) → get_or (drop m u) i (pos 0) ≡ get_or (drop m t) i (pos 0)
    at i h = get_or-drop m u i (pos 0) ∙ p.same (m + i) (omega arith) ∙ sym (get_or-drop m t i (pos 0))

within : {n w j : ℕ} → 0 < w → n * w ≤ j → n ≤ j / w
within h k = (le-div_iff_mul-le h).1 k

-- an order leaves what is past its records
pub kept_beyond : (o w n : ℕ) (t u : List ℤ) → o < w → KeptAt o w n t u → Beyond ((n + 1) * w) t u
kept_beyond o w n t u wide p = record { size = p.size; same = λ j h. rw (div-add-mod' j w) at (at j h) }
  where
    at : (j : ℕ) → (n + 1) * w ≤ j → get_or u (j / w * w + j % w) (pos 0) ≡ get_or t (j / w * w + j % w) (pos 0)
    at j h =
        let l : n + 1 ≤ j / w = within (omega arith) h in
        p.same (j / w) (j % w) (mod-lt j (omega arith)) (λ a b c. omega arith)
