-- Laws of lines: the LF count, the mark at a file's start, and a step along a file.
use Rattle.std.specs.Prelude.{Some, None}
use Rattle.std.proofs.lemmas.Option.{same_Some}
use Rattle.meaning.specs.declared.Bounds.{Bounds}
use mathlib.Core.Path.{◌≡◌, refl, sym, ap, ◌∙◌}
use mathlib.Core.Bool.{Bool, true, false, cond, ◌&&◌, ◌||◌}
use mathlib.Core.List.{List, [], ◌∷◌, ◌++◌}
use Prim.Native.Nat.{ℕ, zero, suc, ◌+◌, ◌-◌, ◌≤◌, ◌<◌}
use native.Mathlib.Numerals.{add-one}
use native.Mathlib.Omega.{arith}
use native.Mathlib.Nat.{not-suc-le-zero, add-zero}
use lib.Dec.{eqb, ltb}
use lib.ListN.{length, get_or, take, drop, length-drop, length-take, length-map, take-append-drop}
use lib.Seq.{drop-drop}
use borrow.Author.Tests.{eq-eqb, ne_eqb, lt-ltb, le-ltb, ltb-true, ltb-false}
use Rattle.meaning.specs.Lists.{same, any}
use Rattle.meaning.specs.Bytes.{bounds, leading_mark, start_of, count_lf, cuts, end_of, line_of, lines_from, lines_of}
use Rattle.meaning.specs.Refusals.{ended}
use Rattle.meaning.proofs.ListLaws.{same_equal, both}
use Rattle.meaning.proofs.Records.{cuts_count}
use Rattle.text.specs.Lines.{to_first, is_lf, to_lf, line_to, line_at, LineStands}
use Rattle.text.proofs.Laws.{drop_next, drop_over, same_no}

-- the LF bytes of two parts
count_lf_append : (a b : List ℕ) → count_lf (a ++ b) ≡ count_lf a + count_lf b
unfolding count_lf
count_lf_append [] b = omega arith
count_lf_append (x ∷ a) b = go (eqb x 10) (count_lf_append a b)
  where
    go : (t : Bool) → count_lf (a ++ b) ≡ count_lf a + count_lf b
        → cond t (count_lf (a ++ b) + 1) (count_lf (a ++ b)) ≡ cond t (count_lf a + 1) (count_lf a) + count_lf b
    go true h = omega arith
    go false h = h

-- no more LF bytes than bytes
pub count_lf_most : (s : List ℕ) → count_lf s ≤ length s
unfolding count_lf
count_lf_most [] = omega arith
count_lf_most (b ∷ r) = go (eqb b 10) (count_lf_most r)
  where
    go : (t : Bool) → count_lf r ≤ length r → cond t (count_lf r + 1) (count_lf r) ≤ suc (length r)
    go true h = omega arith
    go false h = omega arith

-- a turn along the blocks, from i to j, on how many LF are left
module _ (s : List ℕ) (i j : ℕ) where
  pub block_short : (m : ℕ) → j - i ≤ m → length (take (j - i) (drop i s)) ≤ m
  block_short m k = omega (arith, length-take (j - i) (drop i s))

  pub count_lf_block : (n v k : ℕ) → i ≤ j → v ≡ count_lf (take (j - i) (drop i s)) → n + count_lf (drop i s) ≡ k → n + v + count_lf (drop j s) ≡ k
  count_lf_block n v k h e inv =
      let d : i + (j - i) ≡ j = omega arith in
      let z : count_lf (drop i s) ≡ count_lf (take (j - i) (drop i s)) + count_lf (drop (j - i) (drop i s)) =
      ap count_lf (sym (take-append-drop (j - i) (drop i s))) ∙ count_lf_append (take (j - i) (drop i s)) (drop (j - i) (drop i s)) in
      let y : count_lf (drop (j - i) (drop i s)) ≡ count_lf (drop j s) = rw (drop-drop (j - i) i s, d) in
      omega arith

-- a turn along the bytes, on how far the first is of which a test holds
module _ (P : ℕ → Bool) (s : List ℕ) (i k : ℕ) (inv : i + to_first P (drop i s) ≡ k) where
  pub first_here : i < length s → P (get_or s i 0) ≡ true → i ≡ k
  unfolding to_first
  first_here more e = let z : to_first P (drop i s) ≡ 0 = rw (drop_next s i, e) in omega arith

  pub first_next : i < length s → P (get_or s i 0) ≡ false → i + 1 + to_first P (drop (i + 1) s) ≡ k
  unfolding to_first
  first_next more e = let z : to_first P (drop i s) ≡ to_first P (drop (i + 1) s) + 1 = rw (drop_next s i, e) in omega arith

  pub first_over : length s ≤ i → i ≡ k
  unfolding to_first
  first_over over = let z : to_first P (drop i s) ≡ 0 = rw (drop_over s i over) in omega arith

-- where bytes are left, the first is one of them
pub first_stands : (P : ℕ → Bool) (r : List ℕ) → to_first P r < length r → P (get_or r (to_first P r) 0) ≡ true
unfolding to_first
first_stands P [] h = absurd (not-suc-le-zero h)
first_stands P (b ∷ r) h = go (P b) refl (first_stands P r)
  where
    go : (t : Bool) → P b ≡ t → (to_first P r < length r → P (get_or r (to_first P r) 0) ≡ true) → P (get_or (b ∷ r) (cond (P b) 0 (to_first P r + 1)) 0) ≡ true
    go true e ih = rw e e
    go false e ih =
        let z : to_first P r + 1 < suc (length r) = rw e at h in
        rw (e, add-one (to_first P r)) (ih (omega arith))

-- bytes without an LF are before the first
lf_past : (n : ℕ) (r : List ℕ) → n ≤ length r → any is_lf (take n r) ≡ false → to_lf r ≡ n + to_lf (drop n r)
unfolding any to_first
lf_past zero r h e = omega arith
lf_past (suc n) [] h e = absurd (not-suc-le-zero h)
lf_past (suc n) (b ∷ r) h e = go (eqb b 10) refl (lf_past n r (omega arith))
  where
    go : (t : Bool) → eqb b 10 ≡ t → (any is_lf (take n r) ≡ false → to_lf r ≡ n + to_lf (drop n r)) → to_lf (b ∷ r) ≡ suc n + to_lf (drop n r)
    go true d ih = both true refl (rw d at e)
    go false d ih = rw d (omega (arith, ih (rw d at e)))

pub to_lf_block : (s : List ℕ) (i j : ℕ) (v : Bool) (k : ℕ) → i ≤ j → j ≤ length s → v ≡ any is_lf (take (j - i) (drop i s)) → v ≡ false → i + to_lf (drop i s) ≡ k → j + to_lf (drop j s) ≡ k
to_lf_block s i j v k h w e z inv =
    let d : i + (j - i) ≡ j = omega arith in
    let y : to_lf (drop i s) ≡ j - i + to_lf (drop (j - i) (drop i s)) = lf_past (j - i) (drop i s) (omega (arith, length-drop i s)) (sym e ∙ z) in
    let x : to_lf (drop (j - i) (drop i s)) ≡ to_lf (drop j s) = rw (drop-drop (j - i) i s, d) in
    omega arith

-- a turn along the bytes, on whether a test holds of one
pub any_turn : (P : ℕ → Bool) (s : List ℕ) (i : ℕ) → i < length s → (t u k : Bool) → u ≡ (t || P (get_or s i 0)) → (t || any P (drop i s)) ≡ k → (u || any P (drop (i + 1) s)) ≡ k
unfolding any
any_turn P s i more t u k e inv = rw e (go t (P (get_or s i 0)) refl (rw (drop_next s i more) at inv))
  where
    go : (t v : Bool) → P (get_or s i 0) ≡ v → (t || cond v true (any P (drop (i + 1) s))) ≡ k → ((t || v) || any P (drop (i + 1) s)) ≡ k
    go true v p q = q
    go false true p q = q
    go false false p q = q

pub any_over : (P : ℕ → Bool) (s : List ℕ) (i : ℕ) → length s ≤ i → (t k : Bool) → (t || any P (drop i s)) ≡ k → t ≡ k
unfolding any
any_over P s i over t k inv = go t (rw (drop_over s i over) at inv)
  where
    go : (t : Bool) → (t || false) ≡ k → t ≡ k
    go true q = q
    go false q = q

-- a turn along the bytes, on how many LF are left and how far the first is
module _ (s : List ℕ) (i : ℕ) (more : i < length s) where
  pub count_lf_next : (n v k : ℕ) → v ≡ count_lf (get_or s i 0 ∷ []) → n + count_lf (drop i s) ≡ k → n + v + count_lf (drop (i + 1) s) ≡ k
  count_lf_next n v k e inv =
      let z : count_lf (drop i s) ≡ count_lf (get_or s i 0 ∷ []) + count_lf (drop (i + 1) s) =
      ap count_lf (drop_next s i more) ∙ count_lf_append (get_or s i 0 ∷ []) (drop (i + 1) s) in
      omega arith

pub count_lf_over : (s : List ℕ) (i n k : ℕ) → length s ≤ i → n + count_lf (drop i s) ≡ k → n ≡ k
unfolding count_lf
count_lf_over s i n k h inv = let z : count_lf (drop i s) ≡ 0 = rw (drop_over s i h) in omega arith

-- an empty file has no last byte
pub unended : (s : List ℕ) → length s ≤ 0 → false ≡ ended s
unfolding ended
unended [] h = refl
unended (b ∷ r) h = absurd (not-suc-le-zero h)

-- the mark at a file's start
pub start_short : (s : List ℕ) → length s < 3 → 0 ≡ start_of s
unfolding start_of leading_mark
start_short s h = rw (same_no (take 3 s) leading_mark (λ e. omega (arith, length-take 3 s, ap length e)))

start_test : (s : List ℕ) → 3 ≤ length s
    → same (take 3 s) leading_mark ≡ (eqb (get_or s 0 0) 0xEF && (eqb (get_or s 1 0) 0xBB && eqb (get_or s 2 0) 0xBF))
unfolding same leading_mark
start_test [] h = absurd (not-suc-le-zero h)
start_test (a ∷ []) h = absurd (omega arith)
start_test (a ∷ b ∷ []) h = absurd (omega arith)
start_test (a ∷ b ∷ c ∷ r) h = go (eqb a 0xEF) (eqb b 0xBB) (eqb c 0xBF)
  where
    go : (x y z : Bool) → cond x (cond y (cond z true false) false) false ≡ (x && (y && z))
    go true true true = refl
    go true true false = refl
    go true false z = refl
    go false y z = refl

module _ (s : List ℕ) (long : 3 ≤ length s) where
  pub start_marked : get_or s 0 0 ≡ 0xEF → get_or s 1 0 ≡ 0xBB → get_or s 2 0 ≡ 0xBF → 3 ≡ start_of s
  unfolding start_of
  start_marked x y z = rw (start_test s long, eq-eqb _ _ x, eq-eqb _ _ y, eq-eqb _ _ z)

  pub start_first : (get_or s 0 0 ≡ 0xEF → ⊥) → 0 ≡ start_of s
  unfolding start_of
  start_first x = rw (start_test s long, ne_eqb _ _ x)

  pub start_second : get_or s 0 0 ≡ 0xEF → (get_or s 1 0 ≡ 0xBB → ⊥) → 0 ≡ start_of s
  unfolding start_of
  start_second x y = rw (start_test s long, eq-eqb _ _ x, ne_eqb _ _ y)

  pub start_third : get_or s 0 0 ≡ 0xEF → get_or s 1 0 ≡ 0xBB → (get_or s 2 0 ≡ 0xBF → ⊥) → 0 ≡ start_of s
  unfolding start_of
  start_third x y z = rw (start_test s long, eq-eqb _ _ x, eq-eqb _ _ y, ne_eqb _ _ z)

-- the mark has no LF
pub start_count : (s : List ℕ) → count_lf (drop (start_of s) s) ≡ count_lf s
unfolding start_of count_lf leading_mark
start_count s = go (same (take 3 s) leading_mark) refl
  where
    go : (t : Bool) → same (take 3 s) leading_mark ≡ t → count_lf (drop (cond t 3 0) s) ≡ count_lf s
    go false e = refl
    go true e =
        let p : take 3 s ≡ leading_mark = same_equal (take 3 s) leading_mark e in
        ap count_lf (ap (λ (l : List ℕ). l ++ drop 3 s) (sym p) ∙ take-append-drop 3 s)

-- the line from `at` with its LF at e, in the order of the code
module _ (s : List ℕ) (at e : ℕ) where
  pub to_none : length s ≤ e → None ≡ line_to s at e
  unfolding line_to
  to_none h = rw (le-ltb e (length s) h)

  module _ (more : e < length s) where
    pub to_cr : at < e → get_or s (e - 1) 0 ≡ 13 → Some (bounds at (e - 1), e + 1) ≡ line_to s at e
    unfolding line_to end_of
    to_cr h c = rw (lt-ltb e (length s) more, lt-ltb at e h, eq-eqb _ _ c)

    pub to_lf_lem : at < e → (get_or s (e - 1) 0 ≡ 13 → ⊥) → Some (bounds at e, e + 1) ≡ line_to s at e
    unfolding line_to end_of
    to_lf_lem h c = rw (lt-ltb e (length s) more, lt-ltb at e h, ne_eqb _ _ c)

    pub to_empty : e ≤ at → Some (bounds at e, e + 1) ≡ line_to s at e
    unfolding line_to end_of
    to_empty h = rw (lt-ltb e (length s) more, le-ltb at e h)

-- the lines from a byte on, by the first LF there
cuts_end : (st at : ℕ) (r : List ℕ) → length r ≤ to_lf r → cuts st at r ≡ []
unfolding cuts to_first
cuts_end st at [] h = refl
cuts_end st at (b ∷ r) h = go (eqb b 10) refl (cuts_end st (at + 1) r)
  where
    go : (t : Bool) → eqb b 10 ≡ t → (length r ≤ to_lf r → cuts st (at + 1) r ≡ []) → cuts st at (b ∷ r) ≡ []
    go true e ih = let z : length (b ∷ r) ≤ 0 = rw e at h in absurd (not-suc-le-zero z)
    go false e ih = let z : suc (length r) ≤ to_lf r + 1 = rw e at h in rw e (ih (omega arith))

cuts_step : (st at : ℕ) (r : List ℕ) → to_lf r < length r
    → cuts st at r ≡ bounds st (at + to_lf r) ∷ cuts (at + to_lf r + 1) (at + to_lf r + 1) (drop (to_lf r + 1) r)
unfolding cuts to_first
cuts_step st at [] h = absurd (not-suc-le-zero h)
cuts_step st at (b ∷ r) h = go (eqb b 10) refl (cuts_step st (at + 1) r)
  where
    go : (t : Bool) → eqb b 10 ≡ t
        → (to_lf r < length r → cuts st (at + 1) r ≡ bounds st (at + 1 + to_lf r) ∷ cuts (at + 1 + to_lf r + 1) (at + 1 + to_lf r + 1) (drop (to_lf r + 1) r))
        → cuts st at (b ∷ r) ≡ bounds st (at + to_lf (b ∷ r)) ∷ cuts (at + to_lf (b ∷ r) + 1) (at + to_lf (b ∷ r) + 1) (drop (to_lf (b ∷ r) + 1) (b ∷ r))
    go true e ih = rw (e, add-zero at)
    go false e ih =
        let z : to_lf r + 1 < suc (length r) = rw e at h in
        let k : at + (to_lf r + 1) ≡ at + 1 + to_lf r = omega arith in
        rw (e, k, add-one (to_lf r + 1)) (ih (omega arith))

pub lines_over : (s : List ℕ) (at : ℕ) → length s ≤ at → lines_from s at ≡ []
unfolding lines_from cuts
lines_over s at h = rw (drop_over s at h)

ending_within : (s : List ℕ) (at e : ℕ) → at ≤ e → (at ≤ end_of s at e) × (end_of s at e ≤ e)
unfolding end_of
ending_within s at e h = go (ltb at e) refl (eqb (get_or s (e - 1) 0) 13)
  where
    go : (t : Bool) → ltb at e ≡ t → (u : Bool) → (at ≤ cond (t && u) (e - 1) e) × (cond (t && u) (e - 1) e ≤ e)
    go true p true = let z : at < e = ltb-true at e p in omega arith
    go true p false = omega arith
    go false p u = omega arith

module _ (s : List ℕ) (at e : ℕ) (ends : e ≡ at + to_lf (drop at s)) where
  lines_none : length s ≤ e → lines_from s at ≡ []
  unfolding lines_from
  lines_none h =
      let z : length (drop at s) ≤ to_lf (drop at s) = omega (arith, length-drop at s) in
      rw (cuts_end at at (drop at s) z)

  lines_some : e < length s → lines_from s at ≡ line_of s (bounds at e) ∷ lines_from s (e + 1)
  unfolding lines_from
  lines_some h =
      let z : to_lf (drop at s) < length (drop at s) = omega (arith, length-drop at s) in
      let d : at + (to_lf (drop at s) + 1) ≡ at + to_lf (drop at s) + 1 = omega arith in
      let q : cuts at at (drop at s) ≡ bounds at e ∷ cuts (e + 1) (e + 1) (drop (e + 1) s) =
      rw (ends, ← d, ← drop-drop (to_lf (drop at s) + 1) at s) (rw d (cuts_step at at (drop at s) z)) in
      rw q

  to_found : (a x n : ℕ) → line_to s at e ≡ Some (bounds a x, n) → LineStands s at a x n
  unfolding line_to line_of
  to_found a x n p = go (ltb e (length s)) refl
    where
      go : (t : Bool) → ltb e (length s) ≡ t → LineStands s at a x n
      go false t = let z : None ≡ Some (bounds a x, n) = rw t at p in let w : ◌≡◌ {A = ℕ} 0 1 = cc in absurd (omega arith)
      go true t =
          let h : e < length s = ltb-true e (length s) t in
          let z : Some (bounds at (end_of s at e), e + 1) ≡ Some (bounds a x, n) = rw t at p in
          let v : ◌≡◌ {A = Bounds × ℕ} (bounds at (end_of s at e), e + 1) (bounds a x, n) = same_Some _ _ z in
          let i : at ≡ a = ap (λ (u : Bounds × ℕ). u.0.start) v in
          let j : end_of s at e ≡ x = ap (λ (u : Bounds × ℕ). u.0.end) v in
          let k : e + 1 ≡ n = ap (λ (u : Bounds × ℕ). u.1) v in
          let w = ending_within s at e (omega arith) in
          record {
            starts = sym i;
            ordered = omega arith;
            before = omega arith;
            within = omega arith;
            lines = rw (← i, ← j, ← k) (lines_some h);
          }

  to_end : line_to s at e ≡ None → lines_from s at ≡ []
  unfolding line_to
  to_end p = go (ltb e (length s)) refl
    where
      go : (t : Bool) → ltb e (length s) ≡ t → lines_from s at ≡ []
      go false t = lines_none (ltb-false e (length s) t)
      go true t =
          let z : Some (bounds at (end_of s at e), e + 1) ≡ None = rw t at p in
          let w : ◌≡◌ {A = ℕ} 0 1 = cc in absurd (omega arith)

-- a step that finds a line, from any byte
pub line_found : (s : List ℕ) (at a e n : ℕ) → line_at s at ≡ Some (bounds a e, n) → LineStands s at a e n
unfolding line_at
line_found s at a e n p = to_found s at (at + to_lf (drop at s)) refl a e n p

-- a step that finds none
pub line_none : (s : List ℕ) (at : ℕ) → line_at s at ≡ None → lines_from s at ≡ []
unfolding line_at
line_none s at p = to_end s at (at + to_lf (drop at s)) refl p

-- as many lines as LF bytes
pub lines_count : (s : List ℕ) (at : ℕ) → length (lines_from s at) ≡ count_lf (drop at s)
unfolding lines_from
lines_count s at = length-map (cuts at at (drop at s)) (line_of s) ∙ cuts_count at at (drop at s)

pub lines_all : (s : List ℕ) → length (lines_of s) ≡ count_lf s
unfolding lines_of
lines_all s = lines_count s (start_of s) ∙ start_count s
