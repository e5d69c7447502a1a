-- Laws of values: content, doubled marks, length, equality, and values with no mark in them.
use mathlib.Core.Path.{◌≡◌, refl, sym, ap, ◌∙◌}
use mathlib.Core.Bool.{Bool, true, false, cond, ◌&&◌}
use mathlib.Core.List.{List, [], ◌∷◌}
use Prim.Native.Nat.{ℕ, suc, ◌+◌, ◌-◌, ◌≤◌, ◌<◌}
use native.Mathlib.Omega.{arith}
use native.Mathlib.Nat.{not-suc-le-zero}
use lib.Dec.{eqb, leb}
use lib.ListN.{length, get_or, take, drop, length-take}
use lib.Seq.{drop-drop}
use borrow.Author.Tests.{eq-eqb, ne_eqb, leb-true, leb-false}
use Rattle.meaning.specs.Lists.{same, empty}
use Rattle.meaning.specs.Bytes.{marked, content, undouble, value}
use Rattle.meaning.specs.Forms.{no_mark}
use Rattle.text.specs.Values.{width_of}
use Rattle.text.proofs.Laws.{drop_next, drop_over}

pub marked_none : (s : List ℕ) → length s ≤ 0 → false ≡ marked s
unfolding marked
marked_none [] h = refl
marked_none (b ∷ r) h = absurd (not-suc-le-zero h)

module _ (s : List ℕ) (m : Bool) (e : m ≡ marked s) where
  pub content_yes : m ≡ true → take (length s - 1 - 1) (drop 1 s) ≡ content s
  unfolding content
  content_yes t =
      let k : length s - 1 - 1 ≡ length s - 2 = omega arith in
      rw (← e, t, k)

  pub content_short : m ≡ true → length s ≤ 1 → ◌≡◌ {A = List ℕ} [] (content s)
  unfolding content
  content_short t h =
      let k : length s - 2 ≡ 0 = omega arith in
      rw (← e, t, k)

  pub content_no : m ≡ false → s ≡ content s
  unfolding content
  content_no t = rw (← e, t)

-- a content is no longer than its field
pub content_within : (s : List ℕ) → length (content s) ≤ length s
unfolding content
content_within s = go (marked s)
  where
    go : (t : Bool) → length (cond t (take (length s - 2) (drop 1 s)) s) ≤ length s
    go true = omega (arith, length-take (length s - 2) (drop 1 s))
    go false = omega arith

pub content_is : (s r : List ℕ) → r ≡ content s → (r ≡ content s) × (length r ≤ length s)
content_is s r e = (e, rw e (content_within s))

-- the first byte of a value, and what is left
und_cons : (q : Bool) (b : ℕ) (r : List ℕ) → undouble q (b ∷ r) ≡ b ∷ undouble q (drop (width_of q b) (b ∷ r))
unfolding undouble width_of
und_cons q b [] = go (q && eqb b 34)
  where
    go : (t : Bool) → b ∷ [] ≡ b ∷ undouble q (drop (cond t 2 1) (b ∷ []))
    go true = refl
    go false = refl
und_cons q b (c ∷ r) = go (q && eqb b 34)
  where
    go : (t : Bool) → cond t (b ∷ undouble q r) (b ∷ undouble q (c ∷ r)) ≡ b ∷ undouble q (drop (cond t 2 1) (b ∷ c ∷ r))
    go true = refl
    go false = refl

pub und_next : (q : Bool) (s : List ℕ) (i : ℕ) → i < length s → undouble q (drop i s) ≡ get_or s i 0 ∷ undouble q (drop (i + width_of q (get_or s i 0)) s)
und_next q s i h =
    let d : drop i s ≡ get_or s i 0 ∷ drop (i + 1) s = drop_next s i h in
    ap (undouble q) d ∙ und_cons q (get_or s i 0) (drop (i + 1) s)
    ∙ ap (λ (l : List ℕ). get_or s i 0 ∷ undouble q (drop (width_of q (get_or s i 0)) l)) (sym d)
    ∙ ap (λ (l : List ℕ). get_or s i 0 ∷ undouble q l) (drop-drop (width_of q (get_or s i 0)) i s)

pub und_over : (q : Bool) (s : List ℕ) (i : ℕ) → length s ≤ i → undouble q (drop i s) ≡ []
unfolding undouble
und_over q s i h = rw (drop_over s i h)

-- outside quotes nothing is undoubled
pub und_bare : (l : List ℕ) → undouble false l ≡ l
unfolding undouble
und_bare [] = refl
und_bare (b ∷ []) = refl
und_bare (b ∷ c ∷ r) = ap (λ (m : List ℕ). b ∷ m) (und_bare (c ∷ r))

-- a turn along a content, on the length of what is left of its value
module _ (q : Bool) (s : List ℕ) (n i k : ℕ) (inv : n + length (undouble q (drop i s)) ≡ k) where
  pub length_turn : i < length s → (w : ℕ) → w ≡ width_of q (get_or s i 0) → n + 1 + length (undouble q (drop (i + w) s)) ≡ k
  length_turn h w e = rw e (omega (arith, ap length (und_next q s i h)))

  pub length_over : length s ≤ i → n ≡ k
  length_over h = omega (arith, ap length (und_over q s i h))

-- a value is no longer than its content, and empty just when that is
und_within : (q : Bool) (l : List ℕ) → length (undouble q l) ≤ length l
unfolding undouble
und_within q [] = omega arith
und_within q (b ∷ []) = omega arith
und_within q (b ∷ c ∷ r) = go (q && eqb b 34) (und_within q r) (und_within q (c ∷ r))
  where
    go : (t : Bool) → length (undouble q r) ≤ length r → length (undouble q (c ∷ r)) ≤ suc (length r)
        → length (cond t (b ∷ undouble q r) (b ∷ undouble q (c ∷ r))) ≤ suc (suc (length r))
    go true x y = omega arith
    go false x y = omega arith

pub value_within : (raw : List ℕ) → length (value raw) ≤ length raw
unfolding value
value_within raw = omega (arith, und_within (marked raw) (content raw), content_within raw)

-- the length of a quoted value, and of a bare one
module _ (raw : List ℕ) (m : Bool) (e : m ≡ marked raw) where
  pub length_quoted : m ≡ true → (s : List ℕ) → s ≡ content raw → (n : ℕ) → n ≡ length (undouble true s) → (n ≡ length (value raw)) × (n ≤ length raw)
  unfolding value
  length_quoted t s p n h =
      let k : n ≡ length (value raw) = h ∙ rw (← e, t, p) in
      (k, omega (arith, value_within raw))

  pub length_bare : m ≡ false → (s : List ℕ) → s ≡ content raw → (length s ≡ length (value raw)) × (length s ≤ length raw)
  unfolding value
  length_bare t s p =
      let k : length s ≡ length (value raw) = rw (← e, t, und_bare (content raw), p) in
      (k, omega (arith, value_within raw))

und_empty : (q : Bool) (l : List ℕ) → eqb (length l) 0 ≡ eqb (length (undouble q l)) 0
und_empty q [] = rw (und_over q [] 0 (omega arith))
und_empty q (b ∷ r) =
    rw (und_cons q b r)
    (ne_eqb (suc (length r)) 0 (λ z. omega arith) ∙ sym (ne_eqb (suc (length (undouble q (drop (width_of q b) (b ∷ r))))) 0 (λ z. omega arith)))

pub value_empty : (raw s : List ℕ) → s ≡ content raw → eqb (length s) 0 ≡ empty (value raw)
unfolding empty value
value_empty raw s e = rw (← e) (und_empty (marked raw) s)

-- a turn along two contents, on whether what is left of their values is equal
module _ (qa qb : Bool) (a b : List ℕ) (i j : ℕ) (k : Bool) (inv : same (undouble qa (drop i a)) (undouble qb (drop j b)) ≡ k) where
  pub same_turn : i < length a → j < length b → get_or a i 0 ≡ get_or b j 0
      → same (undouble qa (drop (i + width_of qa (get_or a i 0)) a)) (undouble qb (drop (j + width_of qb (get_or b j 0)) b)) ≡ k
  unfolding same
  same_turn h g e = rw (und_next qa a i h, und_next qb b j g, eq-eqb _ _ e) at inv

  pub same_differ : i < length a → j < length b → (get_or a i 0 ≡ get_or b j 0 → ⊥) → false ≡ k
  unfolding same
  same_differ h g e = rw (und_next qa a i h, und_next qb b j g, ne_eqb _ _ e) at inv

  pub same_longer : i < length a → length b ≤ j → false ≡ k
  unfolding same
  same_longer h g = rw (und_next qa a i h, und_over qb b j g) at inv

  pub same_over : length a ≤ i → leb (length b) j ≡ k
  unfolding same
  same_over h = split (leb (length b) j) refl
    where
      split : (t : Bool) → leb (length b) j ≡ t → t ≡ k
      split true e = rw (und_over qa a i h, und_over qb b j (leb-true _ _ e)) at inv
      split false e = rw (und_over qa a i h, und_next qb b j (leb-false _ _ e)) at inv

-- two fields, or a field and a name, compared by their contents
module _ (a ca : List ℕ) (qa : Bool) (c : ca ≡ content a) (m : qa ≡ marked a) (t : Bool) where
  pub same_values : (b cb : List ℕ) (qb : Bool) → cb ≡ content b → qb ≡ marked b → t ≡ same (undouble qa ca) (undouble qb cb) → t ≡ same (value a) (value b)
  unfolding value
  same_values b cb qb d n e = rw (← c, ← m, ← d, ← n) e

  pub same_name : (n : List ℕ) → t ≡ same (undouble qa ca) (undouble false n) → t ≡ same (value a) n
  unfolding value
  same_name n e = rw (← c, ← m) (rw (und_bare n) at e)

pub same_bare : (a b : List ℕ) (t : Bool) → t ≡ same (undouble false a) (undouble false b) → t ≡ same a b
same_bare a b t e = rw (und_bare a, und_bare b) at e

-- a mark stays one when doubled marks become one
und_mark : (q : Bool) (l : List ℕ) → no_mark (undouble q l) ≡ no_mark l
unfolding undouble no_mark
und_mark q [] = refl
und_mark q (b ∷ []) = refl
und_mark q (b ∷ c ∷ r) = go q (eqb b 34) refl (und_mark q (c ∷ r))
  where
    go : (p t : Bool) → eqb b 34 ≡ t → no_mark (undouble q (c ∷ r)) ≡ no_mark (c ∷ r)
        → no_mark (cond (p && t) (b ∷ undouble q r) (b ∷ undouble q (c ∷ r))) ≡ no_mark (b ∷ c ∷ r)
    go true true e ih = rw e
    go true false e ih = rw (e, ih)
    go false t e ih = rw ih

und_clean : (q : Bool) (l : List ℕ) → no_mark l ≡ true → undouble q l ≡ l
unfolding undouble no_mark
und_clean q [] h = refl
und_clean q (b ∷ []) h = refl
und_clean q (b ∷ c ∷ r) h = go q (eqb b 34) refl (und_clean q (c ∷ r))
  where
    go : (p t : Bool) → eqb b 34 ≡ t → (no_mark (c ∷ r) ≡ true → undouble q (c ∷ r) ≡ c ∷ r)
        → cond (p && t) (b ∷ undouble q r) (b ∷ undouble q (c ∷ r)) ≡ b ∷ c ∷ r
    go p true e ih = let z : false ≡ true = rw e at h in cc
    go true false e ih = ap (λ (m : List ℕ). b ∷ m) (ih (rw e at h))
    go false false e ih = ap (λ (m : List ℕ). b ∷ m) (ih (rw e at h))

-- a value has a mark just when its content has one
pub value_mark : (raw : List ℕ) → no_mark (value raw) ≡ no_mark (content raw)
unfolding value
value_mark raw = und_mark (marked raw) (content raw)

-- a value with no mark in it is its content
pub value_clean : (raw : List ℕ) → no_mark (content raw) ≡ true → value raw ≡ content raw
unfolding value
value_clean raw h = und_clean (marked raw) (content raw) h
