-- The first record: one at most, and the one that a reference means.
use mathlib.Core.Path.{◌≡◌, refl, sym, ◌∙◌, subst}
use mathlib.Core.Bool.{Bool, true, false, cond}
use mathlib.Core.List.{List, []}
use Prim.Native.Nat.{ℕ, zero, suc, ◌+◌, ◌*◌, ◌-◌, ◌/◌, ◌≤◌, ◌<◌}
use native.Mathlib.Omega.{arith}
use native.Mathlib.Nat.{lt_irrefl, le_antisymm, le_trans, mul-le-mul_right, le-div_iff_mul-le, div-lt_iff_lt-mul}
use lib.Dec.{T}
use lib.IntN.{ℤ}
use lib.ListN.{length, get_or}
use borrow.Author.Tests.{le-leb, lt-leb}
use Rattle.meaning.specs.declared.Bounds.{Bounds}
use Rattle.meaning.specs.Lists.{same, empty, find}
use Rattle.meaning.specs.Bytes.{part, value}
use Rattle.meaning.specs.Tables.{refer}
use Rattle.meaning.proofs.ListLaws.{both}
use Rattle.meaning.proofs.References.{First as FirstPlace, absent, found, find_first as first-place}
use Rattle.seeking.specs.First.{First, IdAt, Held, value_is, id_is, names}
use Rattle.rows.specs.Cells.{nat_at, bounds_at}

pub false_true : {X : Type 0} → false ≡ true → X
false_true e = absurd (subst T (sym e) tt)

-- two results that are both the first are equal
pub first_unique : (P : ℕ → Bool) (n r q : ℕ) → First P n r → First P n q → r ≡ q
first_unique P n zero zero f g = refl
first_unique P n zero (suc q) f g =
    let h = g.found (omega arith) in
    absurd (lt_irrefl 0 (f.least (suc q) (omega arith) h.0 h.1).0)
first_unique P n (suc r) zero f g =
    let h = f.found (omega arith) in
    absurd (lt_irrefl 0 (g.least (suc r) (omega arith) h.0 h.1).0)
first_unique P n (suc r) (suc q) f g =
    let h = f.found (omega arith) in
    let k = g.found (omega arith) in
    le_antisymm (f.least (suc q) (omega arith) k.0 k.1).1 (g.least (suc r) (omega arith) h.0 h.1).1

not_lt_le : {a b : ℕ} → (b < a → ⊥) → a ≤ b
not_lt_le f = omega (arith, f)

not_pos : {r : ℕ} → (0 < r → ⊥) → r ≡ 0
not_pos f = omega (arith, f)

zero_not : {X : Type 0} → 0 < 0 → X
zero_not h = absurd (omega arith)

-- how a search that has passed the records below r ends
module _ (P : ℕ → Bool) (n r : ℕ) (none : (k : ℕ) → k < r → 0 < k → P k ≡ true → ⊥) where
  pub first_here : 0 < r → r < n → P r ≡ true → First P n r
  first_here h k p = record {
    found = λ _. (k, p);
    least = λ j a b q. (h, not_lt_le (λ l. none j l a q));
  }

  pub first_none : ((k : ℕ) → r ≤ k → k < n → P k ≡ true → ⊥) → First P n 0
  first_none past = record {
    found = λ l. zero_not l;
    least = λ j a b q. absurd (past j (not_lt_le (λ l. none j l a q)) b q);
  }

-- the first depends only on the test below count
pub first_as : (P Q : ℕ → Bool) (n r : ℕ) → ((k : ℕ) → 0 < k → k < n → P k ≡ Q k) → First P n r → First Q n r
first_as P Q n r e f = record {
  found = λ h. let g = f.found h in (g.0, sym (e r h g.0) ∙ g.1);
  least = λ k a b q. f.least k a b (e k a b ∙ q);
}

-- the value at a place: out of order, outside the file, inside it
module _ (s v : List ℕ) (p : Bounds) where
  pub value_turned : p.end < p.start → false ≡ value_is s v p
  unfolding value_is
  value_turned h = rw (lt-leb p.start p.end h)

  pub value_outside : p.start ≤ p.end → length s < p.end → false ≡ value_is s v p
  unfolding value_is
  value_outside h k = rw (le-leb p.start p.end h, lt-leb p.end (length s) k)

  pub value_inside :
      (b : Bool) → p.start ≤ p.end → p.end ≤ length s → b ≡ same (value (part s p)) v → b ≡ value_is s v p
  unfolding value_is
  value_inside b h k e = rw (le-leb p.start p.end h, le-leb p.end (length s) k) e

-- a record inside the table, and one past it
module _ (s : List ℕ) (t : List ℤ) (width : ℕ) (v : List ℕ) (wide : 0 < width) where
  pub id_in :
      (r : ℕ) (p : Bounds) (b : Bool)
      → r < length t / width
      → p ≡ bounds_at t (r * width)
      → b ≡ value_is s v p
      → b ≡ id_is s t width v r
  unfolding id_is
  id_in r p b h e f =
      let m : (r + 1) * width ≤ length t = (le-div_iff_mul-le wide).0 (omega arith) in
      rw (le-leb ((r + 1) * width) (length t) m, ← e) f

  pub id_past : (r k : ℕ) → length t / width ≤ r → r ≤ k → id_is s t width v k ≡ true → ⊥
  unfolding id_is
  id_past r k h l q =
      let m : length t < (k + 1) * width = (div-lt_iff_lt-mul wide).0 (omega arith) in
      false_true (rw (lt-leb ((k + 1) * width) (length t) m) at q)

-- an empty reference, and one that is not
module _ (s : List ℕ) (t : List ℤ) (width : ℕ) (v : List ℕ) (n : ℕ) where
  pub names_none : empty v ≡ true → First (names s t width v) n 0
  unfolding names
  names_none e = record { found = λ h. zero_not h; least = λ k a b q. false_true (rw e at q) }

  pub names_some : (r : ℕ) → empty v ≡ false → First (id_is s t width v) n r → First (names s t width v) n r
  unfolding names
  names_some r e f = first_as (id_is s t width v) (names s t width v) n r (λ k a b. rw e) f

-- document 01's search, with no search in it
pub find_first :
    (v : List ℕ) (ids : List (List ℕ))
    → First (λ k. same (get_or ids (k - 1) []) v) (length ids + 1) (find v 1 ids)
find_first v ids = go (find v 1 ids) (first-place v 1 ids)
  where
    go : (r : ℕ) → FirstPlace v 1 ids r → First (λ k. same (get_or ids (k - 1) []) v) (length ids + 1) r
    go r (absent e none) = record {
      found = λ h. absurd (omega arith);
      least = λ k a b q. both (same (get_or ids (k - 1) []) v) q (none (k - 1) (omega arith));
    }
    go r (found i e within here before) =
        let d : r - 1 ≡ i = omega arith in
        record {
          found = λ h. (omega arith, rw d here);
          least = λ k a b q.
              (omega arith, not_lt_le (λ l. both (same (get_or ids (k - 1) []) v) q (before (k - 1) (omega arith))));
        }

-- where a table holds ids
module _ (s : List ℕ) (t : List ℤ) (width : ℕ) (ids : List (List ℕ)) (v : List ℕ) (held : Held s t width ids) where
  held_is : (k : ℕ) → 0 < k → k < length ids + 1 → id_is s t width v k ≡ same (get_or ids (k - 1) []) v
  unfolding id_is value_is
  held_is k h l =
      let a : IdAt s t (k * width) (get_or ids (k - 1) []) = rw (before k h) at (held.at (k - 1) (omega arith)) in
      let m : (k + 1) * width ≤ length t = le_trans (mul-le-mul_right {m = k + 1} {n = length ids + 1} width (omega arith)) held.room in
      rw (
        le-leb ((k + 1) * width) (length t) m,
        le-leb (nat_at t (k * width)) (nat_at t (k * width + 1)) a.ordered,
        le-leb (nat_at t (k * width + 1)) (length s) a.inside,
        a.equal,
      )
    where
      before : (k : ℕ) → 0 < k → k - 1 + 1 ≡ k
      before k h = omega arith

  -- the first record with an id is where document 01 finds it
  pub find_held : (r : ℕ) → First (id_is s t width v) (length ids + 1) r → r ≡ find v 1 ids
  find_held r f =
      first_unique (λ k. same (get_or ids (k - 1) []) v) (length ids + 1) r (find v 1 ids)
      (first_as (id_is s t width v) (λ k. same (get_or ids (k - 1) []) v) (length ids + 1) r held_is f)
      (find_first v ids)

  -- the first record is what document 01 refers to
  pub refer_held : (r : ℕ) → First (names s t width v) (length ids + 1) r → r ≡ refer v ids
  unfolding names refer
  refer_held r f = go (empty v) refl
    where
      go : (b : Bool) → empty v ≡ b → r ≡ cond (empty v) 0 (find v 1 ids)
      go true e = rw e (none (first_as (names s t width v) (λ k. false) (length ids + 1) r (λ k a b. rw e) f))
        where
          none : First (λ k. false) (length ids + 1) r → r ≡ 0
          none g = not_pos (λ h. false_true (g.found h).1)
      go false e = rw e (find_held r (first_as (names s t width v) (id_is s t width v) (length ids + 1) r (λ k a b. rw e) f))

-- another table with the same places of ids holds the same ids
pub held_as :
    (s : List ℕ) (t u : List ℤ) (width : ℕ) (ids : List (List ℕ))
    → Held s t width ids
    → length u ≡ length t
    → ((k : ℕ) → (nat_at u (k * width) ≡ nat_at t (k * width)) × (nat_at u (k * width + 1) ≡ nat_at t (k * width + 1)))
    → Held s u width ids
held_as s t u width ids held e same = record {
  room = rw e held.room;
  at = λ k h.
      let i = held.at k h in
      let a = (same (k + 1)).0 in
      let b = (same (k + 1)).1 in
      record { ordered = rw (a, b) i.ordered; inside = rw b i.inside; equal = rw (a, b) i.equal };
}
