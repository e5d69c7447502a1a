-- Laws of references: the first line with an id, and what it says of rules 20 and 21.
use Prim.Native.Nat.{ℕ, zero, suc, ◌+◌, ◌≤◌, ◌<◌}
use mathlib.Core.Path.{◌≡◌, refl, sym, ◌∙◌}
use mathlib.Core.List.{List, [], ◌∷◌}
use mathlib.Core.Bool.{Bool, true, false, cond, not, ◌&&◌}
use native.Mathlib.Omega.{arith}
use lib.ListN.{length, get_or, take}
use lib.Seq.{get_or-take, length-take-le}
use lib.Dec.{ltb, eqb}
use borrow.Author.Tests.{eq-eqb, ne_eqb, lt-ltb, le-ltb, ltb-true, ltb-false}
use Rattle.meaning.specs.Lists.{same, empty, any, place, find, stands}
use Rattle.meaning.specs.Tables.{refer}
use Rattle.meaning.specs.Rules.{rule20, dangling}
pub use Rattle.meaning.specs.Promises.{First, absent, found}
use Rattle.meaning.proofs.ListLaws.{both, same_equal, same_self}

pub find_first : (v : List ℕ) (n : ℕ) (vs : List (List ℕ)) → First v n vs (find v n vs)
unfolding find place
find_first v n [] = absent refl (λ j h. absurd (omega arith))
find_first v n (w ∷ vs) = go (same w v) refl (find_first v (n + 1) vs)
  where
    all : same w v ≡ false → (m : ℕ) → ((j : ℕ) → j < m → same (get_or vs j []) v ≡ false) → (j : ℕ) → j < suc m → same (get_or (w ∷ vs) j []) v ≡ false
    all e m h zero g = e
    all e m h (suc j) g = h j (omega arith)

    go : (b : Bool) → same w v ≡ b → First v (n + 1) vs (find v (n + 1) vs) → First v n (w ∷ vs) (cond b n (find v (n + 1) vs))
    go true e f = found 0 (omega arith) (omega arith) e (λ j h. absurd (omega arith))
    go false e (absent r h) = absent r (all e (length vs) h)
    go false e (found k r h s u) = found (suc k) (omega arith) (omega arith) s (all e k u)

-- there is one such place at most
pub first_one_place : (v : List ℕ) (n : ℕ) (vs : List (List ℕ)) (r q : ℕ) → First v n vs r → First v n vs q → r ≡ q
first_one_place v n vs r q (absent a h) (absent b g) = a ∙ sym b
first_one_place v n vs r q (absent a h) (found k b l s u) = both (same (get_or vs k []) v) s (h k l)
first_one_place v n vs r q (found k b l s u) (absent a h) = both (same (get_or vs k []) v) s (h k l)
first_one_place v n vs r q (found k b l s u) (found j c m t w) = go (ltb k j) refl (ltb j k) refl
  where
    go : (x : Bool) → ltb k j ≡ x → (y : Bool) → ltb j k ≡ y → r ≡ q
    go true e y f = both (same (get_or vs k []) v) s (w k (omega (arith, ltb-true k j e)))
    go false e true f = both (same (get_or vs j []) v) t (u j (omega (arith, ltb-true j k f)))
    go false e false f = omega (arith, ltb-false k j e, ltb-false j k f)

pub find_place : (v : List ℕ) (vs : List (List ℕ)) (r : ℕ) → First v 1 vs r → r ≡ find v 1 vs
find_place v vs r f = first_one_place v 1 vs r (find v 1 vs) f (find_first v 1 vs)

module _ {A : Type 0} (P : A → Bool) (d : A) where
  pub any_yes : (l : List A) (j : ℕ) → j < length l → P (get_or l j d) ≡ true → any P l ≡ true
  unfolding any
  any_yes [] j h e = absurd (omega arith)
  any_yes (x ∷ l) zero h e = rw e
  any_yes (x ∷ l) (suc j) h e = rw (any_yes l j (omega arith) e) (go (P x))
    where
      go : (b : Bool) → cond b true true ≡ true
      go true = refl
      go false = refl

  pub any_no : (l : List A) → ((j : ℕ) → j < length l → P (get_or l j d) ≡ false) → any P l ≡ false
  unfolding any
  any_no [] h = refl
  any_no (x ∷ l) h = rw (h 0 (omega arith), any_no l (λ j g. h (suc j) (omega arith)))

-- a value stands among values exactly where it has a first place
pub stands_find : (v : List ℕ) (vs : List (List ℕ)) → stands v vs ≡ not (eqb (find v 1 vs) 0)
unfolding stands
stands_find v vs = go (find v 1 vs) (find_first v 1 vs)
  where
    go : (r : ℕ) → First v 1 vs r → any (λ w. same w v) vs ≡ not (eqb r 0)
    go r (absent a h) = rw (eq-eqb r 0 a) (any_no (λ w. same w v) [] vs h)
    go r (found k a l s u) = rw (ne_eqb r 0 (λ z. omega arith)) (any_yes (λ w. same w v) [] vs k l s)

-- rule 20: the first line with this line's id is an earlier one
pub twentieth : (ids : List (List ℕ)) (i : ℕ) → i < length ids → rule20 ids i ≡ ltb (find (get_or ids i []) 1 ids) (i + 1)
unfolding rule20 stands
twentieth ids i h = go (find v 1 ids) (find_first v 1 ids)
  where
    v : List ℕ
    v = get_or ids i []

    Q : List ℕ → Bool
    Q w = same w v

    front : length (take i ids) ≡ i
    front = length-take-le i ids (omega arith)

    at : (j : ℕ) → j < i → get_or (take i ids) j [] ≡ get_or ids j []
    at j g = get_or-take i ids j [] g

    go : (r : ℕ) → First v 1 ids r → any Q (take i ids) ≡ ltb r (i + 1)
    go r (absent a g) = both (same v v) (same_self v) (g i h)
    go r (found k a l s u) = cases (ltb k i) refl
      where
        cases : (b : Bool) → ltb k i ≡ b → any Q (take i ids) ≡ ltb r (i + 1)
        cases true e =
            let m : k < i = ltb-true k i e in
            any_yes Q [] (take i ids) k (omega (arith, front)) (rw (at k m) s)
            ∙ sym (lt-ltb r (i + 1) (omega arith))
        cases false e =
            let m : i ≤ k = ltb-false k i e in
            any_no Q [] (take i ids) (λ j g. rw (at j (omega (arith, front))) (u j (omega (arith, front))))
            ∙ sym (le-ltb r (i + 1) (omega arith))

-- rule 21: a non-empty reference has record 0
pub dangling_refer : (v : List ℕ) (ids : List (List ℕ)) → dangling v ids ≡ not (empty v) && eqb (refer v ids) 0
unfolding dangling refer
dangling_refer v ids = rw (stands_find v ids) (go (empty v) (eqb (find v 1 ids) 0) refl)
  where
    go : (b c : Bool) → eqb (find v 1 ids) 0 ≡ c → (not b && not (not c)) ≡ (not b && eqb (cond b 0 (find v 1 ids)) 0)
    go true c e = refl
    go false true e = rw e
    go false false e = rw e

-- a reference that isn't 0 names a line with that id
pub record Named (v : List ℕ) (ids : List (List ℕ)) (r : ℕ) : Type 0 where
  pub index : ℕ
  pub is : r ≡ 1 + index
  pub within : index < length ids
  pub holds : same (get_or ids index []) v ≡ true
  pub needed : empty v ≡ false

pub named : (v : List ℕ) (ids : List (List ℕ)) → (refer v ids ≡ 0 → ⊥) → Named v ids (refer v ids)
unfolding refer
named v ids h = go (empty v) refl (find v 1 ids) (find_first v 1 ids) h
  where
    go : (b : Bool) → empty v ≡ b → (r : ℕ) → First v 1 ids r → (cond b 0 r ≡ 0 → ⊥) → Named v ids (cond b 0 r)
    go true e r f g = absurd (g refl)
    go false e r (absent a u) g = absurd (g a)
    go false e r (found k a l s u) g = record { index = k; is = a; within = l; holds = s; needed = e }

-- two references to one record are equal values
pub refer_same : (u v : List ℕ) (ids : List (List ℕ)) → (refer v ids ≡ 0 → ⊥) → eqb (refer u ids) (refer v ids) ≡ same u v
refer_same u v ids h = go (same u v) refl
  where
    clash : same u v ≡ false → refer u ids ≡ refer v ids → ⊥
    clash e g =
        let a : Named u ids (refer u ids) = named u ids (λ z. h (sym g ∙ z)) in
        let b : Named v ids (refer v ids) = named v ids h in
        let k : a.index ≡ b.index = omega (arith, a.is, b.is, g) in
        let x : get_or ids b.index [] ≡ u = rw k at (same_equal _ _ a.holds) in
        let y : get_or ids b.index [] ≡ v = same_equal _ _ b.holds in
        both (same u v) (rw (sym x ∙ y) (same_self v)) e

    go : (b : Bool) → same u v ≡ b → eqb (refer u ids) (refer v ids) ≡ b
    go true e = rw (same_equal u v e) (eq-eqb (refer v ids) (refer v ids) refl)
    go false e = ne_eqb (refer u ids) (refer v ids) (clash e)
