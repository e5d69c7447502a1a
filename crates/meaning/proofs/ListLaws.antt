-- Laws of the words about lists, and of the order of places.
use Prim.Native.Nat.{ℕ, suc, ◌≤◌, ◌<◌}
use native.Mathlib.Omega.{arith}
use native.Mathlib.Nat.{not-suc-le-zero}
use mathlib.Core.Path.{◌≡◌, refl, sym, ap, ap₂, ◌∙◌}
use mathlib.Core.Logic.{◌↔◌}
use mathlib.Core.List.Memᴰ
use mathlib.Core.List.{List, [], ◌∷◌, ◌++◌, Memᴰ}
use mathlib.Core.Bool.{Bool, true, false, cond, not, ◌&&◌, ◌||◌}
use lib.IntN.{pos}
use lib.ListN.{length}
use lib.Dec.{eqb, ltb}
use borrow.Author.Tests.{ltb-true, ltb-false, eqb-true, eq-eqb, ne_eqb, le-ltb}
use Rattle.meaning.specs.Lists.{same, empty, keep}
use Rattle.meaning.specs.Pages.{above, behind}
use Rattle.meaning.specs.Promises.{Ordered, sooner3}

-- a test that is true and false
pub both : {A : Type 0} (b : Bool) → b ≡ true → b ≡ false → A
both true p q = let z : ◌≡◌ {A = ℕ} 0 1 = ap (λ (t : Bool). cond t 0 1) q in absurd (omega arith)
both false p q = let z : ◌≡◌ {A = ℕ} 0 1 = ap (λ (t : Bool). cond t 0 1) (sym p) in absurd (omega arith)

pub and_both : (a b : Bool) → (a && b) ≡ true → (a ≡ true) × (b ≡ true)
and_both true b e = (refl, e)
and_both false b e = (e, both false e refl)

pub and_second : (a b : Bool) → (a && b) ≡ false → a ≡ true → b ≡ false
and_second true b e h = e
and_second false b e h = both false h refl

-- byte strings of which `same` says so are equal
pub same_equal : (l m : List ℕ) → same l m ≡ true → l ≡ m
unfolding same
same_equal [] [] e = refl
same_equal [] (y ∷ m) e = both false e refl
same_equal (x ∷ l) [] e = both false e refl
same_equal (x ∷ l) (y ∷ m) e = go (eqb x y) refl (same_equal l m) e
  where
    go : (b : Bool) → eqb x y ≡ b → (same l m ≡ true → l ≡ m) → cond b (same l m) false ≡ true → x ∷ l ≡ y ∷ m
    go true q k h = ap₂ ◌∷◌ (eqb-true x y q) (k h)
    go false q k h = both false h refl

pub same_self : (l : List ℕ) → same l l ≡ true
unfolding same
same_self [] = refl
same_self (x ∷ l) = rw (eq-eqb x x refl) (same_self l)

pub nothing : {A : Type 0} (l : List A) → length l ≤ 0 → l ≡ []
nothing [] h = refl
nothing (x ∷ r) h = absurd (not-suc-le-zero h)

-- a value with no byte
pub no_bytes : (v : List ℕ) → empty v ≡ true ↔ v ≡ []
unfolding empty
no_bytes v = (λ e. nothing v (omega (arith, eqb-true (length v) 0 e)), λ e. rw e)

-- ---- kept elements

module _ {A : Type 0} (P : A → Bool) where
  pub keep_yes : (x : A) (r : List A) → P x ≡ true → keep P (x ∷ r) ≡ x ∷ keep P r
  unfolding keep
  keep_yes x r e = rw e

  pub keep_no : (x : A) (r : List A) → P x ≡ false → keep P (x ∷ r) ≡ keep P r
  unfolding keep
  keep_no x r e = rw e

  pub keep_append : (l m : List A) → keep P (l ++ m) ≡ keep P l ++ keep P m
  unfolding keep
  keep_append [] m = refl
  keep_append (x ∷ l) m = go (P x) (keep_append l m)
    where
      go : (b : Bool) → keep P (l ++ m) ≡ keep P l ++ keep P m
          → cond b (x ∷ keep P (l ++ m)) (keep P (l ++ m)) ≡ cond b (x ∷ keep P l) (keep P l) ++ keep P m
      go true e = ap (λ (k : List A). x ∷ k) e
      go false e = e

  pub keep_all : (l : List A) → ((x : A) → Memᴰ x l → P x ≡ true) → keep P l ≡ l
  unfolding keep
  keep_all [] h = refl
  keep_all (x ∷ l) h = rw (h x (Memᴰ.head refl), keep_all l (λ y m. h y (Memᴰ.tail m)))

pub kept_fewer : {A : Type 0} (P : A → Bool) (l : List A) → length (keep P l) ≤ length l
unfolding keep
kept_fewer P [] = omega arith
kept_fewer P (x ∷ l) = go (P x) (kept_fewer P l)
  where
    go : (b : Bool) → length (keep P l) ≤ length l → length (cond b (x ∷ keep P l) (keep P l)) ≤ suc (length l)
    go true h = omega arith
    go false h = omega arith

-- ---- the order of places

-- how two numbers stand, with what each test of them says
data Three (a x : ℕ) : Type 0 where
  fewer : ltb a x ≡ true → ltb x a ≡ false → eqb x a ≡ false → Three a x
  equal : ltb a x ≡ false → ltb x a ≡ false → eqb a x ≡ true → Three a x
  more : ltb a x ≡ false → ltb x a ≡ true → eqb a x ≡ false → Three a x

three : (a x : ℕ) → Three a x
three a x = go (ltb a x) refl (ltb x a) refl
  where
    go : (s : Bool) → ltb a x ≡ s → (t : Bool) → ltb x a ≡ t → Three a x
    go true p t q = let h : a < x = ltb-true a x p in fewer p (le-ltb x a (omega arith)) (ne_eqb x a (λ e. omega arith))
    go false p true q = let h : x < a = ltb-true x a q in more p q (ne_eqb a x (λ e. omega arith))
    go false p false q =
        let h : x ≤ a = ltb-false a x p in
        let k : a ≤ x = ltb-false x a q in
        equal p q (eq-eqb a x (omega arith))

-- one place of a comparison in order: as the starting place is compared, and as entries are
tie : (a x : ℕ) (b c : Bool) → b ≡ c → (ltb a x || (not (ltb x a) && b)) ≡ (ltb a x || (eqb a x && c))
tie a x b c e = go (three a x)
  where
    go : Three a x → (ltb a x || (not (ltb x a) && b)) ≡ (ltb a x || (eqb a x && c))
    go (fewer p q r) = rw p
    go (equal p q r) = rw (p, q, r) e
    go (more p q r) = rw (p, q, r)

below_once : (a x : ℕ) → ltb a x ≡ true → ltb x a ≡ false
below_once a x h = le-ltb x a (omega (arith, ltb-true a x h))

-- one place of it never says both
one_way : (a x : ℕ) (b c : Bool) → (b ≡ true → c ≡ false) → (ltb a x || (eqb a x && b)) ≡ true → (ltb x a || (eqb x a && c)) ≡ false
one_way a x b c k h = go (three a x)
  where
    go : Three a x → (ltb x a || (eqb x a && c)) ≡ false
    go (fewer p q r) = rw (q, r)
    go (equal p q r) = rw (q, eq-eqb x a (sym (eqb-true a x r))) (k (rw (p, r) at h))
    go (more p q r) = both false (rw (p, r) at h) refl

module _ (a b c x y z : ℕ) where
  -- a place after another, as the numbers of both are
  pub behind_sooner : behind (record { file = pos a; line = pos b; rule = pos c }) (record { file = pos x; line = pos y; rule = pos z }) ≡ sooner3 a b c x y z
  unfolding behind above
  behind_sooner = tie a x _ _ (tie b y _ _ refl)

  -- three numbers don't come before three others both ways
  pub sooner_once : sooner3 a b c x y z ≡ true → sooner3 x y z a b c ≡ false
  sooner_once h = one_way a x _ _ (λ k. one_way b y _ _ (λ m. below_once c z m) k) h

-- what comes after an element of an ordered list is what stands behind it
module _ {A : Type 0} (less : A → A → Bool) (once : (x y : A) → less x y ≡ true → less y x ≡ false) where
  not_itself : (x : A) → less x x ≡ false
  not_itself x = go (less x x) refl
    where
      go : (b : Bool) → less x x ≡ b → less x x ≡ false
      go true e = once x x e
      go false e = e

  pub keep_behind : (front : List A) (d : A) (rest : List A) → Ordered less (front ++ (d ∷ rest)) → keep (less d) (front ++ (d ∷ rest)) ≡ rest
  keep_behind [] d rest o = keep_no (less d) d rest (not_itself d) ∙ keep_all (less d) rest o.0
  keep_behind (x ∷ front) d rest o =
      keep_no (less d) x (front ++ (d ∷ rest)) (once x d (o.0 d (Memᴰ.append_right front (Memᴰ.head refl))))
      ∙ keep_behind front d rest o.1
