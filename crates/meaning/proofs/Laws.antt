-- Laws about lists: membership, order, and lists joined along a list.
use Prim.Native.Nat.{ℕ, zero, suc, ◌+◌, ◌-◌, ◌≤◌, ◌<◌}
use native.Mathlib.Omega.{arith}
use native.Mathlib.Nat.{sub_self}
use mathlib.Core.Path.{◌≡◌, refl, sym}
use mathlib.Core.Logic.{⊎_elim}
use mathlib.Core.Bool.{Bool, true, false, ◌&&◌, ◌||◌}
use mathlib.Core.List.Memᴰ
use mathlib.Core.List.{List, [], ◌∷◌, ◌++◌, map, Memᴰ}
use lib.ListN.{length, get_or}
use lib.Dec.{ltb, eqb}
use borrow.Author.Tests.{ltb-true, ltb-false, lt-ltb, eq-eqb}
use Rattle.meaning.specs.Promises.{Ordered, Each}

-- numbers compared in order: the first decides, or it is the same and the rest decides
pub sooner_less : (a x : ℕ) (rest : Bool) → a < x → (ltb a x || (eqb a x && rest)) ≡ true
sooner_less a x rest h = rw (lt-ltb a x h)

pub sooner_same : (a x : ℕ) (rest : Bool) → a ≡ x → rest ≡ true → (ltb a x || (eqb a x && rest)) ≡ true
sooner_same a x rest h e = rw (eq-eqb a x h, e) (either (ltb a x))
  where
    either : (t : Bool) → (t || true) ≡ true
    either true = refl
    either false = refl

pub each_cons : {A : Type 0} (P : A → Type 0) (a : A) (l : List A) → P a → Each P l → Each P (a ∷ l)
each_cons P a l p each x m = ⊎_elim (λ (e : x ≡ a). rw e p) (each x) (Memᴰ.cases_cons m)

pub each_append : {A : Type 0} (P : A → Type 0) (a b : List A) → Each P a → Each P b → Each P (a ++ b)
each_append P a b p q x m = ⊎_elim (p x) (q x) (Memᴰ.append_cases a m)

pub get_d_mem : {A : Type 0} (l : List A) (k : ℕ) (d : A) → k < length l → Memᴰ (get_or l k d) l
get_d_mem [] k d h = absurd (omega arith)
get_d_mem (x ∷ r) zero d h = Memᴰ.head refl
get_d_mem (x ∷ r) (suc k) d h = Memᴰ.tail (get_d_mem r k d (omega arith))

pub get_d_map_in : {A B : Type 0} (g : A → B) (l : List A) (i : ℕ) (d : A) (e : B) → i < length l → get_or (map g l) i e ≡ g (get_or l i d)
get_d_map_in g [] i d e h = absurd (omega arith)
get_d_map_in g (x ∷ l) zero d e h = refl
get_d_map_in g (x ∷ l) (suc i) d e h = get_d_map_in g l i d e (omega arith)

module _ {A : Type 0} (less : A → A → Bool) where
  -- two ordered lists, all of the first before all of the second
  pub ordered_append : (a b : List A) → Ordered less a → Ordered less b → ((x y : A) → Memᴰ x a → Memᴰ y b → less x y ≡ true) → Ordered less (a ++ b)
  ordered_append [] b p q between = q
  ordered_append (x ∷ a) b p q between =
      (each_append (λ y. less x y ≡ true) a b p.0 (λ y m. between x y (Memᴰ.head refl) m), ordered_append a b p.1 q (λ y z m n. between y z (Memᴰ.tail m) n))

  -- another order that agrees on the elements of the list
  pub ordered_by : (more : A → A → Bool) (l : List A) → ((x y : A) → Memᴰ x l → Memᴰ y l → less x y ≡ true → more x y ≡ true) → Ordered less l → Ordered more l
  ordered_by more [] agree o = tt
  ordered_by more (x ∷ r) agree o =
      (λ y m. agree x y (Memᴰ.head refl) (Memᴰ.tail m) (o.0 y m), ordered_by more r (λ y z m n. agree y z (Memᴰ.tail m) (Memᴰ.tail n)) o.1)

-- lists joined: what a function makes of each element and its number, counted from n
unfoldable pub along : {A B : Type 0} → (ℕ → B → List A) → ℕ → List B → List A
along g n [] = []
along g n (b ∷ r) = g n b ++ along g (n + 1) r

-- a number from n on at which an element stands
pub record Along {A B : Type 0} (d : B) (g : ℕ → B → List A) (n : ℕ) (bs : List B) (x : A) : Type 0 where
  pub number : ℕ
  pub from : n ≤ number
  pub to : number < n + length bs
  pub here : Memᴰ x (g number (get_or bs (number - n) d))

module _ {A B : Type 0} (d : B) (g : ℕ → B → List A) where
  -- the element of a longer list at a later number
  later : (b : B) (r : List B) (n k : ℕ) → n < k → get_or (b ∷ r) (k - n) d ≡ get_or r (k - (n + 1)) d
  later b r n k h = let e : k - n ≡ suc (k - (n + 1)) = omega arith in rw e

  pub along_in : (n : ℕ) (bs : List B) (x : A) → Memᴰ x (along g n bs) → Along d g n bs x
  unfolding along
  along_in n [] x m = absurd (Memᴰ.not-nil m)
  along_in n (b ∷ r) x m = ⊎_elim first (λ t. rest (along_in (n + 1) r x t)) (Memᴰ.append_cases (g n b) m)
    where
      first : Memᴰ x (g n b) → Along d g n (b ∷ r) x
      first t = record { number = n; from = omega arith; to = omega arith; here = rw (sub_self n) t }

      rest : Along d g (n + 1) r x → Along d g n (b ∷ r) x
      rest t = record { number = t.number; from = omega arith; to = omega arith; here = rw (later b r n t.number (omega arith)) t.here }

  pub along_of : (n : ℕ) (bs : List B) (x : A) → Along d g n bs x → Memᴰ x (along g n bs)
  unfolding along
  along_of n [] x t = absurd (omega arith)
  along_of n (b ∷ r) x t = go (ltb n t.number) refl (along_of (n + 1) r x)
    where
      go : (q : Bool) → ltb n t.number ≡ q → (Along d g (n + 1) r x → Memᴰ x (along g (n + 1) r)) → Memᴰ x (g n b ++ along g (n + 1) r)
      go true e rest =
          let h : n < t.number = ltb-true n t.number e in
          Memᴰ.append_right (g n b) (rest (record { number = t.number; from = omega arith; to = omega arith; here = rw (later b r n t.number h) at t.here }))
      go false e rest =
          let h : t.number ≡ n = omega (arith, ltb-false n t.number e) in
          Memᴰ.append_left (along g (n + 1) r) (rw (h, sub_self n) at t.here)

  pub along_ordered : (less : A → A → Bool) → ((k : ℕ) (b : B) → Ordered less (g k b)) → ((j k : ℕ) (b c : B) (x y : A) → j < k → Memᴰ x (g j b) → Memᴰ y (g k c) → less x y ≡ true) → (n : ℕ) (bs : List B) → Ordered less (along g n bs)
  unfolding along
  along_ordered less own between n [] = tt
  along_ordered less own between n (b ∷ r) = ordered_append less (g n b) (along g (n + 1) r) (own n b) (along_ordered less own between (n + 1) r) apart
    where
      apart : (x y : A) → Memᴰ x (g n b) → Memᴰ y (along g (n + 1) r) → less x y ≡ true
      apart x y m t = let k = along_in (n + 1) r y t in between n k.number b (get_or r (k.number - (n + 1)) d) x y (omega arith) m k.here

-- where an element stands
pub record At {A : Type 0} (l : List A) (d x : A) : Type 0 where
  pub index : ℕ
  pub inside : index < length l
  pub here : get_or l index d ≡ x

pub place_of : {A : Type 0} (l : List A) (d x : A) → Memᴰ x l → At l d x
place_of {A = A} [] d x x3 = elim x3 [ ]
place_of (y ∷ l) d x (Memᴰ.head e) = record { index = 0; inside = omega arith; here = sym e }
place_of (y ∷ l) d x (Memᴰ.tail m) = let p = place_of l d x m in record { index = suc p.index; inside = omega (arith, p.inside); here = p.here }

-- of two elements of an ordered list the earlier comes first
pub in_order_lem : {A : Type 0} (less : A → A → Bool) (l : List A) (d : A) (j k : ℕ) → Ordered less l → j < k → k < length l → less (get_or l j d) (get_or l k d) ≡ true
in_order_lem less [] d j k o h g = absurd (omega arith)
in_order_lem less (x ∷ l) d j zero o h g = absurd (omega arith)
in_order_lem less (x ∷ l) d zero (suc k) o h g = o.0 (get_or l k d) (get_d_mem l k d (omega arith))
in_order_lem less (x ∷ l) d (suc j) (suc k) o h g = in_order_lem less l d j k o.1 (omega arith) (omega arith)
