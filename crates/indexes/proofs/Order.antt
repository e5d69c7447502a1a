-- The records in the order of their ids: there is one such list at most, and one exactly where no id repeats.
use Prim.Native.Nat.{ℕ, zero, suc, ◌+◌, ◌-◌, ◌≤◌, ◌<◌}
use native.Mathlib.Omega.{arith}
use native.Mathlib.Decide.{ℕ_discrete}
use native.Mathlib.Nat.{suc-add}
use mathlib.Core.Path.{◌≡◌, refl, sym, ap, ap₂, ◌∙◌}
use mathlib.Core.Logic.{◌⊎◌, inl, inr, ⊎_elim}
use mathlib.Core.Bool.{Bool, true, false, cond}
use mathlib.Core.List.Memᴰ
use mathlib.Core.List.{List, [], ◌∷◌, Memᴰ}
use lib.ListN.{length, get_or, take}
use lib.Seq.{get_or-take, length-take-le}
use borrow.Author.Tests.{ltb-true}
use Rattle.meaning.specs.Lists.{same, some, find, stands}
use Rattle.meaning.specs.Rules.{rule20}
use Rattle.meaning.specs.Promises.{Ordered}
use Rattle.meaning.proofs.ListLaws.{both, same_equal, same_self}
use Rattle.meaning.proofs.Laws.{each_cons, At, place_of, in_order_lem}
use Rattle.meaning.proofs.References.{First, absent, found, find_first, any_yes, twentieth}
use Rattle.meaning.proofs.Tests.{untrue, Found, some_found, some_none, Standing, below, level, over, standing}
use Rattle.text.proofs.Laws.{same_no}
use Rattle.ranking.specs.Ranks.{before}
use Rattle.ranking.proofs.Laws.{before_irreflexive, before_trans, before_total}
use Rattle.indexes.specs.Order.{id_of, repeats, Rising, put_in, in_order, ranked}

-- ---- lists of numbers in a strict order

-- a list from which one number is taken out
record Out (x : ℕ) (m : List ℕ) : Type 0 where
  rest : List ℕ
  size : length m ≡ suc (length rest)
  others : (y : ℕ) → Memᴰ y m → (y ≡ x → ⊥) → Memᴰ y rest

take_out : (x : ℕ) (m : List ℕ) → Memᴰ x m → Out x m
take_out x [] x'' = elim x'' [ ]
take_out x (z ∷ m) (Memᴰ.head e) =
    record { rest = m; size = refl; others = λ y t n. ⊎_elim (λ (q : y ≡ z). absurd (n (q ∙ sym e))) (λ t. t) (Memᴰ.cases_cons t) }
take_out x (z ∷ m) (Memᴰ.tail p) =
    let o = take_out x m p in
    record {
      rest = z ∷ o.rest;
      size = ap suc o.size;
      others = λ y t n. ⊎_elim (λ (q : y ≡ z). Memᴰ.head q) (λ t. Memᴰ.tail (o.others y t n)) (Memᴰ.cases_cons t);
    }

-- a number stands in a list, or no number of the list is it
seek : (x : ℕ) (l : List ℕ) → Memᴰ x l ⊎ ((y : ℕ) → Memᴰ y l → y ≡ x → ⊥)
seek x [] = inr (λ y m e. Memᴰ.not-nil m)
seek x (z ∷ l) = go (ℕ_discrete x z) (seek x l)
  where
    go : Dec (x ≡ z) → Memᴰ x l ⊎ ((y : ℕ) → Memᴰ y l → y ≡ x → ⊥) → Memᴰ x (z ∷ l) ⊎ ((y : ℕ) → Memᴰ y (z ∷ l) → y ≡ x → ⊥)
    go (yes e) r = inl (Memᴰ.head e)
    go (no n) (inl m) = inl (Memᴰ.tail m)
    go (no n) (inr k) = inr (λ y m e. ⊎_elim (λ (q : y ≡ z). n (sym e ∙ q)) (λ t. k y t e) (Memᴰ.cases_cons m))

module _ (less : ℕ → ℕ → Bool) (never : (x : ℕ) → less x x ≡ true → ⊥) where
  -- an ordered list of numbers that all stand in a list is no longer than that
  fits : (l m : List ℕ) → Ordered less l → ((x : ℕ) → Memᴰ x l → Memᴰ x m) → length l ≤ length m
  fits [] m o h = omega arith
  fits (x ∷ l) m o h =
      let t = take_out x m (h x (Memᴰ.head refl)) in
      let k : length l ≤ length t.rest = fits l t.rest o.1 (λ y p. t.others y (h y (Memᴰ.tail p)) (λ e. never x (rw e at (o.0 y p)))) in
      omega (arith, t.size)

  -- .. and where it is as long, it has all of that
  fills : (l m : List ℕ) → Ordered less l → ((x : ℕ) → Memᴰ x l → Memᴰ x m) → length m ≤ length l → (x : ℕ) → Memᴰ x m → Memᴰ x l
  fills l m o h long x p = go (seek x l)
    where
      go : Memᴰ x l ⊎ ((y : ℕ) → Memᴰ y l → y ≡ x → ⊥) → Memᴰ x l
      go (inl q) = q
      go (inr none) =
          let t = take_out x m p in
          absurd (omega (arith, t.size, fits l t.rest o (λ y q. t.others y (h y q) (none y q))))

  -- two ordered lists of the same numbers are one
  module _ (chain : (x y z : ℕ) → less x y ≡ true → less y z ≡ true → less x z ≡ true) where
    same_lists : (l m : List ℕ) → Ordered less l → Ordered less m → ((x : ℕ) → Memᴰ x l → Memᴰ x m) → ((x : ℕ) → Memᴰ x m → Memᴰ x l) → l ≡ m
    same_lists [] [] o q f g = refl
    same_lists [] (y ∷ m) o q f g = absurd (Memᴰ.not-nil (g y (Memᴰ.head refl)))
    same_lists (x ∷ l) [] o q f g = absurd (Memᴰ.not-nil (f x (Memᴰ.head refl)))
    same_lists (x ∷ l) (y ∷ m) o q f g = ap₂ ◌∷◌ e (same_lists l m o.1 q.1 f' g')
      where
        e : x ≡ y
        e =
            ⊎_elim (λ (h : x ≡ y). h) (λ h.
            ⊎_elim (λ (k : y ≡ x). sym k) (λ k. absurd (never x (chain x y x (o.0 y k) (q.0 x h)))) (Memᴰ.cases_cons (g y (Memᴰ.head refl))))
            (Memᴰ.cases_cons (f x (Memᴰ.head refl)))

        f' : (z : ℕ) → Memᴰ z l → Memᴰ z m
        f' z h = ⊎_elim (λ (k : z ≡ y). absurd (never x (rw (k ∙ sym e) at (o.0 z h)))) (λ k. k) (Memᴰ.cases_cons (f z (Memᴰ.tail h)))

        g' : (z : ℕ) → Memᴰ z m → Memᴰ z l
        g' z h = ⊎_elim (λ (k : z ≡ x). absurd (never y (rw (k ∙ e) at (q.0 z h)))) (λ k. k) (Memᴰ.cases_cons (g z (Memᴰ.tail h)))

    -- neighbours in order make an ordered list
    neighbours : (l : List ℕ) → ((k : ℕ) → k + 1 < length l → less (get_or l k 0) (get_or l (k + 1) 0) ≡ true) → Ordered less l
    neighbours [] h = tt
    neighbours (x ∷ []) h = (λ y m. absurd (Memᴰ.not-nil m), tt)
    neighbours (x ∷ y ∷ l) h =
        let r : Ordered less (y ∷ l) = neighbours (y ∷ l) (λ k g. rw suc-add at (h (suc k) (omega arith))) in
        (each_cons (λ z. less x z ≡ true) y l (h 0 (omega arith)) (λ z m. chain x y z (h 0 (omega arith)) (r.0 z m)), r)

-- what holds of any two elements makes an ordered list
pairs : (less : ℕ → ℕ → Bool) (l : List ℕ) → ((j k : ℕ) → j < k → k < length l → less (get_or l j 0) (get_or l k 0) ≡ true) → Ordered less l
pairs less [] h = tt
pairs less (x ∷ l) h = (λ y m. let p = place_of l 0 y m in rw p.here at (h 0 (suc p.index) (omega arith) (omega (arith, p.inside))), pairs less l (λ j k a b. h (suc j) (suc k) (omega arith) (omega arith)))

-- ---- the order of records

module _ (ids : List (List ℕ)) where
  abbrev less : ℕ → ℕ → Bool
  less r q = before (id_of ids r) (id_of ids q)

  never : (r : ℕ) → less r r ≡ true → ⊥
  never r h = before_irreflexive (id_of ids r) h

  chain : (p q r : ℕ) → less p q ≡ true → less q r ≡ true → less p r ≡ true
  chain p q r = before_trans (id_of ids p) (id_of ids q) (id_of ids r)

  -- every record, each once, in order
  risen : (rs : List ℕ) → ((r : ℕ) → 1 ≤ r → r ≤ length ids → Memᴰ r rs) → ((r : ℕ) → Memᴰ r rs → (1 ≤ r) × (r ≤ length ids)) → Ordered less rs → Rising ids rs
  risen rs every only o = record {
    every = every;
    only = only;
    once = λ j k a b e. never (get_or rs k 0) (rw e at (in_order_lem less rs 0 j k o a b));
    rise = λ j k a b. in_order_lem less rs 0 j k o a b;
  }

  -- two such lists are one
  pub rising_one : (rs qs : List ℕ) → Rising ids rs → Rising ids qs → rs ≡ qs
  rising_one rs qs a b =
      same_lists less never chain rs qs (pairs less rs a.rise) (pairs less qs b.rise)
      (λ x m. let k = a.only x m in b.every x k.0 k.1)
      (λ x m. let k = b.only x m in a.every x k.0 k.1)

  -- ---- records put in order one after the other

  put_in_lem : (r : ℕ) (l : List ℕ) (x : ℕ) → Memᴰ x (r ∷ l) → Memᴰ x (put_in ids r l)
  unfolding put_in
  put_in_lem r [] x m = m
  put_in_lem r (y ∷ l) x m = go (less r y) (put_in_lem r l)
    where
      go : (b : Bool) → ((z : ℕ) → Memᴰ z (r ∷ l) → Memᴰ z (put_in ids r l)) → Memᴰ x (cond b (r ∷ y ∷ l) (y ∷ put_in ids r l))
      go true ih = m
      go false ih =
          ⊎_elim (λ (e : x ≡ r). Memᴰ.tail (ih x (Memᴰ.head e))) (λ t.
          ⊎_elim (λ (e : x ≡ y). Memᴰ.head e) (λ u. Memᴰ.tail (ih x (Memᴰ.tail u))) (Memᴰ.cases_cons t))
          (Memᴰ.cases_cons m)

  put_of : (r : ℕ) (l : List ℕ) (x : ℕ) → Memᴰ x (put_in ids r l) → Memᴰ x (r ∷ l)
  unfolding put_in
  put_of r [] x m = m
  put_of r (y ∷ l) x m = go (less r y) (put_of r l) m
    where
      go : (b : Bool) → ((z : ℕ) → Memᴰ z (put_in ids r l) → Memᴰ z (r ∷ l)) → Memᴰ x (cond b (r ∷ y ∷ l) (y ∷ put_in ids r l)) → Memᴰ x (r ∷ y ∷ l)
      go true ih p = p
      go false ih p =
          ⊎_elim (λ (e : x ≡ y). Memᴰ.tail (Memᴰ.head e)) (λ t.
          ⊎_elim (λ (e : x ≡ r). Memᴰ.head e) (λ u. Memᴰ.tail (Memᴰ.tail u)) (Memᴰ.cases_cons (ih x t)))
          (Memᴰ.cases_cons p)

  put_length : (r : ℕ) (l : List ℕ) → length (put_in ids r l) ≡ suc (length l)
  unfolding put_in
  put_length r [] = refl
  put_length r (y ∷ l) = go (less r y) (put_length r l)
    where
      go : (b : Bool) → length (put_in ids r l) ≡ suc (length l) → length (cond b (r ∷ y ∷ l) (y ∷ put_in ids r l)) ≡ suc (suc (length l))
      go true e = refl
      go false e = ap suc e

  -- a record whose id is none of theirs
  put_order : (r : ℕ) (l : List ℕ) → Ordered less l → ((x : ℕ) → Memᴰ x l → id_of ids x ≡ id_of ids r → ⊥) → Ordered less (put_in ids r l)
  unfolding put_in
  put_order r [] o other = (λ y m. absurd (Memᴰ.not-nil m), tt)
  put_order r (y ∷ l) o other = go (less r y) refl (put_order r l o.1 (λ x m. other x (Memᴰ.tail m)))
    where
      go : (b : Bool) → less r y ≡ b → Ordered less (put_in ids r l) → Ordered less (cond b (r ∷ y ∷ l) (y ∷ put_in ids r l))
      go true e ih = (each_cons (λ z. less r z ≡ true) y l e (λ z m. chain r y z e (o.0 z m)), o)
      go false e ih =
          let k : less y r ≡ true = before_total (id_of ids r) (id_of ids y) e (same_no _ _ (λ q. other y (Memᴰ.head refl) (sym q))) in
          (λ z m. each_cons (λ x. less y x ≡ true) r l k o.0 z (put_of r l z m), ih)

  order_every : (n r : ℕ) → 1 ≤ r → r ≤ n → Memᴰ r (in_order ids n)
  unfolding in_order
  order_every zero r a b = absurd (omega arith)
  order_every (suc n) r a b = put_in_lem (suc n) (in_order ids n) r (go (ℕ_discrete r (suc n)) (order_every n r a))
    where
      go : Dec (r ≡ suc n) → (r ≤ n → Memᴰ r (in_order ids n)) → Memᴰ r (suc n ∷ in_order ids n)
      go (yes e) ih = Memᴰ.head e
      go (no d) ih = Memᴰ.tail (ih (omega (arith, d)))

  order_only : (n r : ℕ) → Memᴰ r (in_order ids n) → (1 ≤ r) × (r ≤ n)
  unfolding in_order
  order_only zero r m = absurd (Memᴰ.not-nil m)
  order_only (suc n) r m =
      ⊎_elim (λ (e : r ≡ suc n). (omega arith, omega arith)) (λ t. let k = order_only n r t in (k.0, omega (arith, k.1)))
      (Memᴰ.cases_cons (put_of (suc n) (in_order ids n) r m))

  order_length : (n : ℕ) → length (in_order ids n) ≡ n
  unfolding in_order
  order_length zero = refl
  order_length (suc n) = put_length (suc n) (in_order ids n) ∙ ap suc (order_length n)

  pub ranked_length : length (ranked ids) ≡ length ids
  unfolding ranked
  ranked_length = order_length (length ids)

  -- ---- ids that don't repeat

  pub no_repeat : repeats ids ≡ false → (r q : ℕ) → 1 ≤ r → r < q → q ≤ length ids → id_of ids r ≡ id_of ids q → ⊥
  unfolding repeats rule20 stands id_of
  no_repeat e r q a b c h =
      let i : ℕ = q - 1 in
      let at : get_or (take i ids) (r - 1) [] ≡ get_or ids i [] = get_or-take i ids (r - 1) [] (omega arith) ∙ h in
      both (rule20 ids i)
      (any_yes (λ w. same w (get_or ids i [])) [] (take i ids) (r - 1) (omega (arith, length-take-le i ids (omega arith))) (rw at (same_self (get_or ids i []))))
      (some_none (rule20 ids) 0 (length ids) e i (omega arith) (omega arith))

  pub repeat_none : ((r q : ℕ) → 1 ≤ r → r < q → q ≤ length ids → id_of ids r ≡ id_of ids q → ⊥) → repeats ids ≡ false
  unfolding repeats id_of
  repeat_none d = untrue (some (rule20 ids) 0 (length ids)) (λ e. twice (some_found (rule20 ids) 0 (length ids) e))
    where
      twice : Found (rule20 ids) 0 (length ids) → ⊥
      twice f = go (find v 1 ids) (find_first v 1 ids) (ltb-true _ _ (sym (twentieth ids f.place (omega arith)) ∙ f.is))
        where
          v : List ℕ
          v = get_or ids f.place []

          back : (n : ℕ) → n + 1 - 1 ≡ n
          back n = omega arith

          go : (p : ℕ) → First v 1 ids p → p < f.place + 1 → ⊥
          go p (absent e none) h = both (same v v) (same_self v) (none f.place (omega arith))
          go p (found k e h i u) l = d (k + 1) (f.place + 1) (omega arith) (omega arith) (omega arith) (rw (back k, back f.place) (same_equal _ _ i))

  order_order : repeats ids ≡ false → (n : ℕ) → n ≤ length ids → Ordered less (in_order ids n)
  unfolding in_order
  order_order e zero h = tt
  order_order e (suc n) h =
      put_order (suc n) (in_order ids n) (order_order e n (omega arith)) (λ x m. let k = order_only n x m in no_repeat e x (suc n) k.0 (omega (arith, k.1)) h)

  pub ranked_rising : repeats ids ≡ false → Rising ids (ranked ids)
  unfolding ranked
  ranked_rising e = risen (ranked ids) (order_every (length ids)) (order_only (length ids)) (order_order e (length ids) (omega arith))

  -- two listed records of one id are one
  listed_once : (rs : List ℕ) → Rising ids rs → (r q : ℕ) → At rs 0 r → At rs 0 q → id_of ids r ≡ id_of ids q → r ≡ q
  listed_once rs a r q i j e = go (standing i.index j.index)
    where
      go : Standing i.index j.index → r ≡ q
      go (below h) = absurd (before_irreflexive (id_of ids q) (rw (i.here, j.here, e) at (a.rise i.index j.index h j.inside)))
      go (level h) = sym i.here ∙ rw h j.here
      go (over h) = absurd (before_irreflexive (id_of ids q) (rw (i.here, j.here, e) at (a.rise j.index i.index h i.inside)))

  -- a file whose records can be listed so repeats no id
  pub rising_apart : (rs : List ℕ) → Rising ids rs → repeats ids ≡ false
  rising_apart rs a =
      repeat_none (λ r q h l k e.
      let z : r ≡ q = listed_once rs a r q (place_of rs 0 r (a.every r h (omega arith))) (place_of rs 0 q (a.every q (omega arith) k)) e in
      omega arith)

  pub rising_ranked : (rs : List ℕ) → Rising ids rs → rs ≡ ranked ids
  rising_ranked rs a = rising_one rs (ranked ids) a (ranked_rising (rising_apart rs a))

  pub rising_length : (rs : List ℕ) → Rising ids rs → length rs ≡ length ids
  rising_length rs a = rw (rising_ranked rs a) ranked_length

  -- As many numbers as there are records, each a record's, whose ids rise: every record is listed, and once.
  pub all_listed :
      (rs : List ℕ)
      → length rs ≡ length ids
      → ((k : ℕ) → k < length rs → (1 ≤ get_or rs k 0) × (get_or rs k 0 ≤ length ids))
      → ((k : ℕ) → k + 1 < length rs → before (id_of ids (get_or rs k 0)) (id_of ids (get_or rs (k + 1) 0)) ≡ true)
      → Rising ids rs
  unfolding ranked
  all_listed rs long records rise =
      let o = neighbours less never chain rs rise in
      risen rs
      (λ r a b. fills less never rs (ranked ids) o (λ x m. let k = only x m in order_every (length ids) x k.0 k.1) (omega (arith, ranked_length)) r (order_every (length ids) r a b))
      only o
    where
      only : (r : ℕ) → Memᴰ r rs → (1 ≤ r) × (r ≤ length ids)
      only r m = let p = place_of rs 0 r m in rw p.here at (records p.index p.inside)
