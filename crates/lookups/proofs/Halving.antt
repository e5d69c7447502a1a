-- What halving a range finds.
use Rattle.std.specs.Prelude.{Ok, Err}
use mathlib.Core.Path.{◌≡◌, refl, sym, ap, ◌∙◌}
use mathlib.Core.Logic.{◌⊎◌, inl, inr}
use mathlib.Core.Bool.{Bool, true, false, cond}
use Prim.Native.Nat.{ℕ, zero, suc, ◌*◌, ◌-◌, ◌^◌, ◌≤◌, ◌<◌}
use native.Mathlib.Nat.{pow-succ'}
use native.Mathlib.Omega.{arith}
use lib.Dec.{eqb}
use borrow.Author.Tests.{eqb-true, eqb-false, eq-eqb}
use Rattle.std.specs.declared.cmp.Ordering.TheVariants.{Less, Equal, Greater}
use Rattle.meaning.proofs.Tests as T
use Rattle.lookups.specs.Lookup.{Standing, refused, middle, lastly, low_of, high_of, onward, halve}

module _ (at : ℕ → Standing) (en : ℕ → ℕ) where
  -- no entry has the code's id, and each has one
  abbrev Passed : ℕ → ℕ → Type 0
  Passed low high = (j : ℕ) → low ≤ j → j < high → (at j ≡ Ok Less) ⊎ (at j ≡ Ok Greater)

  pub halve_none : (k low high : ℕ) → low < high → high - low ≤ k → Passed low high → halve at en k low high ≡ Ok 0
  unfolding halve
  halve_none zero low high some h w = absurd (omega arith)
  halve_none (suc k) low high some h w = go (eqb (high - low) 1) refl (halve_none k)
    where
      m : ℕ
      m = middle low high

      last : (at low ≡ Ok Less) ⊎ (at low ≡ Ok Greater) → lastly (at low) (en low) ≡ Ok 0
      last (inl e) = rw e
      last (inr e) = rw e

      Fewer : Type 0
      Fewer = (a b : ℕ) → a < b → b - a ≤ k → Passed a b → halve at en k a b ≡ Ok 0

      more : (high - low ≡ 1 → ⊥) → Fewer → (at m ≡ Ok Less) ⊎ (at m ≡ Ok Greater) → onward (at m) (halve at en k (low_of (at m) low m) (high_of (at m) m high)) ≡ Ok 0
      more n ih (inl e) = rw e (ih low m (omega arith) (omega arith) (λ j a b. w j a (omega arith)))
      more n ih (inr e) = rw e (ih m high (omega arith) (omega arith) (λ j a b. w j (omega arith) b))

      go : (t : Bool) → eqb (high - low) 1 ≡ t → Fewer → cond t (lastly (at low) (en low)) (onward (at m) (halve at en k (low_of (at m) low m) (high_of (at m) m high))) ≡ Ok 0
      go true e ih = last (w low (omega arith) some)
      go false e ih = more (eqb-false (high - low) 1 e) ih (w m (omega arith) (omega (arith, eqb-false (high - low) 1 e)))

  -- entry i has the code's id, those before it have lesser ones and those after it greater ones
  pub record Stands (low high i : ℕ) : Type 0 where
    pub from : low ≤ i
    pub to : i < high
    pub here : at i ≡ Ok Equal
    pub lesser : (j : ℕ) → low ≤ j → j < i → at j ≡ Ok Greater
    pub greater : (j : ℕ) → i < j → j < high → at j ≡ Ok Less

  pub halve_found : (k low high i : ℕ) → high - low ≤ k → Stands low high i → halve at en k low high ≡ Ok (en i)
  unfolding halve
  halve_found zero low high i h w = absurd (omega (arith, w.from, w.to))
  halve_found (suc k) low high i h w = go (eqb (high - low) 1) refl (halve_found k)
    where
      below : i < middle low high → (high - low ≡ 1 → ⊥) → Stands low (middle low high) i
      below l n = record { from = w.from; to = l; here = w.here; lesser = w.lesser; greater = λ j a b. w.greater j a (omega (arith, w.from, w.to)) }

      above : middle low high ≤ i → (high - low ≡ 1 → ⊥) → Stands (middle low high) high i
      above l n = record { from = l; to = w.to; here = w.here; lesser = λ j a b. w.lesser j (omega (arith, w.from, w.to)) b; greater = w.greater }

      last : high - low ≡ 1 → lastly (at low) (en low) ≡ Ok (en i)
      last e = let z : low ≡ i = omega (arith, w.from, w.to) in rw (z, w.here)

      More : Type 0
      More = (a b i : ℕ) → b - a ≤ k → Stands a b i → halve at en k a b ≡ Ok (en i)

      more : (high - low ≡ 1 → ⊥) → More → T.Standing i (middle low high) → onward (at (middle low high)) (halve at en k (low_of (at (middle low high)) low (middle low high)) (high_of (at (middle low high)) (middle low high) high)) ≡ Ok (en i)
      more n ih (T.below l) = rw (w.greater (middle low high) l (omega (arith, w.from, w.to))) (ih low (middle low high) i (omega arith) (below l n))
      more n ih (T.level l) =
          let z : at (middle low high) ≡ Ok Equal = ap at (sym l) ∙ w.here in
          rw z (ih (middle low high) high i (omega arith) (above (omega arith) n))
      more n ih (T.over l) = rw (w.lesser (middle low high) (omega arith) l) (ih (middle low high) high i (omega arith) (above (omega arith) n))

      go : (t : Bool) → eqb (high - low) 1 ≡ t → More → cond t (lastly (at low) (en low)) (onward (at (middle low high)) (halve at en k (low_of (at (middle low high)) low (middle low high)) (high_of (at (middle low high)) (middle low high) high))) ≡ Ok (en i)
      go true e ih = last (eqb-true _ _ e)
      go false e ih = more (eqb-false _ _ e) ih (T.standing i (middle low high))

  -- an answer with a record is one that an entry lists, whose id is the code
  pub record Listed (r : ℕ) : Type 0 where
    pub entry : ℕ
    pub is : en entry ≡ r
    pub here : at entry ≡ Ok Equal

  last_listed : (low r : ℕ) (q : Standing) → at low ≡ q → 1 ≤ r → lastly q (en low) ≡ Ok r → Listed r
  last_listed low r (Ok Less) e h f = let z : ◌≡◌ {A = ℕ} 0 r = cc in absurd (omega arith)
  last_listed low r (Ok Equal) e h f = record { entry = low; is = cc; here = e }
  last_listed low r (Ok Greater) e h f = let z : ◌≡◌ {A = ℕ} 0 r = cc in absurd (omega arith)
  last_listed low r (Err x) e h f = let z : ◌≡◌ {A = ℕ} 0 1 = cc in absurd (omega arith)

  pub halve_listed : (k low high r : ℕ) → 1 ≤ r → halve at en k low high ≡ Ok r → Listed r
  unfolding halve
  halve_listed zero low high r h e = let z : ◌≡◌ {A = ℕ} 0 r = cc in absurd (omega arith)
  halve_listed (suc k) low high r h e = go (eqb (high - low) 1) (at (middle low high)) e (λ a b. halve_listed k a b r h)
    where
      go : (t : Bool) (q : Standing) → cond t (lastly (at low) (en low)) (onward q (halve at en k (low_of q low (middle low high)) (high_of q (middle low high) high))) ≡ Ok r → ((a b : ℕ) → halve at en k a b ≡ Ok r → Listed r) → Listed r
      go true q f ih = last_listed low r (at low) refl h f
      go false (Ok Less) f ih = ih low (middle low high) f
      go false (Ok Equal) f ih = ih (middle low high) high f
      go false (Ok Greater) f ih = ih (middle low high) high f
      go false (Err x) f ih = let z : ◌≡◌ {A = ℕ} 0 1 = cc in absurd (omega arith)

  -- As many turns are enough as it takes to halve the range to one entry, and one for that.
  pub halve_few : (k m low high : ℕ) → low < high → high - low ≤ 2 ^ k → high - low ≤ m → halve at en m low high ≡ halve at en (suc k) low high
  unfolding halve
  halve_few k zero low high some h g = absurd (omega arith)
  halve_few zero (suc m) low high some h g = let e : high - low ≡ 1 = omega arith in rw (eq-eqb (high - low) 1 e)
  halve_few (suc k) (suc m) low high some h g = go (eqb (high - low) 1) refl (at (middle low high)) (halve_few k m)
    where
      twice : high - low ≤ 2 * 2 ^ k
      twice = rw (pow-succ' 2 k) at h

      go : (t : Bool) → eqb (high - low) 1 ≡ t → (q : Standing) → ((a b : ℕ) → a < b → b - a ≤ 2 ^ k → b - a ≤ m → halve at en m a b ≡ halve at en (suc k) a b)
          → cond t (lastly (at low) (en low)) (onward q (halve at en m (low_of q low (middle low high)) (high_of q (middle low high) high)))
          ≡ cond t (lastly (at low) (en low)) (onward q (halve at en (suc k) (low_of q low (middle low high)) (high_of q (middle low high) high)))
      go true e q ih = refl
      go false e (Ok Less) ih = ih low (middle low high) (omega (arith, eqb-false (high - low) 1 e)) (omega arith) (omega arith)
      go false e (Ok Equal) ih = ih (middle low high) high (omega arith) (omega arith) (omega (arith, eqb-false (high - low) 1 e))
      go false e (Ok Greater) ih = ih (middle low high) high (omega arith) (omega arith) (omega (arith, eqb-false (high - low) 1 e))
      go false e (Err x) ih = refl

  -- where no id can be compared the first probe refuses,
  pub halve_unsound : (k low high : ℕ) → low < high → high - low ≤ k → ((j : ℕ) → low ≤ j → j < high → at j ≡ refused) → halve at en k low high ≡ refused
  unfolding halve
  halve_unsound zero low high some h w = absurd (omega arith)
  halve_unsound (suc k) low high some h w = go (eqb (high - low) 1)
    where
      m : ℕ
      m = middle low high

      go : (t : Bool) → cond t (lastly (at low) (en low)) (onward (at m) (halve at en k (low_of (at m) low m) (high_of (at m) m high))) ≡ refused
      go true = rw (w low (omega arith) some)
      go false = rw (w m (omega arith) (omega arith))

  -- and only such an entry does
  pub record Stopped (low high : ℕ) : Type 0 where
    pub entry : ℕ
    pub from : low ≤ entry
    pub to : entry < high
    pub unsound : at entry ≡ refused

  last_stopped : (low high : ℕ) → low < high → (q : Standing) → at low ≡ q → lastly q (en low) ≡ refused → Stopped low high
  last_stopped low high h (Ok Less) e f = let z : ◌≡◌ {A = ℕ} 0 1 = cc in absurd (omega arith)
  last_stopped low high h (Ok Equal) e f = let z : ◌≡◌ {A = ℕ} 0 1 = cc in absurd (omega arith)
  last_stopped low high h (Ok Greater) e f = let z : ◌≡◌ {A = ℕ} 0 1 = cc in absurd (omega arith)
  last_stopped low high h (Err x) e f = record { entry = low; from = omega arith; to = h; unsound = e }

  pub halve_stopped : (k low high : ℕ) → low < high → halve at en k low high ≡ refused → Stopped low high
  unfolding halve
  halve_stopped zero low high h e = let z : ◌≡◌ {A = ℕ} 0 1 = cc in absurd (omega arith)
  halve_stopped (suc k) low high h e = go (eqb (high - low) 1) refl (at (middle low high)) refl e (halve_stopped k)
    where
      wider : (a b : ℕ) → low ≤ a → b ≤ high → Stopped a b → Stopped low high
      wider a b x y r = record { entry = r.entry; from = omega (arith, r.from); to = omega (arith, r.to); unsound = r.unsound }

      go : (t : Bool) → eqb (high - low) 1 ≡ t → (q : Standing) → at (middle low high) ≡ q
          → cond t (lastly (at low) (en low)) (onward q (halve at en k (low_of q low (middle low high)) (high_of q (middle low high) high))) ≡ refused
          → ((a b : ℕ) → a < b → halve at en k a b ≡ refused → Stopped a b) → Stopped low high
      go true o q g f ih = last_stopped low high h (at low) refl f
      go false o (Ok Less) g f ih = wider low (middle low high) (omega arith) (omega arith) (ih low (middle low high) (omega (arith, eqb-false (high - low) 1 o)) f)
      go false o (Ok Equal) g f ih = wider (middle low high) high (omega arith) (omega arith) (ih (middle low high) high (omega arith) f)
      go false o (Ok Greater) g f ih = wider (middle low high) high (omega arith) (omega arith) (ih (middle low high) high (omega arith) f)
      go false o (Err x) g f ih = record { entry = middle low high; from = omega arith; to = omega arith; unsound = g }
