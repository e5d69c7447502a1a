-- Demand 1: the refusal is the first broken claim, and there is one exactly when some claim is broken.
use Prim.Native.Nat.{ℕ, zero, suc, ◌<◌}
use native.Mathlib.Omega.{arith}
use mathlib.Core.Path.{◌≡◌, refl, sym, ap, ◌∙◌}
use mathlib.Core.Logic.{◌↔◌, ◌⊎◌, inl, inr}
use mathlib.Core.Bool.{Bool, true, false}
use mathlib.Core.List.Memᴰ
use mathlib.Core.List.{List, [], ◌∷◌, Memᴰ}
use native.Mathlib.Decide.{ℕ_discrete}
use lib.ListN.{length, get_or}
use lib.Dec.{ltb}
use borrow.Author.Tests.{ltb-true, ltb-false}
use Rattle.meaning.specs.declared.Refusal.{Refusal}
use Rattle.std.specs.Prelude.{Result, Ok, Err}
use Rattle.meaning.specs.Refusals.{Claim, claims, refusal, speaks, verdict_of, verdict_numbers}
use Rattle.meaning.specs.Promises.{Ordered, speaks_before, no_claim, FirstBroken, NoneBroken, SomeBroken, says_readable, says_unreadable, RefusedBy, VerdictSaid}
use Rattle.meaning.proofs.ListLaws.{both}
use Rattle.meaning.proofs.Laws.{each_cons, get_d_mem, At, place_of, in_order_lem}

speaks_yes : (p : Claim) (r : List Claim) → p.broken ≡ true → speaks (p ∷ r) ≡ Err (refusal p)
unfolding speaks
speaks_yes p r e = rw e

speaks_no : (p : Claim) (r : List Claim) → p.broken ≡ false → speaks (p ∷ r) ≡ speaks r
unfolding speaks
speaks_no p r e = rw e

-- what is told is the first broken
first_of : (cs : List Claim) (r : Refusal) → speaks cs ≡ Err r → FirstBroken cs r
unfolding speaks
first_of [] r e = let z : ◌≡◌ {A = ℕ} 0 1 = cc in absurd (omega arith)
first_of (p ∷ cs) r e = go p.broken refl (first_of cs r)
  where
    go : (t : Bool) → p.broken ≡ t → (speaks cs ≡ Err r → FirstBroken cs r) → FirstBroken (p ∷ cs) r
    go true b rest = record { at = 0; inside = omega arith; spoken = cc (speaks_yes p cs b); broken = b; silent = λ k h. absurd (omega arith) }
    go false b rest = later (rest (sym (speaks_no p cs b) ∙ e))
      where
        later : FirstBroken cs r → FirstBroken (p ∷ cs) r
        later f = record { at = suc f.at; inside = omega arith; spoken = f.spoken; broken = f.broken; silent = early f }
          where
            early : (f : FirstBroken cs r) (k : ℕ) → k < suc f.at → (get_or (p ∷ cs) k no_claim).broken ≡ false
            early f zero h = b
            early f (suc k) h = f.silent k (omega arith)

-- the first broken is told
of_first : (cs : List Claim) (at : ℕ) → at < length cs → (get_or cs at no_claim).broken ≡ true → ((k : ℕ) → k < at → (get_or cs k no_claim).broken ≡ false) → speaks cs ≡ Err (refusal (get_or cs at no_claim))
of_first [] at h b silent = absurd (omega arith)
of_first (p ∷ cs) zero h b silent = speaks_yes p cs b
of_first (p ∷ cs) (suc at) h b silent =
    speaks_no p cs (silent 0 (omega arith)) ∙ of_first cs at (omega arith) b (λ k less. silent (suc k) (omega arith))

pub spoken_first : (cs : List Claim) (r : Refusal) → speaks cs ≡ Err r ↔ FirstBroken cs r
spoken_first cs r = (first_of cs r, λ f. of_first cs f.at f.inside f.broken f.silent ∙ ap Err f.spoken)

none_of : (cs : List Claim) → speaks cs ≡ Ok tt → NoneBroken cs
unfolding speaks
none_of [] e = λ p m. absurd (Memᴰ.not-nil m)
none_of (p ∷ cs) e = go p.broken refl (none_of cs)
  where
    go : (t : Bool) → p.broken ≡ t → (speaks cs ≡ Ok tt → NoneBroken cs) → NoneBroken (p ∷ cs)
    go true b rest = let z : ◌≡◌ {A = ℕ} 0 1 = cc (speaks_yes p cs b) in absurd (omega arith)
    go false b rest = each_cons (λ (q : Claim). q.broken ≡ false) p cs b (rest (sym (speaks_no p cs b) ∙ e))

of_none : (cs : List Claim) → NoneBroken cs → speaks cs ≡ Ok tt
unfolding speaks
of_none [] none = refl
of_none (p ∷ cs) none = speaks_no p cs (none p (Memᴰ.head refl)) ∙ of_none cs (λ q m. none q (Memᴰ.tail m))

pub silent_none : (cs : List Claim) → speaks cs ≡ Ok tt ↔ NoneBroken cs
silent_none cs = (none_of cs, of_none cs)

-- at most one refusal is first
pub first_unique : (cs : List Claim) (r s : Refusal) → FirstBroken cs r → FirstBroken cs s → r ≡ s
first_unique cs r s f g = cc ((spoken_first cs r).1 f, (spoken_first cs s).1 g)

-- a claim that does not come after the first broken one, and is another, is not broken
pub earlier_kept : (cs : List Claim) (r : Refusal) → FirstBroken cs r → Ordered speaks_before cs → (p : Claim) → Memᴰ p cs
    → ((q : Claim) → refusal q ≡ r → speaks_before q p ≡ false) → ((q : Claim) → refusal q ≡ r → q ≡ p → ⊥) → p.broken ≡ false
earlier_kept cs r b o p m not_after other = go (ltb k.index b.at) refl (ℕ_discrete k.index b.at)
  where
    k : At cs no_claim p
    k = place_of cs no_claim p m

    go : (t : Bool) → ltb k.index b.at ≡ t → Dec (k.index ≡ b.at) → p.broken ≡ false
    go true e d = rw k.here at (b.silent k.index (ltb-true _ _ e))
    go false e (yes d) = absurd (other (get_or cs b.at no_claim) b.spoken (rw d at k.here))
    go false e (no d) =
        let i : b.at < k.index = omega (arith, d, ltb-false k.index b.at e) in
        let z : speaks_before (get_or cs b.at no_claim) p ≡ true = rw k.here at (in_order_lem speaks_before cs no_claim b.at k.index o i k.inside) in
        both (speaks_before (get_or cs b.at no_claim) p) z (not_after (get_or cs b.at no_claim) b.spoken)

-- refusals with the same four numbers are one
pub one_refusal : (r s : Refusal) → says_unreadable s ≡ says_unreadable r → s ≡ r
one_refusal r s e = λ i. record { number = at 0 i; file = at 1 i; line = at 2 i; column = at 3 i }
  where
    at : (k : ℕ) → get_or (says_unreadable s) k 0 ≡ get_or (says_unreadable r) k 0
    at k = ap (λ (ns : List ℕ). get_or ns k 0) e

-- a verdict by its numbers
pub said_refused : (v : Result Unit Refusal) (r : Refusal) → verdict_numbers v ≡ says_unreadable r ↔ v ≡ Err r
unfolding verdict_numbers
said_refused v r = (go v, λ e. rw e)
  where
    go : (v : Result Unit Refusal) → verdict_numbers v ≡ says_unreadable r → v ≡ Err r
    go (Ok tt) e = let z : ◌≡◌ {A = ℕ} 0 1 = cc in absurd (omega arith)
    go (Err q) e = ap Err (one_refusal r q e)

pub said_readable : (v : Result Unit Refusal) → verdict_numbers v ≡ says_readable ↔ v ≡ Ok tt
unfolding verdict_numbers
said_readable v = (go v, λ e. rw e)
  where
    go : (v : Result Unit Refusal) → verdict_numbers v ≡ says_readable → v ≡ Ok tt
    go (Ok tt) e = refl
    go (Err q) e = let z : ◌≡◌ {A = ℕ} 0 1 = cc in absurd (omega arith)

module _ (files : List (List ℕ)) (rooms : List ℕ) where
  -- The refusal is the first broken claim, and the first broken claim is the refusal.
  pub first_broken : (r : Refusal) → verdict_of files rooms ≡ Err r ↔ FirstBroken (claims files rooms) r
  unfolding verdict_of
  first_broken r = spoken_first (claims files rooms) r

  -- A feed is readable exactly when no claim is broken.
  pub readable_exactly : verdict_of files rooms ≡ Ok tt ↔ NoneBroken (claims files rooms)
  unfolding verdict_of
  readable_exactly = silent_none (claims files rooms)

  -- The verdict in its numbers.
  pub verdict_said : VerdictSaid files rooms
  verdict_said = record {
    refused = λ r. (λ e. (first_broken r).0 ((said_refused (verdict_of files rooms) r).0 e), λ f. (said_refused (verdict_of files rooms) r).1 ((first_broken r).1 f));
    readable = (λ e. readable_exactly.0 ((said_readable (verdict_of files rooms)).0 e), λ n. (said_readable (verdict_of files rooms)).1 (readable_exactly.1 n));
    either = go (verdict_of files rooms) refl;
  }
    where
      go : (v : Result Unit Refusal) → verdict_of files rooms ≡ v → RefusedBy files rooms ⊎ (verdict_numbers (verdict_of files rooms) ≡ says_readable)
      go (Ok tt) e = inr ((said_readable (verdict_of files rooms)).1 e)
      go (Err r) e = inl (record { told = r; verdict = (said_refused (verdict_of files rooms) r).1 e })

  -- A feed is refused exactly when some claim is broken.
  pub refused_exactly : RefusedBy files rooms ↔ SomeBroken (claims files rooms)
  refused_exactly = (λ v. there v ((verdict_said.refused v.told).0 v.verdict), λ s. back s (verdict_of files rooms) refl)
    where
      there : (v : RefusedBy files rooms) → FirstBroken (claims files rooms) v.told → SomeBroken (claims files rooms)
      there v f = record { which = get_or (claims files rooms) f.at no_claim; among = get_d_mem (claims files rooms) f.at no_claim f.inside; broken = f.broken }

      back : SomeBroken (claims files rooms) → (v : Result Unit Refusal) → verdict_of files rooms ≡ v → RefusedBy files rooms
      back s (Ok tt) e =
          let none : s.which.broken ≡ false = readable_exactly.0 e s.which s.among in
          let z : ◌≡◌ {A = ℕ} 0 1 = cc in absurd (omega arith)
      back s (Err r) e = record { told = r; verdict = (said_refused (verdict_of files rooms) r).1 e }
