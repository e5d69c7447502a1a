-- The five numbers of an answer about an index tell its case: different cases never give equal numbers.
use Rattle.std.specs.Prelude.{Ok, Err}
use Prim.Native.Nat.{ℕ, zero, suc, ◌≤◌, ◌<◌}
use native.Mathlib.Omega.{arith}
use mathlib.Core.Path.{◌≡◌, refl, subst, ap}
use mathlib.Core.Bool.{Bool, true, false, cond}
use mathlib.Core.List.{List, [], ◌∷◌}
use lib.Dec.{T, leb, ltb, eqb}
use lib.ListN.{length, get_or}
use borrow.Author.Tests.{leb-true, ltb-true, eqb-true, eqb-false}
use Rattle.meaning.specs.declared.Refusal.{Refusal}
use Rattle.std.specs.Prelude.{Result, Ok, Err}
use Rattle.meaning.specs.Bytes.{lines_of}
use Rattle.meaning.specs.Refusals.{Test, Claim, in_file, speaks}
use Rattle.meaning.specs.Promises.{no_claim}
use Rattle.meaning.proofs.Computed.{all, and_left, and_right, is_true}
use Rattle.meaning.proofs.Laws.{get_d_mem}
use Rattle.meaning.proofs.ListLaws.{and_both}
use Rattle.meaning.proofs.Claims.{in_file_lem}
use Rattle.meaning.proofs.FirstBroken.{spoken_first}
use Rattle.indexes.specs.Answer.{IndexAnswer}
use Rattle.indexes.specs.declared.IndexRefusal.TheVariants.{Unread, Barred}
use Rattle.indexes.specs.Order.{ids_of}
use Rattle.indexes.specs.Index.{version_of, index_length, index_tests, writer_tests, spoken, indexed, lone_claims, lone_verdict, if_read, asked_of, barred_or, checked, wrote, index_numbers}
use Rattle.indexes.specs.Promises.{says_whole, says_unread, says_barred}
use Rattle.indexes.proofs.Versions.{known_of}
use Rattle.indexes.proofs.Accepted.{sound}

-- an index has bytes, a file's own refusal names the file, another has a number from 40 on
abbrev pub Apart : IndexAnswer → Type 0
Apart (Ok n) = 1 ≤ n
Apart (Err (Unread r)) = 1 ≤ r.file
Apart (Err (Barred n)) = 40 ≤ n

-- ---- such an answer is told by its numbers

nth : {a b : List ℕ} (k : ℕ) → a ≡ b → get_or a k 0 ≡ get_or b k 0
nth k e = ap (λ (ns : List ℕ). get_or ns k 0) e

pub told_whole : (a : IndexAnswer) (n : ℕ) → Apart a → index_numbers a ≡ says_whole n → a ≡ Ok n
unfolding index_numbers
told_whole (Ok m) n h e = ap Ok (nth 4 e)
told_whole (Err (Unread r)) n h e = absurd (omega (arith, nth 1 e))
told_whole (Err (Barred m)) n h e = absurd (omega (arith, nth 0 e))

pub told_barred : (a : IndexAnswer) (n : ℕ) → Apart a → index_numbers a ≡ says_barred n → a ≡ Err (Barred n)
unfolding index_numbers
told_barred (Ok m) n h e = absurd (omega (arith, nth 4 e))
told_barred (Err (Unread r)) n h e = absurd (omega (arith, nth 1 e))
told_barred (Err (Barred m)) n h e = ap (λ x. Err (Barred x)) (nth 0 e)

one_refusal : (q r : Refusal) → says_unread q ≡ says_unread r → q ≡ r
one_refusal q r e = λ i. record { number = nth 0 e i; file = nth 1 e i; line = nth 2 e i; column = nth 3 e i }

pub told_unread : (a : IndexAnswer) (r : Refusal) → r.number < 40 → Apart a → index_numbers a ≡ says_unread r → a ≡ Err (Unread r)
unfolding index_numbers
told_unread (Ok m) r low h e = absurd (omega (arith, nth 4 e))
told_unread (Err (Unread q)) r low h e = ap (λ x. Err (Unread x)) (one_refusal q r e)
told_unread (Err (Barred m)) r low h e = absurd (omega (arith, nth 0 e))

-- ---- the reader's answer is such a one, and the writer's

-- each claim is of file f
abbrev pub Of : ℕ → List Claim → Type 0
Of f cs = (at : ℕ) → at < length cs → (get_or cs at no_claim).file ≡ f

module _ (f : ℕ) (cs : List Claim) (of : Of f cs) where
  apart_unread : indexed f ≡ true → (r : Refusal) → speaks cs ≡ Err r → 1 ≤ r.file
  unfolding indexed
  apart_unread e r v =
      let b = (spoken_first cs r).0 v in
      let k : r.file ≡ f = subst (λ (q : Refusal). q.file ≡ f) b.spoken (of b.at b.inside) in
      omega (arith, k, ltb-true 0 f (and_both (ltb 0 f) (ltb f 5) e).0)

  pub apart_asked : (a : IndexAnswer) → Apart a → Apart (asked_of f (speaks cs) a)
  unfolding asked_of
  apart_asked a h = go (indexed f) refl (speaks cs) refl
    where
      go : (t : Bool) → indexed f ≡ t → (v : Result Unit Refusal) → speaks cs ≡ v → Apart (cond t (if_read v a) (Err (Barred 42)))
      go false p v q = omega arith
      go true p (Ok tt) q = h
      go true p (Err r) q = apart_unread p r q

of_lone : (f : ℕ) (s : List ℕ) → Of f (lone_claims f s)
unfolding lone_claims
of_lone f s zero h = refl
of_lone f s (suc zero) h = refl
of_lone f s (suc (suc zero)) h = refl
of_lone f s (suc (suc (suc k))) h = ((in_file_lem f (lines_of s) _).0 (get_d_mem (in_file f (lines_of s)) k no_claim (omega arith))).file

-- tests with numbers from 40 on speak with such a number
pub spoken_from : (ts : List Test) → T (all (λ t. leb 40 t.number) ts) → (spoken ts ≡ 0 → ⊥) → 40 ≤ spoken ts
unfolding spoken
spoken_from [] t some = absurd (some refl)
spoken_from (u ∷ ts) t some = go u.broken (leb-true 40 u.number (is_true (leb 40 u.number) (and_left (leb 40 u.number) (all (λ t. leb 40 t.number) ts) t))) (spoken_from ts (and_right (leb 40 u.number) (all (λ t. leb 40 t.number) ts) t)) some
  where
    go : (b : Bool) → 40 ≤ u.number → ((spoken ts ≡ 0 → ⊥) → 40 ≤ spoken ts) → (cond b u.number (spoken ts) ≡ 0 → ⊥) → 40 ≤ cond b u.number (spoken ts)
    go true p q some = p
    go false p q some = q some

pub apart_barred : (k size : ℕ) → ((k ≡ 0 → ⊥) → 40 ≤ k) → (k ≡ 0 → 1 ≤ size) → Apart (barred_or k size)
unfolding barred_or
apart_barred k size h w = go (eqb k 0) refl
  where
    go : (t : Bool) → eqb k 0 ≡ t → Apart (cond t (Ok size) (Err (Barred k)))
    go true e = w (eqb-true k 0 e)
    go false e = h (eqb-false k 0 e)

pub apart_checked : (f : ℕ) (s b : List ℕ) → Apart (checked f s b)
unfolding checked lone_verdict index_tests
apart_checked f s b =
    apart_asked f (lone_claims f s) (of_lone f s) _ (apart_barred (spoken (index_tests (version_of (length (ids_of f s))) f (ids_of f s) b)) (length b) (spoken_from (index_tests (version_of (length (ids_of f s))) f (ids_of f s) b) tt)
    (λ e. omega (arith, ((sound (version_of (length (ids_of f s))) f (ids_of f s) b (known_of (length (ids_of f s)))).0 e).long)))

pub apart_wrote : (f : ℕ) (s : List ℕ) (room : ℕ) → Apart (wrote f s room)
unfolding wrote lone_verdict writer_tests index_length
apart_wrote f s room =
    apart_asked f (lone_claims f s) (of_lone f s) _ (apart_barred (spoken (writer_tests (version_of (length (ids_of f s))) (ids_of f s) room)) _ (spoken_from (writer_tests (version_of (length (ids_of f s))) (ids_of f s) room) tt) (λ e. omega arith))
