-- The writer's answers, case by case, and what they leave in the buffer.
use Rattle.std.specs.Prelude.{Ok, Err}
use mathlib.Core.Path.{◌≡◌, refl, sym, ap, ◌∙◌}
use mathlib.Core.Bool.{true, false}
use mathlib.Core.List.{List}
use Prim.Native.Nat.{ℕ, ◌≤◌, ◌<◌}
use lib.ListN.{length}
use borrow.Author.Tests.{lt-ltb, le-ltb}
use Rattle.meaning.specs.declared.Refusal.{Refusal}
use Rattle.indexes.specs.Answer.{IndexAnswer}
use Rattle.indexes.specs.declared.IndexRefusal.TheVariants.{Unread, Barred}
use Rattle.indexes.specs.Order.{ids_of, ranked, repeats}
use Rattle.indexes.specs.declared.version.Version.{Version}
use Rattle.indexes.specs.Index.{version_of, index_of, index_length, writer_tests, spoken, lone_verdict, barred_or, left_by, wrote, written}
use Rattle.meaning.proofs.FirstBroken.{said_readable}
use Rattle.indexes.specs.Promises.{Reads}
use Rattle.indexes.proofs.Beside.{asked_read, asked_refused, asked_outside, asked_range, asked_not}

-- ---- 45, 46, or an index

module _ (ids : List (List ℕ)) (room : ℕ) where
  abbrev Answers : IndexAnswer → Type 0
  Answers a = a ≡ barred_or (spoken (writer_tests (version_of (length ids)) ids room)) (index_length (version_of (length ids)) (length ids))

  pub repeated : repeats ids ≡ true → Answers (Err (Barred 45))
  unfolding barred_or spoken writer_tests
  repeated e = rw e

  module _ (apart : repeats ids ≡ false) (n : ℕ) (count : length ids ≡ n) (v : Version) (is : v ≡ version_of n) where
    pub short : room < index_length v n → Answers (Err (Barred 46))
    unfolding barred_or spoken writer_tests
    short h = rw (apart, count, ← is, lt-ltb room (index_length v n) h)

    pub roomy : index_length v n ≤ room → Answers (Ok (index_length v n))
    unfolding barred_or spoken writer_tests
    roomy h = rw (apart, count, ← is, le-ltb room (index_length v n) h)

-- what is laid by the version for n records
pub laid_for : (f : ℕ) (s : List ℕ) (n : ℕ) → length (ids_of f s) ≡ n → (v : Version) → v ≡ version_of n → (a : IndexAnswer) (lent b : List ℕ)
    → b ≡ left_by a (index_of v f (ranked (ids_of f s))) lent → b ≡ left_by a (index_of (version_of (length (ids_of f s))) f (ranked (ids_of f s))) lent
laid_for f s n count v is a lent b e = let q : version_of (length (ids_of f s)) ≡ v = ap version_of count ∙ sym is in rw q e

-- ---- the writer

module _ (f : ℕ) (s lent : List ℕ) where
  abbrev Wrote : IndexAnswer → List ℕ → Type 0
  Wrote a b = (a ≡ wrote f s (length lent)) × (b ≡ written f s lent)

  wrote_as : (a : IndexAnswer) (b : List ℕ) → wrote f s (length lent) ≡ a → b ≡ left_by a (index_of (version_of (length (ids_of f s))) f (ranked (ids_of f s))) lent → Wrote a b
  unfolding written
  wrote_as a b e q = (sym e, q ∙ rw (sym e))

  pub wrote_outside : ((1 ≤ f) × (f ≤ 4) → ⊥) → Wrote (Err (Barred 42)) lent
  unfolding wrote
  wrote_outside h = wrote_as (Err (Barred 42)) lent (asked_outside f s (asked_not f s h) _) refl

  module _ (asked : (1 ≤ f) × (f ≤ 4)) where
    pub reads_it : lone_verdict f s ≡ Ok tt → Reads f s
    reads_it e = record { asked = (asked_range f s).1 asked; verdict = (said_readable (lone_verdict f s)).1 e }

    pub wrote_unread : (r : Refusal) → lone_verdict f s ≡ Err r → Wrote (Err (Unread r)) lent
    unfolding wrote
    wrote_unread r e = wrote_as (Err (Unread r)) lent (asked_refused f s ((asked_range f s).1 asked) r e _) refl

    pub wrote_read : lone_verdict f s ≡ Ok tt → (a : IndexAnswer) (b : List ℕ)
        → a ≡ barred_or (spoken (writer_tests (version_of (length (ids_of f s))) (ids_of f s) (length lent))) (index_length (version_of (length (ids_of f s))) (length (ids_of f s)))
        → b ≡ left_by a (index_of (version_of (length (ids_of f s))) f (ranked (ids_of f s))) lent
        → Wrote a b
    unfolding wrote
    wrote_read e a b p q = wrote_as a b (asked_read f s (reads_it e) _ ∙ sym p) q
