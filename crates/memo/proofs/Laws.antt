-- A memo: what is known stays known, and a hit is the first record.
use mathlib.Core.Path.{◌≡◌, refl, sym, ◌∙◌}
use mathlib.Core.Bool.{Bool, true, false}
use mathlib.Core.List.{List}
use Prim.Native.Nat.{ℕ, ◌+◌, ◌*◌, ◌≤◌, ◌<◌}
use native.Mathlib.Omega.{arith}
use lib.IntN.{ℤ}
use lib.ListN.{length, get_or, set}
use lib.Seq.{get_or-set_same, get_or-set_other, set_out}
use lib.Dec.{leb}
use borrow.Author.Tests.{leb-true, leb-false}
use Rattle.meaning.specs.Lists.{same}
use Rattle.meaning.specs.Bytes.{part, value}
use Rattle.meaning.proofs.ListLaws.{same_equal}
use Rattle.rows.specs.Cells.{bounds_at}
use Rattle.ordering.specs.Ids.{id_of, Placed, Arranged}
use Rattle.ordering.proofs.Laws.{Alike, yes, no, alike}
use Rattle.seeking.specs.First.{First, id_is}
use Rattle.seeking.proofs.Laws.{id_is_lem}
use Rattle.memo.specs.Memo.{FirstOfOwn, Known, Ready}

-- a memo of zeros knows nothing
pub known_blank : (s : List ℕ) (t : List ℤ) (w n : ℕ) (m : List ℕ) → ((k : ℕ) → get_or m k 0 ≡ 0) → Known s t w n m
unfolding Known FirstOfOwn
known_blank s t w n m z k h = absurd (omega (arith, z k))

pub ready_blank : (s : List ℕ) (t : List ℤ) (w n : ℕ) (m : List ℕ) → Placed s t w n → Arranged s w n t → ((k : ℕ) → get_or m k 0 ≡ 0) → Ready s t w n m
ready_blank s t w n m p a z = record { placed = p; arranged = a; known = known_blank s t w n m z }

module _ (s : List ℕ) (t : List ℤ) (w n : ℕ) where
  -- one entry more
  pub known_set : (m : List ℕ) (h q : ℕ) → Known s t w n m → FirstOfOwn s t w n q → Known s t w n (set m h q)
  unfolding Known
  known_set m h q known own k = go (alike k h) (leb (length m) h) refl
    where
      go : Alike k h → (b : Bool) → leb (length m) h ≡ b → FirstOfOwn s t w n (get_or (set m h q) k 0)
      go a true e = rw (set_out m h q (leb-true (length m) h e)) (known k)
      go (yes p) false e = rw (p, get_or-set_same m h q 0 (leb-false (length m) h e)) own
      go (no p) false e = rw (get_or-set_other m h k q 0 p) (known k)

  pub ready_set : (m m' : List ℕ) (h q : ℕ) → Ready s t w n m → FirstOfOwn s t w n q → m' ≡ set m h q → Ready s t w n m'
  ready_set m m' h q r own e = record { placed = r.placed; arranged = r.arranged; known = rw e (known_set m h q r.known own) }

  -- what the search finds is the first of its own id
  pub found_own : (v : List ℕ) (q : ℕ) → Placed s t w n → First (id_is s t w v) (n + 1) q → q ≤ n → FirstOfOwn s t w n q
  unfolding FirstOfOwn
  found_own v q placed f l h =
      let e : id_of s t w q ≡ v = same_equal (id_of s t w q) v (sym (id_is_lem s t w n v placed q h l) ∙ (f.found h).1) in
      (rw e f, l)

  -- a hit
  pub hit_first : (m : List ℕ) (v : List ℕ) (k r : ℕ) → Known s t w n m → r ≡ get_or m k 0 → (0 < r) × (same (id_of s t w r) v ≡ true)
      → First (id_is s t w v) (n + 1) r × (r ≤ n)
  unfolding Known FirstOfOwn
  hit_first m v k r known e (h, p) =
      let i : id_of s t w r ≡ v = same_equal (id_of s t w r) v p in
      let f : First (id_is s t w (id_of s t w r)) (n + 1) r × (r ≤ n) = rw (← e) at (known k) h in
      rw i at f

pub hit_is : (s : List ℕ) (t : List ℤ) (w r : ℕ) (a v : List ℕ) (b : Bool) → (r ≡ 0 → ⊥) → a ≡ part s (bounds_at t (r * w)) → b ≡ same (value a) v
    → b ≡ true → (0 < r) × (same (id_of s t w r) v ≡ true)
unfolding id_of
hit_is s t w r a v b n p q e = (omega (arith, n), rw (← p) (sym q ∙ e))
