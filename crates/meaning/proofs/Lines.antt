-- Laws about claims on lines: what stands among them, and that they rise by file, line and the turn of their rule.
use Prim.Native.Nat.{ℕ, ◌+◌, ◌-◌, ◌≤◌, ◌<◌}
use native.Mathlib.Omega.{arith}
use mathlib.Core.Path.{◌≡◌, refl, sym, ap}
use mathlib.Core.Logic.{◌↔◌, ⊎_elim}
use mathlib.Core.Bool.{Bool, true, ◌&&◌}
use mathlib.Core.List.Memᴰ
use mathlib.Core.List.{List, [], ◌∷◌, Memᴰ}
use lib.ListN.{length, get_or}
use lib.Dec.{ltb}
use borrow.Author.Tests.{ltb-true, lt-ltb}
use Rattle.meaning.specs.Refusals.{Test, Claim, claim_of, on_line}
use Rattle.meaning.specs.Promises.{Ordered, Each, sooner2, sooner3, test_of}
use Rattle.meaning.proofs.ListLaws.{and_both}
use Rattle.meaning.proofs.Laws.{sooner_less, sooner_same, each_cons, along, Along, along_in, along_of, along_ordered}

-- a claim that line n of file f makes by its tests
pub record OnLine (f n : ℕ) (ts : List Test) (p : Claim) : Type 0 where
  pub file : p.file ≡ f
  pub line : p.line ≡ n
  pub rule : Memᴰ (test_of p) ts

module _ (f n : ℕ) where
  pub line_in : (ts : List Test) (p : Claim) → Memᴰ p (on_line f n ts) → OnLine f n ts p
  unfolding on_line
  line_in [] p m = absurd (Memᴰ.not-nil m)
  line_in (t ∷ r) p m = ⊎_elim first (λ k. rest (line_in r p k)) (Memᴰ.cases_cons m)
    where
      first : p ≡ claim_of f n t → OnLine f n (t ∷ r) p
      first e = record { file = ap (λ (q : Claim). q.file) e; line = ap (λ (q : Claim). q.line) e; rule = Memᴰ.head (ap test_of e) }

      rest : OnLine f n r p → OnLine f n (t ∷ r) p
      rest k = record { file = k.file; line = k.line; rule = Memᴰ.tail k.rule }

  pub line_of : (ts : List Test) (p : Claim) → OnLine f n ts p → Memᴰ p (on_line f n ts)
  unfolding on_line
  line_of [] p k = absurd (Memᴰ.not-nil k.rule)
  line_of (t ∷ r) p k =
      ⊎_elim
      (λ (e : test_of p ≡ t). Memᴰ.head (λ i. claim_of (k.file i) (k.line i) (e i)))
      (λ (m : Memᴰ (test_of p) r). Memᴰ.tail (line_of r p (record { file = k.file; line = k.line; rule = m })))
      (Memᴰ.cases_cons k.rule)

-- tests have turns by their numbers: binding rules the number itself, the rules of a line an order of their own
module _ (turn : ℕ → ℕ) where
  -- turns of tests that rise strictly, above a and below z
  unfoldable pub rising : ℕ → ℕ → List Test → Bool
  rising a z [] = true
  rising a z (t ∷ r) = ltb a (turn t.number) && (ltb (turn t.number) z && rising (turn t.number) z r)

  -- a test whose turn lies above a and below z
  abbrev pub Within : ℕ → ℕ → Test → Type 0
  Within a z t = (a < turn t.number) × (turn t.number < z)

  pub rising_within : (a z : ℕ) (ts : List Test) → rising a z ts ≡ true → Each (Within a z) ts
  unfolding rising
  rising_within a z [] h = λ t m. absurd (Memᴰ.not-nil m)
  rising_within a z (t ∷ r) h =
      let k = turn t.number in
      let p = and_both (ltb a k) (ltb k z && rising k z r) h in
      let q = and_both (ltb k z) (rising k z r) p.1 in
      let low : a < k = ltb-true a k p.0 in
      let high : k < z = ltb-true k z q.0 in
      each_cons (Within a z) t r (low, high) (λ u m. let j = rising_within k z r q.1 u m in (omega arith, j.1))

  -- claims in the order of file, line, turn
  unfoldable pub rank : Claim → Claim → Bool
  rank p q = sooner3 p.file p.line (turn p.number) q.file q.line (turn q.number)

  module _ (p q : Claim) where
    pub rank_file : p.file < q.file → rank p q ≡ true
    unfolding rank
    rank_file h = sooner_less p.file q.file (sooner2 p.line (turn p.number) q.line (turn q.number)) h

    pub rank_line : p.file ≡ q.file → p.line < q.line → rank p q ≡ true
    unfolding rank
    rank_line e h =
        sooner_same
        p.file
        q.file
        (sooner2 p.line (turn p.number) q.line (turn q.number))
        e
        (sooner_less p.line q.line (ltb (turn p.number) (turn q.number)) h)

    pub rank_turn : p.file ≡ q.file → p.line ≡ q.line → turn p.number < turn q.number → rank p q ≡ true
    unfolding rank
    rank_turn e d h =
        sooner_same
        p.file
        q.file
        (sooner2 p.line (turn p.number) q.line (turn q.number))
        e
        (sooner_same p.line q.line (ltb (turn p.number) (turn q.number)) d (lt-ltb (turn p.number) (turn q.number) h))

  pub line_ordered : (f n a z : ℕ) (ts : List Test) → rising a z ts ≡ true → Ordered rank (on_line f n ts)
  unfolding on_line rising
  line_ordered f n a z [] h = tt
  line_ordered f n a z (t ∷ r) h =
      let k = turn t.number in
      let p = and_both (ltb a k) (ltb k z && rising k z r) h in
      let q = and_both (ltb k z) (rising k z r) p.1 in
      (λ y m. first y (line_in f n r y m) q.1, line_ordered f n k z r q.1)
    where
      first : (y : Claim) → OnLine f n r y → rising (turn t.number) z r ≡ true → rank (claim_of f n t) y ≡ true
      first y k up = rank_turn (claim_of f n t) y (sym k.file) (sym k.line) (rising_within (turn t.number) z r up (test_of y) k.rule).0

-- a rule's turn where the lowest number speaks
abbrev pub by_number : ℕ → ℕ
by_number n = n

-- the claims of lines n, n + 1, .. of file f, by the tests of each
abbrev pub linewise : {B : Type 0} → ℕ → (ℕ → B → List Test) → ℕ → List B → List Claim
linewise f tests n bs = along (λ k b. on_line f k (tests k b)) n bs

-- a claim that one of those lines makes
pub record Linewise {B : Type 0} (d : B) (f : ℕ) (tests : ℕ → B → List Test) (n : ℕ) (bs : List B) (p : Claim) : Type 0 where
  pub file : p.file ≡ f
  pub from : n ≤ p.line
  pub to : p.line < n + length bs
  pub rule : Memᴰ (test_of p) (tests p.line (get_or bs (p.line - n) d))

module _ {B : Type 0} (d : B) (f : ℕ) (tests : ℕ → B → List Test) (n : ℕ) (bs : List B) where
  pub linewise_exactly : (p : Claim) → Memᴰ p (linewise f tests n bs) ↔ Linewise d f tests n bs p
  linewise_exactly p = (λ m. there (along_in d (λ k b. on_line f k (tests k b)) n bs p m), λ t. back t)
    where
      there : Along d (λ k b. on_line f k (tests k b)) n bs p → Linewise d f tests n bs p
      there t =
          let u = line_in f t.number (tests t.number (get_or bs (t.number - n) d)) p t.here in
          record { file = u.file; from = omega arith; to = omega arith; rule = rw u.line u.rule }

      back : Linewise d f tests n bs p → Memᴰ p (linewise f tests n bs)
      back t =
          let u = line_of f p.line (tests p.line (get_or bs (p.line - n) d)) p (record { file = t.file; line = refl; rule = t.rule }) in
          along_of d (λ k b. on_line f k (tests k b)) n bs p (record { number = p.line; from = t.from; to = t.to; here = u })

  pub linewise_ordered : (turn : ℕ → ℕ) (a z : ℕ) → ((k : ℕ) (b : B) → rising turn a z (tests k b) ≡ true) → Ordered (rank turn) (linewise f tests n bs)
  linewise_ordered turn a z up = along_ordered d (λ k b. on_line f k (tests k b)) (rank turn) (λ k b. line_ordered turn f k a z (tests k b) (up k b)) apart n bs
    where
      apart : (j k : ℕ) (b c : B) (x y : Claim) → j < k → Memᴰ x (on_line f j (tests j b)) → Memᴰ y (on_line f k (tests k c)) → rank turn x y ≡ true
      apart j k b c x y h m t =
          let u = line_in f j (tests j b) x m in
          let v = line_in f k (tests k c) y t in
          rank_line turn x y (cc) (omega arith)
