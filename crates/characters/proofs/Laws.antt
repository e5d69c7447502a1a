-- Laws of a walk along a line: the classes, the states and their table, runs of ASCII, a turn.
use Prim.Native.Nat.{ℕ, suc, ◌+◌, ◌-◌, ◌≤◌, ◌<◌}
use native.Mathlib.Numerals.{add-one}
use native.Mathlib.Omega.{arith}
use mathlib.Core.Path.{◌≡◌, refl, sym, ap, ◌∙◌}
use mathlib.Core.Bool.{Bool, true, false, cond, not, ◌&&◌}
use mathlib.Core.List.{List, [], ◌∷◌, ◌++◌}
use lib.Dec.{leb, ltb, eqb}
use Rattle.std.specs.List.{fold}
use lib.ListN.{length, get_or, take, drop, take-append-drop}
use lib.Seq.{drop-drop}
use borrow.Author.Tests.{leb-true, leb-false, eqb-true, ltb-true, ltb-false, lt-ltb, le-ltb, le-leb, lt-leb, ne_eqb}
use Rattle.meaning.specs.Characters.{Range, ◌to◌, sequences, within, begun, awaited, awaited_after, well_formed}
use Rattle.meaning.specs.Refusals.{rule5, rule14}
use Rattle.meaning.proofs.Computed.{is_true, all_below, below_all}
use Rattle.meaning.proofs.ListLaws.{both, and_both}
use Rattle.meaning.proofs.Characters.{within_yes}
use Rattle.text.specs.Lines.{to_first}
use Rattle.text.proofs.Laws.{drop_next, drop_over}
use Rattle.characters.specs.States.{states, awaits, class_starts, count_to, class_of, class_letters, next_states, to_high, plain}

-- ---- classes

-- is the letter of the byte from 80 on with index i that of its class, one of fourteen
lettered : ℕ → Bool
lettered i = let n = get_or class_letters i 0 - 97 in leb 97 (get_or class_letters i 0) && (eqb n (class_of (i + 128)) && ltb n 14)

all_lettered : (i : ℕ) → i < 128 → lettered i ≡ true
unfolding lettered class_letters class_of count_to class_starts
all_lettered i h = is_true (lettered i) (below_all 128 lettered tt i h)

pub record Lettered (b : ℕ) : Type 0 where
  pub low : 97 ≤ get_or class_letters (b - 128) 0
  pub is : get_or class_letters (b - 128) 0 - 97 ≡ class_of b
  pub small : get_or class_letters (b - 128) 0 - 97 < 14

pub letter_is : (b : ℕ) → 128 ≤ b → b < 256 → Lettered b
unfolding lettered
letter_is b low high =
    let n = get_or class_letters (b - 128) 0 in
    let e : b - 128 + 128 ≡ b = omega arith in
    let p = and_both (leb 97 n) (eqb (n - 97) (class_of (b - 128 + 128)) && ltb (n - 97) 14) (all_lettered (b - 128) (omega arith)) in
    let q = and_both (eqb (n - 97) (class_of (b - 128 + 128))) (ltb (n - 97) 14) p.1 in
    record { low = leb-true 97 n p.0; is = rw e at (eqb-true (n - 97) (class_of (b - 128 + 128)) q.0); small = ltb-true (n - 97) 14 q.1 }

-- ASCII is the first class
pub ascii_class : (b : ℕ) → b < 128 → (0 ≡ class_of b) × (0 < 14)
unfolding class_of count_to class_starts
ascii_class b h = (sym (eqb-true (class_of b) 0 (is_true (eqb (class_of b) 0) (below_all 128 (λ k. eqb (class_of k) 0) tt b h))), omega arith)

-- ---- the table

abbrev same_range : Range → Range → Bool
same_range g h = eqb g.first h.first && eqb g.last h.last

abbrev same_ranges : List Range → List Range → Bool
same_ranges [] [] = true
same_ranges [] (h ∷ w) = false
same_ranges (g ∷ v) [] = false
same_ranges (g ∷ v) (h ∷ w) = same_range g h && same_ranges v w

same_ranges_lem : (v w : List Range) → same_ranges v w ≡ true → v ≡ w
same_ranges_lem [] [] e = refl
same_ranges_lem [] (h ∷ w) e = both false e refl
same_ranges_lem (g ∷ v) [] e = both false e refl
same_ranges_lem (g ∷ v) (h ∷ w) e =
    let p = and_both (same_range g h) (same_ranges v w) e in
    let q = and_both (eqb g.first h.first) (eqb g.last h.last) p.0 in
    let a = eqb-true g.first h.first q.0 in
    let z = eqb-true g.last h.last q.1 in
    λ i. (a i to z i) ∷ same_ranges_lem v w p.1 i

-- the state after state q by a byte of class k
abbrev after : ℕ → ℕ → ℕ
after q k = get_or (get_or next_states q []) k 0

-- does a byte lead to the state that awaits what it leaves
leads : ℕ → ℕ → Bool
leads q b = ltb (after q (class_of b)) 9 && same_ranges (awaits (after q (class_of b))) (awaited (awaits q) b)

-- every byte does, from every state
all_lead : (q b : ℕ) → q < 9 → b < 256 → leads q b ≡ true
unfolding leads next_states class_of count_to class_starts awaits states awaited begun sequences within
all_lead q b h i = is_true (leads q b) (below_all 256 (leads q) (below_all 9 (λ p. all_below 256 (leads p)) tt q h) b i)

pub next_at : (q b k : ℕ) → q < 9 → b < 256 → k ≡ class_of b → (awaits (after q k) ≡ awaited (awaits q) b) × (after q k < 9)
unfolding leads
next_at q b k h i e =
    let p = and_both (ltb (after q (class_of b)) 9) (same_ranges (awaits (after q (class_of b))) (awaited (awaits q) b)) (all_lead q b h i) in
    rw e (same_ranges_lem _ _ p.1, ltb-true _ 9 p.0)

-- ---- runs of ASCII

ascii_awaited : (b : ℕ) → b < 0x80 → awaited [] b ≡ []
unfolding awaited begun sequences
ascii_awaited b h = rw (within_yes (0x00 to 0x7F) b (omega arith) (omega arith))

ascii_passed : (s : List ℕ) → awaited_after [] s ≡ awaited_after [] (drop (to_high s) s)
unfolding awaited_after to_first
ascii_passed [] = refl
ascii_passed (b ∷ r) = go (leb 0x80 b) refl (ascii_passed r)
  where
    go : (t : Bool) → leb 0x80 b ≡ t → awaited_after [] r ≡ awaited_after [] (drop (to_high r) r) → awaited_after (awaited [] b) r ≡ awaited_after [] (drop (cond t 0 (to_high r + 1)) (b ∷ r))
    go true e ih = refl
    go false e ih = rw (ascii_awaited b (leb-false 0x80 b e), add-one) ih

-- ---- a turn along a line, and its end

-- the first state awaits nothing, every other something
alone : ℕ → Bool
alone q = cond (eqb q 0) (eqb (length (awaits q)) 0) (not (eqb (length (awaits q)) 0))

module _ (l : List ℕ) (w : List Range) where
  -- w is awaited at the line's end, from state q at byte i on
  abbrev pub Awaiting : ℕ → ℕ → Type 0
  Awaiting q i = awaited_after (awaits q) (drop i l) ≡ w

  -- a run of ASCII from byte i on, up to byte e
  pub passed : (q i e : ℕ) → q ≡ 0 → e ≡ i + to_high (drop i l) → Awaiting q i → Awaiting q e
  unfolding awaits states
  passed q i e z h inv = rw z (rw (h, ← drop-drop (to_high (drop i l)) i l) (sym (ascii_passed (drop i l)) ∙ rw z at inv))

  pub turned : (q p i : ℕ) → i < length l → awaits p ≡ awaited (awaits q) (get_or l i 0) → Awaiting q i → Awaiting p (i + 1)
  unfolding awaited_after
  turned q p i more e inv = rw e (rw (drop_next l i more) at inv)

  pub ended : (q i : ℕ) → q < 9 → length l ≤ i → Awaiting q i → not (eqb q 0) ≡ not (eqb (length w) 0)
  unfolding awaited_after awaits states alone
  ended q i h over inv =
      let e : awaits q ≡ w = rw (drop_over l i over) at inv in
      rw (← e) (go (eqb q 0) (eqb (length (awaits q)) 0) (is_true (alone q) (below_all 9 alone tt q h)))
    where
      go : (t u : Bool) → cond t u (not u) ≡ true → not t ≡ not u
      go true true z = refl
      go true false z = z
      go false true z = sym z
      go false false z = refl

pub started : (s : List ℕ) → awaited_after (awaits 0) s ≡ awaited_after [] s
unfolding awaits states
started s = refl

-- a line is told from its first byte on that is no ASCII
module _ (l : List ℕ) (at : ℕ) (stands : at ≡ 0 + to_high (drop 0 l)) where
  pub told_from : not (eqb (length (awaited_after [] (drop at l))) 0) ≡ rule14 l
  unfolding rule14 well_formed
  told_from =
      let e : awaited_after [] (drop at l) ≡ awaited_after [] l = sym (started (drop at l)) ∙ passed l (awaited_after [] l) 0 0 at refl stands (started l) in
      rw e

  pub all_ascii : length l ≤ at → false ≡ rule14 l
  unfolding awaited_after
  all_ascii over = rw (drop_over l at over) at told_from

-- one walk tells whether all bytes are plain
pub plain_one : (b : ℕ) → (leb 0x20 b && ltb b 0x80) ≡ plain (b ∷ [])
unfolding plain
plain_one b = go (ltb b 0x20) refl (leb 0x80 b) refl
  where
    go : (t : Bool) → ltb b 0x20 ≡ t → (u : Bool) → leb 0x80 b ≡ u → (leb 0x20 b && ltb b 0x80) ≡ cond t false (cond u false true)
    go true t u q = rw (lt-leb 0x20 b (ltb-true b 0x20 t))
    go false t true q = rw (le-leb 0x20 b (ltb-false b 0x20 t), le-ltb b 0x80 (leb-true 0x80 b q))
    go false t false q = rw (le-leb 0x20 b (ltb-false b 0x20 t), lt-ltb b 0x80 (leb-false 0x80 b q))

plain_cons : (b : ℕ) (r : List ℕ) → plain (b ∷ r) ≡ (plain (b ∷ []) && plain r)
unfolding plain
plain_cons b r = go (ltb b 0x20) (leb 0x80 b)
  where
    go : (t u : Bool) → cond t false (cond u false (plain r)) ≡ (cond t false (cond u false true) && plain r)
    go true u = refl
    go false true = refl
    go false false = refl

pub plain_folded : (t : Bool) (s : List ℕ) → fold (λ a b. a && (leb 0x20 b && ltb b 0x80)) t s ≡ (t && plain s)
unfolding plain
plain_folded true [] = refl
plain_folded false [] = refl
plain_folded t (b ∷ r) = plain_folded (t && (leb 0x20 b && ltb b 0x80)) r ∙ rw (plain_cons b r, ← plain_one b) (go t (leb 0x20 b && ltb b 0x80))
  where
    go : (t u : Bool) → ((t && u) && plain r) ≡ (t && (u && plain r))
    go true u = refl
    go false u = refl

-- the same of two parts
plain_append : (a b : List ℕ) → plain (a ++ b) ≡ (plain a && plain b)
unfolding plain
plain_append [] b = refl
plain_append (x ∷ a) b = go (ltb x 0x20) (leb 0x80 x) (plain_append a b)
  where
    go : (t u : Bool) → plain (a ++ b) ≡ (plain a && plain b) → cond t false (cond u false (plain (a ++ b))) ≡ (cond t false (cond u false (plain a)) && plain b)
    go true u e = refl
    go false true e = refl
    go false false e = e

-- a turn along the blocks, from i to j, by what its own tells
module _ (s : List ℕ) (i j : ℕ) (ordered : i ≤ j) (t k : Bool) (told : t ≡ plain (take (j - i) (drop i s))) (inv : plain (drop i s) ≡ k) where
  plain_parts : (t && plain (drop j s)) ≡ k
  plain_parts =
      let r = drop i s in
      let d : i + (j - i) ≡ j = omega arith in
      let y : plain (drop (j - i) r) ≡ plain (drop j s) = rw (drop-drop (j - i) i s, d) in
      let z : plain r ≡ (plain (take (j - i) r) && plain (drop (j - i) r)) =
      ap plain (sym (take-append-drop (j - i) r)) ∙ plain_append (take (j - i) r) (drop (j - i) r) in
      rw (told, ← y) (sym z ∙ inv)

  pub plain_within : not t ≡ true → false ≡ k
  plain_within e = go t e plain_parts
    where
      go : (t : Bool) → not t ≡ true → (t && plain (drop j s)) ≡ k → false ≡ k
      go true e p = both false e refl
      go false e p = p

  pub plain_past : not t ≡ false → plain (drop j s) ≡ k
  plain_past e = go t e plain_parts
    where
      go : (t : Bool) → not t ≡ false → (t && plain (drop j s)) ≡ k → plain (drop j s) ≡ k
      go true e p = p
      go false e p = both true refl e

  pub plain_last : length s ≤ j → t ≡ k
  unfolding plain
  plain_last over = go t (rw (drop_over s j over) at plain_parts)
    where
      go : (t : Bool) → (t && true) ≡ k → t ≡ k
      go true e = e
      go false e = e

-- a plain line has no stray byte, and is ASCII
plain_is : (l : List ℕ) → plain l ≡ true → (rule5 l ≡ false) × (to_high l ≡ length l)
unfolding plain rule5 to_first
plain_is [] p = (refl, refl)
plain_is (b ∷ r) p = go (ltb b 0x20) refl (leb 0x80 b) refl p (plain_is r)
  where
    go : (t : Bool) → ltb b 0x20 ≡ t → (u : Bool) → leb 0x80 b ≡ u → cond t false (cond u false (plain r)) ≡ true
        → (plain r ≡ true → (rule5 r ≡ false) × (to_high r ≡ length r)) → (rule5 (b ∷ r) ≡ false) × (to_high (b ∷ r) ≡ suc (length r))
    go true e u d q ih = both false q refl
    go false e true d q ih = both false q refl
    go false e false d q ih =
        let h : 0x20 ≤ b = ltb-false b 0x20 e in
        let x = ih q in
        rw (ne_eqb b 9 (λ z. omega arith), ne_eqb b 13 (λ z. omega arith), d) (x.0, omega (arith, x.1))

pub plain_stray : (l : List ℕ) → plain l ≡ true → rule5 l ≡ false
plain_stray l p = (plain_is l p).0

pub plain_formed : (l : List ℕ) → plain l ≡ true → rule14 l ≡ false
plain_formed l p = sym (all_ascii l (0 + to_high (drop 0 l)) refl (omega (arith, (plain_is l p).1)))
