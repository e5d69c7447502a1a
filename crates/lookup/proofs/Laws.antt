-- The lookup's tests, one by one, and a turn of its halving.
use Rattle.std.specs.Prelude.{Ok, Err, IsErr}
use Rattle.std.specs.declared.cmp.Ordering.{Ordering}
use mathlib.Core.Path.{◌≡◌, refl, sym, ap, ◌∙◌}
use mathlib.Core.Bool.{Bool, true, false, not}
use mathlib.Core.Logic.{◌⊎◌, inl, inr}
use mathlib.Core.List.{List}
use Prim.Native.Nat.{ℕ, zero, suc, ◌+◌, ◌*◌, ◌-◌, ◌^◌, ◌≤◌, ◌<◌}
use native.Mathlib.Omega.{arith}
use lib.Dec.{leb, eqb, ltb}
use lib.IntN.{ℤ, pos, negsuc}
use lib.Signed.{mag, lt_z}
use lib.ListN.{length, get_or}
use borrow.Author.Tests.{ltb-true, lt-ltb, le-ltb, eq-eqb, ne_eqb}
use mir.Syntax.{w32}
use mir.Val.{SFits, to_z, of_z}
use mir.ValLaws.{to_z-of_z}
use Rattle.std.specs.declared.cmp.Ordering.TheVariants.{Less, Equal, Greater}
use Rattle.meaning.specs.Lists.{empty}
use Rattle.meaning.specs.Bytes.{good, fields, count_lf, marked, content, undouble, value}
use Rattle.meaning.proofs.ListLaws.{both}
use Rattle.text.specs.Fields.{up_to33}
use Rattle.text.proofs.Spans.{up_few, up_exact}
use Rattle.text.proofs.Values.{und_bare}
use Rattle.num.specs.Signs.{nat_of}
use Rattle.num.proofs.Laws.{kept}
use Rattle.ranking.specs.Ranks.{compare}
use Rattle.indexes.specs.declared.version.Version.{Version}
use Rattle.indexes.specs.Index.{number_at, version_of, version_named, index_length, entry, rule40, rule41}
use Rattle.lookups.specs.Lookup.{Standing, LookupAnswer, refused, named, own_count, miscounted, barred, outside, is_place, misplaced, not_one, number_in, raw_id, standing_of, standing_to, standing, middle, lastly, halve, standing_at, sought, lookup}

-- ---- an index that is refused

-- the version whose number was read
pub version_is : (b : List ℕ) (v : Version) (k : ℕ) → v ≡ version_named k → k ≡ number_at 2 b 3 → v ≡ named b
version_is b v k e h = e ∙ ap version_named h

module _ (b : List ℕ) where
  module _ (v : Version) (is : v ≡ named b) (n : ℕ) (count : n ≡ number_at v.width b 6) (own : Version) (for : own ≡ version_of n) (k : ℕ) (number : k ≡ number_at 2 b 3) where
    pub miscounted_version : (own.number ≡ k → ⊥) → true ≡ miscounted b
    unfolding miscounted own_count
    miscounted_version h = rw (← is, ← count, ← for, ← number, ne_eqb _ _ h)

    pub miscounted_length : own.number ≡ k → (z : ℕ) → z ≡ index_length v n → not (eqb (length b) z) ≡ miscounted b
    unfolding miscounted own_count
    miscounted_length h z e = rw (← is, ← count, ← for, ← number, eq-eqb _ _ h, e)

  pub barred_40 : rule40 b ≡ true → true ≡ barred b
  unfolding barred
  barred_40 h = rw h

  module _ (marked : rule40 b ≡ false) where
    pub barred_41 : rule41 b ≡ true → true ≡ barred b
    unfolding barred
    barred_41 h = rw (marked, h)

    module _ (known : rule41 b ≡ false) where
      pub barred_file : (get_or b 5 0 ≡ 1 → ⊥) → true ≡ barred b
      unfolding barred
      barred_file h = rw (marked, known, ne_eqb _ _ h)

      pub barred_else : get_or b 5 0 ≡ 1 → (r : Bool) → r ≡ miscounted b → r ≡ barred b
      unfolding barred
      barred_else h r e = rw (marked, known, eq-eqb _ _ h) e

-- ---- a record that is probed

pub within_below : (n : ℕ) (z : ℤ) → lt_z z (pos 0) ≡ true → false ≡ is_place n z
within_below n (pos k) e = absurd (omega (arith, ltb-true k 0 e))
within_below n (negsuc k) e = refl

pub within_at : (n : ℕ) (z : ℤ) (m : ℕ) → lt_z z (pos 0) ≡ false → m ≡ nat_of z → leb m n ≡ is_place n z
within_at n (pos k) m e h = rw h
within_at n (negsuc k) m e h = both true refl e

-- a signed number that a call hands on
pub handed : (z : ℤ) → SFits w32 z → to_z w32 (of_z w32 z) ≡ z
handed z f = to_z-of_z w32 z f

-- places are compared as the numbers that they are
forward : (n : ℕ) (a e : ℤ) → is_place n a ≡ true → is_place n e ≡ true → lt_z e a ≡ ltb (nat_of e) (nat_of a)
forward n (pos x) (pos y) h g = refl
forward n (pos x) (negsuc y) h g = both false g refl
forward n (negsuc x) e h g = both false h refl

module _ (n : ℕ) (a e : ℤ) where
  pub misplaced_start : is_place n a ≡ false → true ≡ misplaced n a e
  unfolding misplaced
  misplaced_start h = rw h

  pub misplaced_end : is_place n a ≡ true → is_place n e ≡ false → true ≡ misplaced n a e
  unfolding misplaced
  misplaced_end h g = rw (h, g)

  pub misplaced_back : is_place n a ≡ true → is_place n e ≡ true → lt_z e a ≡ misplaced n a e
  unfolding misplaced
  misplaced_back h g = rw (h, g, forward n a e h g)

module _ (raw : List ℕ) where
  pub one_bad : good raw ≡ false → true ≡ not_one raw
  unfolding not_one
  one_bad h = rw h

  -- the fields that a walk has counted, which stops at the thirty-third
  module _ (h : good raw ≡ true) (k : ℕ) (counted : k ≡ up_to33 (length (fields raw))) where
    pub one_many : (k ≡ 1 → ⊥) → true ≡ not_one raw
    unfolding not_one
    one_many g = rw (h, ne_eqb (length (fields raw)) 1 (λ z. g (counted ∙ ap up_to33 z ∙ up_few 1 (omega arith))))

    pub one_line : k ≡ 1 → (x : ℕ) → x ≡ count_lf raw → not (eqb x 0) ≡ not_one raw
    unfolding not_one
    one_line g x e = rw (h, eq-eqb (length (fields raw)) 1 (sym (up_exact _ k counted (omega arith)) ∙ g), e)

module _ (code raw : List ℕ) where
  pub stands_unsound : not_one raw ≡ true → refused ≡ standing_to code raw
  unfolding standing_to
  stands_unsound h = rw h

  pub stands_as : not_one raw ≡ false → (o : Ordering) (c : List ℕ) (m : Bool) → c ≡ content raw → m ≡ marked raw → o ≡ compare (undouble false code) (undouble m c) → standing_of o ≡ standing_to code raw
  unfolding standing_to value
  stands_as h o c m i j e = rw (h, ← i, ← j, ← und_bare code, ← e)

module _ (s : List ℕ) (t : List ℤ) (code : List ℕ) (r : ℕ) where
  pub stand_outside : length t < (r + 1) * 7 → refused ≡ standing s t code r
  unfolding standing outside
  stand_outside h = rw (lt-ltb _ _ h)

  -- the place that is read from the table
  pub place_read : (n : ℕ) (q : Bool) → mag (get_or t (r * 7) (pos 0)) < 2 ^ 31 → mag (get_or t (r * 7 + 1) (pos 0)) < 2 ^ 31
      → q ≡ misplaced n (to_z w32 (of_z w32 (get_or t (r * 7) (pos 0)))) (to_z w32 (of_z w32 (get_or t (r * 7 + 1) (pos 0)))) → q ≡ misplaced n (number_in t r 0) (number_in t r 1)
  place_read n q h g e =
      let z : r * 7 + 0 ≡ r * 7 = omega arith in
      rw z (rw (kept (get_or t (r * 7) (pos 0)) h, kept (get_or t (r * 7 + 1) (pos 0)) g) at e)

  module _ (room : (r + 1) * 7 ≤ length t) where
    pub stand_misplaced : misplaced (length s) (number_in t r 0) (number_in t r 1) ≡ true → refused ≡ standing s t code r
    unfolding standing outside
    stand_misplaced h = rw (le-ltb _ _ room, h)

    pub stand_at : misplaced (length s) (number_in t r 0) (number_in t r 1) ≡ false → (q : Standing) → q ≡ standing_to code (raw_id s t r) → q ≡ standing s t code r
    unfolding standing outside
    stand_at h q e = rw (le-ltb _ _ room, h) e

-- ---- a turn of the halving

-- there is one refusal
pub err_only : (r : LookupAnswer) → IsErr r → refused ≡ r
err_only (Ok n) h = both false h refl
err_only (Err e) h = refl

module _ (at : ℕ → Standing) (en : ℕ → ℕ) (low high : ℕ) (some : low < high) where
  -- the answers that a range may have
  abbrev Is : LookupAnswer → Type 0
  Is a = (n : ℕ) → high - low ≤ n → a ≡ halve at en n low high

  pub last_left : high - low ≡ 1 → (q : Standing) (r : ℕ) → q ≡ at low → r ≡ en low → Is (lastly q r)
  unfolding halve
  last_left one q r e f zero h = absurd (omega arith)
  last_left one q r e f (suc n) h = rw (eq-eqb _ _ one, e, f)

  module _ (more : high - low ≡ 1 → ⊥) where
    pub half_unsound : refused ≡ at (middle low high) → Is refused
    unfolding halve
    half_unsound e zero h = absurd (omega arith)
    half_unsound e (suc n) h = rw (ne_eqb _ _ more, ← e)

    pub half_below : (Ok Less) ≡ at (middle low high) → (a : LookupAnswer) → ((n : ℕ) → middle low high - low ≤ n → a ≡ halve at en n low (middle low high)) → Is a
    unfolding halve
    half_below e a w zero h = absurd (omega arith)
    half_below e a w (suc n) h = rw (ne_eqb _ _ more, ← e) (w n (omega arith))

    pub half_here : (Ok Equal) ≡ at (middle low high) → (a : LookupAnswer) → ((n : ℕ) → high - middle low high ≤ n → a ≡ halve at en n (middle low high) high) → Is a
    unfolding halve
    half_here e a w zero h = absurd (omega arith)
    half_here e a w (suc n) h = rw (ne_eqb _ _ more, ← e) (w n (omega arith))

    pub half_above : (Ok Greater) ≡ at (middle low high) → (a : LookupAnswer) → ((n : ℕ) → high - middle low high ≤ n → a ≡ halve at en n (middle low high) high) → Is a
    unfolding halve
    half_above e a w zero h = absurd (omega arith)
    half_above e a w (suc n) h = rw (ne_eqb _ _ more, ← e) (w n (omega arith))

    -- where the code is the id of the entry in the middle, or comes after it
    pub half_upper : (o : Ordering) → (o ≡ Equal) ⊎ (o ≡ Greater) → Ok o ≡ at (middle low high) → (a : LookupAnswer) → ((n : ℕ) → high - middle low high ≤ n → a ≡ halve at en n (middle low high) high) → Is a
    half_upper o (inl e) = let z : Ok o ≡ Ok Equal = ap Ok e in λ h. half_here (sym z ∙ h)
    half_upper o (inr e) = let z : Ok o ≡ Ok Greater = ap Ok e in λ h. half_above (sym z ∙ h)

-- ---- the answer

module _ (s : List ℕ) (t : List ℤ) (b code : List ℕ) where
  module _ (v : Version) (is : v ≡ named b) (n : ℕ) (count : n ≡ number_at v.width b 6) where
    pub sought_none : n ≡ 0 → Ok 0 ≡ sought s t b code
    unfolding sought own_count
    sought_none h = rw (← is, ← count, eq-eqb n 0 h)

    pub sought_some : (n ≡ 0 → ⊥) → (a : LookupAnswer) → ((m : ℕ) → n - 0 ≤ m → a ≡ halve (λ i. standing s t code (entry v b i)) (entry v b) m 0 n) → a ≡ sought s t b code
    unfolding sought own_count
    sought_some h a w =
        let c : n ≡ number_at (named b).width b 6 = rw is at count in
        let z : a ≡ halve (standing_at s t b code) (entry (named b) b) n 0 n = rw is at (w n (omega arith)) in
        rw (← c, ne_eqb n 0 h) z

  pub look_empty : length code ≡ 0 → Ok 0 ≡ lookup s t b code
  unfolding lookup empty
  look_empty h = rw (eq-eqb _ _ h)

  module _ (h : length code ≡ 0 → ⊥) where
    pub look_barred : barred b ≡ true → refused ≡ lookup s t b code
    unfolding lookup empty
    look_barred e = rw (ne_eqb _ _ h, e)

    pub look_sought : barred b ≡ false → (a : LookupAnswer) → a ≡ sought s t b code → a ≡ lookup s t b code
    unfolding lookup empty
    look_sought e a f = rw (ne_eqb _ _ h, e) f
