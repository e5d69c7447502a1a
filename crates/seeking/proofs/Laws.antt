-- A value's place in a sorted order, and the record that stands there.
use mathlib.Core.Path.{◌≡◌, refl, sym, ap, ◌∙◌, subst, fun_ext}
use mathlib.Core.Bool.{Bool, true, false}
use mathlib.Core.List.{List}
use Prim.Native.Nat.{ℕ, ◌+◌, ◌*◌, ◌-◌, ◌≤◌, ◌<◌}
use native.Mathlib.Omega.{arith}
use native.Mathlib.Nat.{add-zero}
use lib.Dec.{leb}
use lib.IntN.{ℤ, pos}
use lib.ListN.{length, get_or}
use borrow.Author.Tests.{le-leb, leb-true, leb-false}
use Rattle.meaning.specs.Lists.{same}
use Rattle.meaning.specs.Bytes.{part, value}
use Rattle.meaning.proofs.ListLaws.{both, same_equal, same_self}
use Rattle.rows.specs.Cells.{nat_at, bounds_at}
use Rattle.std.specs.Ordering.{is_lt}
use Rattle.std.specs.declared.cmp.Ordering.{Ordering}
use Rattle.std.specs.declared.cmp.Ordering.TheVariants.{Less, Equal, Greater}
use Rattle.ranking.specs.Ranks.{before, compare, ranked, settle}
use Rattle.ranking.proofs.Laws.{compare_ranked, compare_equal, less_before, before_trans, before_irreflexive}
use Rattle.ordering.specs.Cells.{cell, Kept}
use Rattle.ordering.specs.Ids.{id_of, no_later, in_order, Sorted, Stands, Whole, Placed, Arranged}
use Rattle.ordering.proofs.Laws.{Alike, yes, no, alike, row_fits}
use Rattle.num.specs.Signs.{nat_of}
use Rattle.seeking.specs.First.{First, id_is, value_is, Held}
use Rattle.seeking.proofs.First.{held_as}
use Rattle.seeking.specs.Seek.{Lower}

-- ---- what a comparison tells

pub before_is : (a b : List ℕ) (o : Ordering) → o ≡ compare a b → is_lt o ≡ before a b
unfolding ranked
before_is a b o e = rw (e, compare_ranked a b) (go (before a b) (same a b))
  where
    go : (p q : Bool) → is_lt (ranked p q) ≡ p
    go true q = refl
    go false true = refl
    go false false = refl

pub before_cell : (s : List ℕ) (t : List ℤ) (w i r : ℕ) (raw a : List ℕ) (o : Ordering)
    → r ≡ cell t w i → a ≡ part s (bounds_at t (r * w)) → o ≡ compare (value a) (value raw)
    → is_lt o ≡ before (id_of s t w (cell t w i)) (value raw)
unfolding id_of
before_cell s t w i r raw a o e p q = before_is (value (part s (bounds_at t (cell t w i * w)))) (value raw) o (q ∙ rw (p, e))

data Standing (a b : ℕ) : Type 0 where
  below : a < b → Standing a b
  level : a ≡ b → Standing a b
  over : b < a → Standing a b

order : (a b : ℕ) → Standing a b
order a b = go (alike a b) (leb b a) refl
  where
    go : Alike a b → (t : Bool) → leb b a ≡ t → Standing a b
    go (yes e) t q = level e
    go (no n) true q = over (omega (arith, n, leb-true b a q))
    go (no n) false q = below (leb-false b a q)

-- ---- halving

-- what stands between lo and hi is open
pub record Halving (id : ℕ → List ℕ) (f : ℕ → ℕ) (n : ℕ) (v : List ℕ) (lo hi : ℕ) : Type 0 where
  pub low : 0 < lo
  pub within : lo ≤ hi
  pub high : hi ≤ n + 1
  pub under : (k : ℕ) → 0 < k → k < lo → before (id (f k)) v ≡ true
  pub above : (k : ℕ) → hi ≤ k → k ≤ n → before (id (f k)) v ≡ false

-- a record that comes no later than one before v is before v
pub earlier : (id : ℕ → List ℕ) (x y : ℕ) (v : List ℕ) → no_later id x y ≡ true → before (id y) v ≡ true → before (id x) v ≡ true
unfolding no_later settle
earlier id x y v h b = go (compare (id x) (id y)) refl h
  where
    go : (o : Ordering) → compare (id x) (id y) ≡ o → settle o (leb x y) ≡ true → before (id x) v ≡ true
    go Less e g = before_trans (id x) (id y) v (less_before (id x) (id y) e) b
    go Equal e g = rw (compare_equal (id x) (id y) e) b
    go Greater e g = both false g refl

-- a record that comes no later than one with an id that it is not before has that id, and is no later a record
pub tied : (id : ℕ → List ℕ) (x y : ℕ) → no_later id x y ≡ true → before (id x) (id y) ≡ false → (id x ≡ id y) × (x ≤ y)
unfolding no_later settle
tied id x y h b = go (compare (id x) (id y)) refl h
  where
    go : (o : Ordering) → compare (id x) (id y) ≡ o → settle o (leb x y) ≡ true → (id x ≡ id y) × (x ≤ y)
    go Less e g = both (before (id x) (id y)) (less_before (id x) (id y) e) b
    go Equal e g = (compare_equal (id x) (id y) e, leb-true x y g)
    go Greater e g = both false g refl

module _ (id : ℕ → List ℕ) (f : ℕ → ℕ) (n : ℕ) (v : List ℕ) where
  pub halve_start : Halving id f n v 1 (n + 1)
  halve_start = record {
    low = omega arith;
    within = omega arith;
    high = omega arith;
    under = λ k a b. absurd (none k a b);
    above = λ k a b. absurd (past k a b);
  }
    where
      none : (k : ℕ) → 0 < k → k < 1 → ⊥
      none k a b = omega arith

      past : (k : ℕ) → n + 1 ≤ k → k ≤ n → ⊥
      past k a b = omega arith

  module _ (sorted : Sorted (no_later id) f n) (lo hi mid : ℕ) (h : Halving id f n v lo hi) (a : lo ≤ mid) (b : mid < hi) where
    up_to : before (id (f mid)) v ≡ true → (k : ℕ) → 0 < k → k ≤ mid → before (id (f k)) v ≡ true
    unfolding Sorted
    up_to e k x y = go (alike k mid)
      where
        go : Alike k mid → before (id (f k)) v ≡ true
        go (yes p) = rw p e
        go (no p) = earlier id (f k) (f mid) v (sorted k mid x (omega (arith, p)) (omega (arith, h.high))) e

    pub halve_up : before (id (f mid)) v ≡ true → Halving id f n v (mid + 1) hi
    halve_up e = record {
      low = omega arith;
      within = omega arith;
      high = h.high;
      under = λ k x y. up_to e k x (omega arith);
      above = h.above;
    }

    pub halve_down : before (id (f mid)) v ≡ false → Halving id f n v lo mid
    unfolding Sorted
    halve_down e = record {
      low = h.low;
      within = a;
      high = omega (arith, h.high);
      under = h.under;
      above = λ k x y. go k (alike mid k) x y (before (id (f k)) v) refl;
    }
      where
        go : (k : ℕ) → Alike mid k → mid ≤ k → k ≤ n → (t : Bool) → before (id (f k)) v ≡ t → before (id (f k)) v ≡ false
        go k p x y false q = q
        go k (yes p) x y true q = rw (← p) e
        go k (no p) x y true q =
            both (before (id (f mid)) v) (earlier id (f mid) (f k) v (sorted mid k (omega (arith, h.low)) (omega (arith, p)) y) q) e

  pub halve_end : (lo hi : ℕ) → Halving id f n v lo hi → hi ≤ lo → Lower id f n v lo
  halve_end lo hi h l = record {
    low = h.low;
    high = omega (arith, h.within, h.high);
    under = h.under;
    above = λ k x y. h.above k (omega arith) y;
  }

-- ---- the record

module _ (s : List ℕ) (t : List ℤ) (w n : ℕ) (v : List ℕ) (placed : Placed s t w n) where
  pub id_is_lem : (r : ℕ) → 0 < r → r ≤ n → id_is s t w v r ≡ same (id_of s t w r) v
  unfolding id_is value_is id_of
  id_is_lem r a b =
      rw (
        le-leb ((r + 1) * w) (length t) (row_fits r n w (length t) b placed.room),
        le-leb (nat_at t (r * w)) (nat_at t (r * w + 1)) (placed.ordered r a b),
        le-leb (nat_at t (r * w + 1)) (length s) (placed.inside r a b),
      )

  module _ (whole : Whole (cell t w) n) (sorted : Sorted (no_later (id_of s t w)) (cell t w) n) (at : ℕ) (low : Lower (id_of s t w) (cell t w) n v at) where
    -- a record with the id: it stands at `at` or later, and the one at `at` is tied with it
    here : (k : ℕ) → 0 < k → k < n + 1 → id_is s t w v k ≡ true → (at ≤ n) × ((id_of s t w (cell t w at) ≡ v) × (cell t w at ≤ k))
    unfolding Sorted
    here k a b e = go (alike at p.place)
      where
        p : Stands (cell t w) n k
        p = whole.each k a (omega arith)

        is : id_of s t w k ≡ v
        is = same_equal (id_of s t w k) v (sym (id_is_lem k a (omega arith)) ∙ e)

        no_less : p.place < at → ⊥
        no_less l = before_irreflexive v (rw (p.is, is) at (low.under p.place p.low l))

        up : at ≤ p.place
        up = omega (arith, no_less)

        go : Alike at p.place → (at ≤ n) × ((id_of s t w (cell t w at) ≡ v) × (cell t w at ≤ k))
        go (yes q) =
            let c : cell t w at ≡ k = ap (cell t w) q ∙ p.is in
            (omega (arith, p.high), (rw c is, omega arith))
        go (no q) =
            let l : at < p.place = omega (arith, up, q) in
            let m : at ≤ n = omega (arith, p.high) in
            let o : no_later (id_of s t w) (cell t w at) k ≡ true = rw p.is at (sorted at p.place low.low l p.high) in
            let f : before (id_of s t w (cell t w at)) (id_of s t w k) ≡ false = rw is (low.above at (omega arith) m) in
            let d = tied (id_of s t w) (cell t w at) k o f in
            (m, (d.0 ∙ is, d.1))

    pub seek_past : n < at → First (id_is s t w v) (n + 1) 0 × (0 ≤ n)
    seek_past l = (record { found = λ z. absurd (none z); least = λ k a b e. absurd (over (here k a b e).0) }, omega arith)
      where
        none : 0 < 0 → ⊥
        none z = omega arith

        over : at ≤ n → ⊥
        over m = omega arith

    pub seek_none : same (id_of s t w (cell t w at)) v ≡ false → First (id_is s t w v) (n + 1) 0 × (0 ≤ n)
    seek_none e = (record { found = λ z. absurd (none z); least = λ k a b q. both (same (id_of s t w (cell t w at)) v) (rw (here k a b q).1.0 (same_self v)) e }, omega arith)
      where
        none : 0 < 0 → ⊥
        none z = omega arith

    pub seek_found : at ≤ n → same (id_of s t w (cell t w at)) v ≡ true → First (id_is s t w v) (n + 1) (cell t w at) × (cell t w at ≤ n)
    seek_found l e =
        let i = whole.within at low.low l in (
          record {
            found = λ z. (omega (arith, i.1), id_is_lem (cell t w at) i.0 i.1 ∙ e);
            least = λ k a b q. (i.0, (here k a b q).1.1);
          },
          i.1,
        )

pub same_cell : (s : List ℕ) (t : List ℤ) (w at r : ℕ) (a v : List ℕ) (b : Bool)
    → r ≡ cell t w at → a ≡ part s (bounds_at t (r * w)) → b ≡ same (value a) v → same (id_of s t w (cell t w at)) v ≡ b
unfolding id_of
same_cell s t w at r a v b e p q = rw (← e, ← p) (sym q)

-- ---- tables that hold ids, as the crates above know them

pub held_placed : (s : List ℕ) (t : List ℤ) (w : ℕ) (ids : List (List ℕ)) → Held s t w ids → Placed s t w (length ids)
held_placed s t w ids held = record {
  room = held.room;
  ordered = λ r a b. let e : r - 1 + 1 ≡ r = omega arith in rw e at (held.at (r - 1) (omega arith)).ordered;
  inside = λ r a b. let e : r - 1 + 1 ≡ r = omega arith in rw e at (held.at (r - 1) (omega arith)).inside;
}

-- cells may change under a table that holds ids
pub held_kept : (s : List ℕ) (t u : List ℤ) (w n : ℕ) (ids : List (List ℕ)) → 2 < w → Kept w n t u → Held s t w ids → Held s u w ids
held_kept s t u w n ids wide k held = held_as s t u w ids held k.size (λ r. (ap nat_of (first r), ap nat_of (second r)))
  where
    no_two : (k : ℕ) → k < 2 → k ≡ 2 → ⊥
    no_two k h e = omega arith

    first : (r : ℕ) → get_or u (r * w) (pos 0) ≡ get_or t (r * w) (pos 0)
    first r = rw (add-zero (r * w)) at (k.same r 0 (omega arith) (λ e a b. no_two 0 (omega arith) e))

    second : (r : ℕ) → get_or u (r * w + 1) (pos 0) ≡ get_or t (r * w + 1) (pos 0)
    second r = k.same r 1 (omega arith) (λ e a b. no_two 1 (omega arith) e)

-- another table with the same first three numbers in each record keeps the same order of the same ids
module _ (s : List ℕ) (w n : ℕ) (t u : List ℤ) (size : length u ≡ length t)
    (same3 : (r k : ℕ) → k < 3 → get_or u (r * w + k) (pos 0) ≡ get_or t (r * w + k) (pos 0)) where
  cells_as : cell u w ≡ cell t w
  cells_as = fun_ext (λ i. ap nat_of (same3 i 2 (omega arith)))

  ids_as : id_of s u w ≡ id_of s t w
  unfolding id_of
  ids_as = fun_ext (λ r. one r)
    where
      one : (r : ℕ) → value (part s (bounds_at u (r * w))) ≡ value (part s (bounds_at t (r * w)))
      one r =
          let a : get_or u (r * w) (pos 0) ≡ get_or t (r * w) (pos 0) = rw (add-zero (r * w)) at (same3 r 0 (omega arith)) in
          rw (a, same3 r 1 (omega arith))

  pub arranged_as : Arranged s w n t → Arranged s w n u
  unfolding in_order no_later
  arranged_as a = record {
    room = record { wide = a.room.wide; narrow = a.room.narrow; rows = rw size a.room.rows };
    few = a.few;
    whole = rw cells_as a.whole;
    apart = rw cells_as a.apart;
    sorted = subst (λ (f : ℕ → ℕ). Sorted (no_later (id_of s u w)) f n) (sym cells_as) (subst (λ (d : ℕ → List ℕ). Sorted (no_later d) (cell t w) n) (sym ids_as) a.sorted);
  }
