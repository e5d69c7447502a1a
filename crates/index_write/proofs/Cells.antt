-- Bytes where fields begin, sorted by the fields' values: the cell of one, found by halving, and values that repeat.
use mathlib.Core.Path.{◌≡◌, refl, sym, ◌∙◌}
use mathlib.Core.Bool.{Bool, true, false}
use mathlib.Core.List.{List}
use Prim.Native.Nat.{ℕ, ◌≤◌, ◌<◌}
use native.Mathlib.Omega.{arith}
use lib.Dec.{leb, ltb}
use lib.IntN.{ℤ}
use borrow.Author.Tests.{le-leb, leb-true, leb-false, ltb-true, ltb-false}
use Rattle.meaning.proofs.ListLaws.{both, same_self}
use Rattle.std.specs.declared.cmp.Ordering.{Ordering}
use Rattle.std.specs.declared.cmp.Ordering.TheVariants.{Less, Equal, Greater}
use Rattle.ranking.specs.Ranks.{before, compare, settle, turned}
use Rattle.ranking.proofs.Laws.{compare_turned, compare_self, compare_equal, less_before}
use Rattle.ordering.specs.Cells.{cell_at}
use Rattle.ordering.specs.Ids.{value_on, no_later, in_order, alike, Sorted, Apart}
use Rattle.ordering.specs.declared.By.TheVariants.{Field}

module _ (s : List ℕ) (t : List ℤ) (w : ℕ) where
  order_self : (x : ℕ) → in_order Field s t w x x ≡ true
  unfolding in_order no_later settle
  order_self x = rw (compare_self (value_on s x)) (le-leb x x (omega arith))

  -- two bytes that come no later than each other are one
  order_one : (x y : ℕ) → in_order Field s t w x y ≡ true → in_order Field s t w y x ≡ true → x ≡ y
  unfolding in_order no_later settle turned
  order_one x y h k = go (compare (value_on s x) (value_on s y)) h (rw (compare_turned (value_on s x) (value_on s y)) at k)
    where
      go : (o : Ordering) → settle o (leb x y) ≡ true → settle (turned o) (leb y x) ≡ true → x ≡ y
      go Less a b = both false b refl
      go Equal a b = omega (arith, leb-true x y a, leb-true y x b)
      go Greater a b = both false a refl

  -- what comes no later and isn't alike comes before
  pub order_before : (x y : ℕ) → in_order Field s t w x y ≡ true → alike Field s t w x y ≡ false → before (value_on s x) (value_on s y) ≡ true
  unfolding in_order no_later settle alike
  order_before x y h k = go (compare (value_on s x) (value_on s y)) refl h
    where
      go : (o : Ordering) → compare (value_on s x) (value_on s y) ≡ o → settle o (leb x y) ≡ true → before (value_on s x) (value_on s y) ≡ true
      go Less e a = less_before (value_on s x) (value_on s y) e
      go Equal e a = both true refl (rw (compare_equal (value_on s x) (value_on s y) e, same_self (value_on s y)) at k)
      go Greater e a = both false a refl

-- a turn of halving: byte x stands in cell k
module _ (s : List ℕ) (t : List ℤ) (n x : ℕ) (sorted : Sorted (in_order Field s t 1) (cell_at 0 t 1) n) (k : ℕ) (low : 0 < k) (high : k ≤ n) (is : cell_at 0 t 1 k ≡ x) (mid : ℕ) (first : 0 < mid) (last : mid ≤ n) where
  pub not_after : Apart (cell_at 0 t 1) n → in_order Field s t 1 x (cell_at 0 t 1 mid) ≡ true → k ≤ mid
  unfolding Sorted Apart
  not_after apart h = go (leb k mid) refl
    where
      go : (b : Bool) → leb k mid ≡ b → k ≤ mid
      go true e = leb-true k mid e
      go false e =
          let l : mid < k = leb-false k mid e in
          let y : in_order Field s t 1 (cell_at 0 t 1 mid) x ≡ true = rw (← is) (sorted mid k first l high) in
          absurd (apart mid k first l high (order_one s t 1 (cell_at 0 t 1 mid) x y h ∙ sym is))

  pub after : in_order Field s t 1 x (cell_at 0 t 1 mid) ≡ false → mid < k
  unfolding Sorted
  after h = go (ltb mid k) refl (ltb k mid) refl
    where
      go : (b : Bool) → ltb mid k ≡ b → (d : Bool) → ltb k mid ≡ d → mid < k
      go true e d f = ltb-true mid k e
      go false e true f = both (in_order Field s t 1 x (cell_at 0 t 1 mid)) (rw is at (sorted k mid low (ltb-true k mid f) last)) h
      go false e false f =
          let q : k ≡ mid = omega (arith, ltb-false mid k e, ltb-false k mid f) in
          both (in_order Field s t 1 x x) (order_self s t 1 x) (rw (← q, is) at h)
