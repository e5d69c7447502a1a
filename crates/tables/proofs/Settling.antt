-- What fields that wait name is settled one by one: the last number of a record is none of those that its id's place and the order use.
use mathlib.Core.Path.{◌≡◌, ap, ◌∙◌, fun_ext}
use mathlib.Core.List.{List}
use Prim.Native.Nat.{ℕ, ◌+◌, ◌*◌, ◌-◌, ◌≤◌, ◌<◌}
use native.Mathlib.Omega.{arith}
use native.Mathlib.Nat.{add-zero}
use lib.IntN.{ℤ, pos}
use lib.ListN.{length, get_or, set}
use lib.Seq.{get_or-set_same, get_or-set_other}
use Rattle.num.specs.Signs.{nat_of}
use Rattle.meaning.specs.Bytes.{part, value}
use Rattle.meaning.specs.Tables.{refer}
use Rattle.rows.specs.Cells.{bounds_at}
use Rattle.ordering.specs.Cells.{KeptAt}
use Rattle.ordering.specs.Ids.{id_of, Placed}
use Rattle.ordering.proofs.Laws.{Alike, yes, no, alike, apart, put_kept, kept_trans}
use Rattle.seeking.specs.First.{id_is}
use Rattle.seeking.proofs.First.{held_as}
use Rattle.seeking.proofs.Laws.{arranged_as}
use Rattle.memo.specs.Memo.{FirstOfOwn, Known, Ready}
use Rattle.records.specs.Refers.{Lists}
use Rattle.tables.specs.Walk.{Named}

-- a table u of the length of t with the same first three numbers in each record of width w
module _ (s : List ℕ) (w : ℕ) (t u : List ℤ) (size : length u ≡ length t) (same3 : (r k : ℕ) → k < 3 → get_or u (r * w + k) (pos 0) ≡ get_or t (r * w + k) (pos 0)) where
  start_as : (r : ℕ) → get_or u (r * w) (pos 0) ≡ get_or t (r * w) (pos 0)
  start_as r = rw (add-zero (r * w)) at (same3 r 0 (omega arith))

  ids_as : id_of s u w ≡ id_of s t w
  unfolding id_of
  ids_as = fun_ext (λ r. rw (start_as r, same3 r 1 (omega arith)))

  tests_as : (v : List ℕ) → id_is s u w v ≡ id_is s t w v
  unfolding id_is
  tests_as v = fun_ext (λ r. rw (size, start_as r, same3 r 1 (omega arith)))

  pub placed_as : (n : ℕ) → Placed s t w n → Placed s u w n
  placed_as n p = record {
    room = rw size p.room;
    ordered = λ r a b. rw (start_as r, same3 r 1 (omega arith)) (p.ordered r a b);
    inside = λ r a b. rw (same3 r 1 (omega arith)) (p.inside r a b);
  }

  known_as : (n : ℕ) (m : List ℕ) → Known s t w n m → Known s u w n m
  unfolding Known FirstOfOwn
  known_as n m k i h = rw (ids_as, tests_as (id_of s t w (get_or m i 0))) (k i h)

  -- what is looked up in the one is looked up in the other
  pub ready_as : (n : ℕ) (m : List ℕ) → Ready s t w n m → Ready s u w n m
  ready_as n m r = record {
    placed = placed_as n r.placed;
    arranged = arranged_as s w n t u size same3 r.arranged;
    known = known_as n m r.known;
  }

-- .. and so it lists the same ids
pub lists_as :
    (s : List ℕ) (w n : ℕ) (t u : List ℤ) (ids : List (List ℕ))
    → length u ≡ length t
    → ((r k : ℕ) → k < 3 → get_or u (r * w + k) (pos 0) ≡ get_or t (r * w + k) (pos 0))
    → Lists s t w n ids
    → Lists s u w n ids
lists_as s w n t u ids size same3 l = record {
  held =
      held_as s t u w ids l.held size
      (λ r. (ap nat_of (rw (add-zero (r * w)) at (same3 r 0 (omega arith))), ap nat_of (same3 r 1 (omega arith))));
  count = l.count;
}

-- where only last numbers change, the first three of a wide record stay
pub kept_three : (w n : ℕ) (t u : List ℤ) → 5 < w → KeptAt (w - 1) w n t u → (r k : ℕ) → k < 3 → get_or u (r * w + k) (pos 0) ≡ get_or t (r * w + k) (pos 0)
kept_three w n t u wide p r k h = p.same r k (omega arith) (λ e a b. omega arith)

pub named_start : (w : ℕ) (s : List ℕ) (ids : List (List ℕ)) (t u : List ℤ) → Named w s 1 ids t u
unfolding Named
named_start w s ids t u k a b = absurd (omega arith)

-- one field more is settled
module _ (w n r : ℕ) (wide : 5 < w) (above : 0 < r) (below : r ≤ n) (u u' : List ℤ) (q : ℕ) (set_is : u' ≡ set u (r * w + (w - 1)) (pos q)) where
  one_kept : KeptAt (w - 1) w n u u'
  one_kept = rw set_is (put_kept u w r (pos q) (omega arith) n above below)

  pub settle_kept : (t : List ℤ) → KeptAt (w - 1) w n t u → KeptAt (w - 1) w n t u'
  settle_kept t p = kept_trans p one_kept

  pub settle_ready : (s m : List ℕ) → Ready s u w n m → Ready s u' w n m
  settle_ready s m = ready_as s w u u' one_kept.size (kept_three w n u u' wide one_kept) n m

  module _ (s : List ℕ) (ids : List (List ℕ)) (t : List ℤ) (kept : KeptAt (w - 1) w n t u) (room : (r + 1) * w ≤ length u) where
    -- the field waits in u as it did in t
    waiting_as : bounds_at u (r * w + 3) ≡ bounds_at t (r * w + 3)
    waiting_as =
        let e : r * w + 4 ≡ r * w + 3 + 1 = omega arith in
        let a = kept.same r 3 (omega arith) (λ z g h. omega arith) in
        let b = rw e at (kept.same r 4 (omega arith) (λ z g h. omega arith)) in
        rw (a, b)

    pub settle_turn : Named w s r ids t u → q ≡ refer (value (part s (bounds_at u (r * w + 3)))) ids → Named w s (r + 1) ids t u'
    unfolding Named
    settle_turn p e k a b = go (alike k r)
      where
        go : Alike k r → get_or u' (k * w + (w - 1)) (pos 0) ≡ pos (refer (value (part s (bounds_at t (k * w + 3)))) ids)
        go (yes z) = rw (z, set_is) (get_or-set_same u (r * w + (w - 1)) (pos q) (pos 0) (omega arith) ∙ ap pos (rw waiting_as at e))
        go (no z) = rw set_is (get_or-set_other u (r * w + (w - 1)) (k * w + (w - 1)) (pos q) (pos 0) (λ g. z (apart r k w (omega arith) g))) ∙ p k a (omega (arith, z))

-- all are settled
pub named_end : (w : ℕ) (s : List ℕ) (n r : ℕ) (ids : List (List ℕ)) (t u : List ℤ) → n < r → r ≤ n + 1 → Named w s r ids t u → Named w s (n + 1) ids t u
unfolding Named
named_end w s n r ids t u h l p k a b = p k a (omega arith)
