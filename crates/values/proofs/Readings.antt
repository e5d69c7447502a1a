-- What the readers of one located line answer.
use Rattle.std.specs.Prelude.{Option, Some, None}
use mathlib.Core.Path.{◌≡◌, refl, ap, ◌∙◌}
use mathlib.Core.Bool.{Bool, true, false, not, ◌&&◌}
use mathlib.Core.List.{List, []}
use Prim.Native.Nat.{ℕ, suc, ◌+◌, ◌*◌, ◌-◌, ◌^◌, ◌≤◌, ◌<◌}
use native.Mathlib.Omega.{arith}
use native.Mathlib.Nat.{pow-le-pow_right, pow-succ', zero-lt-suc}
use lib.ListN.{length, get_or}
use lib.IntN.{ℤ, pos}
use Rattle.meaning.specs.Lists.{empty}
use Rattle.meaning.specs.declared.Bounds.{Bounds}
use Rattle.meaning.specs.Bytes.{value}
use Rattle.meaning.specs.Columns.{field_at, cell, row_of}
use Rattle.meaning.specs.Forms.{choice_of}
use Rattle.meaning.specs.Tables.{picked, one_if, choice_or, pack_from, packed_days, kind_of, placed}
use Rattle.meaning.proofs.Columns.{row_at}
use Rattle.columns.specs.Columns.{fields_at}
use Rattle.columns.proofs.Laws.{located_at, located_inside}
use Rattle.values.specs.Located.{value_in, Within, Located}

-- the value under a column is the row's
pub in_row :
    (ps l : List ℕ) (cells : List Bounds) → Located l ps cells → (k : ℕ) → get_or (row_of ps l) k [] ≡ value_in l cells k
unfolding cell
in_row ps l cells loc k = row_at ps l k ∙ rw (loc k)

-- a form read from the raw field under a column
pub through : {A : Type 0} (f : List ℕ → A) (x : A) (r p : List ℕ) → x ≡ f (value r) → r ≡ p → x ≡ f (value p)
through f x r p e g = e ∙ ap (λ (l : List ℕ). f (value l)) g

pub picked_one : (c : Option ℕ) (n : ℕ) → n ≡ one_if c → pos n ≡ picked c
picked_one (Some m) n e = rw e
picked_one None n e = rw e

module _ (none : ℤ) (m : ℕ) (v : List ℕ) where
  pub choice_empty : empty v ≡ true → none ≡ choice_or none m v
  unfolding choice_or
  choice_empty e = rw e

  pub choice_given : (n : ℕ) (c : Option ℕ) → empty v ≡ false → n ≡ one_if c → c ≡ choice_of m v → pos n ≡ choice_or none m v
  unfolding choice_or
  choice_given n c e p q = rw (e, ← q) (picked_one c n p)

-- the type of a stop and whether it has a place, by the values under its columns
module _ (ps l : List ℕ) (cells : List Bounds) (loc : Located l ps cells) where
  pub kind_in : (n : ℕ) (c : Option ℕ) → n ≡ one_if c → c ≡ choice_of 4 (value_in l cells 4) → n ≡ kind_of (row_of ps l)
  unfolding kind_of
  kind_in n c e q = rw (in_row ps l cells loc 4, ← q) e

  pub placed_in : (a b : Bool) → a ≡ empty (value_in l cells 2) → b ≡ empty (value_in l cells 3) → not (a && b) ≡ placed (row_of ps l)
  unfolding placed
  placed_in a b e q = rw (in_row ps l cells loc 2, in_row ps l cells loc 3, ← e, ← q)

-- the day mark of one day more, Monday lowest
days_left : (d : ℕ) → 0 < d → d ≤ 7 → 7 - (d - 1) ≡ suc (7 - d)
days_left d h k = omega arith

module _ (b n d : ℕ) (some : 0 < d) (week : d ≤ 7) where
  pub pack_turn :
      (l ps : List ℕ) (cells : List Bounds)
      → Located l ps cells
      → b ≡ one_if (choice_of 1 (value_in l cells d))
      → n ≡ pack_from d (7 - d) (row_of ps l)
      → b + 2 * n ≡ pack_from (d - 1) (7 - (d - 1)) (row_of ps l)
  unfolding pack_from
  pack_turn l ps cells loc e inv =
      let j : d - 1 + 1 ≡ d = omega arith in
      rw (days_left d some week, j, in_row ps l cells loc d, e, inv)

  pub bits_turn : b ≤ 1 → n < 2 ^ (7 - d) → b + 2 * n < 2 ^ (7 - (d - 1))
  bits_turn h k =
      let p : 2 ^ suc (7 - d) ≡ 2 * 2 ^ (7 - d) = pow-succ' 2 (7 - d) in
      rw (days_left d some week, p) (omega arith)

pub bits_few : (n d : ℕ) → n < 2 ^ (7 - d) → n < 128
bits_few n d h =
    let p : 2 ^ (7 - d) ≤ 2 ^ 7 = pow-le-pow_right {n = 2} (zero-lt-suc 1) {i = 7 - d} {j = 7} (omega arith) in
    omega arith

pub pack_first : (ps l : List ℕ) (d : ℕ) → d ≡ 7 → 0 ≡ pack_from d (7 - d) (row_of ps l)
unfolding pack_from
pack_first ps l d e = rw e

pub pack_last : (ps l : List ℕ) (n d : ℕ) → d ≤ 0 → n ≡ pack_from d (7 - d) (row_of ps l) → n ≡ packed_days (row_of ps l)
unfolding packed_days
pack_last ps l n d h e = let z : d ≡ 0 = omega arith in rw z at e

-- the fields that `locate` gives under columns
module _ (l cs : List ℕ) (cells : List Bounds) (e : cells ≡ fields_at l cs) where
  pub located : (ps : List ℕ) → ((k : ℕ) → get_or cs k 0 ≡ get_or ps k 0) → Located l ps cells
  located ps same k = located_at l cs cells e k ∙ ap (field_at l) (same k)

  pub located_there : Located l cs cells
  located_there = located cs (λ k. refl)

  pub within : Within (length l) cells
  within k = let i = located_inside l cs cells e k in (i.ordered, i.within)
