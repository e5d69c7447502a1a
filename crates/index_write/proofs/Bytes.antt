-- The bytes of an index while it is written: a record number put into its entry.
use mathlib.Core.Path.{◌≡◌, refl, sym, ◌∙◌}
use mathlib.Core.List.{List}
use Prim.Native.Nat.{ℕ, zero, suc, ◌+◌, ◌*◌, ◌-◌, ◌/◌, ◌%◌, ◌^◌, ◌≤◌, ◌<◌}
use native.Mathlib.Omega.{arith}
use native.Mathlib.Nat.{div-add-mod', suc-mul, mul-le-mul_right}
use lib.IntN.{ℤ}
use lib.ListN.{length, get_or, set, length-set}
use lib.Seq.{get_or-set_same, get_or-set_other}
use Rattle.meaning.proofs.Tests.{Standing, below, level, over, standing}
use Rattle.ordering.specs.Cells.{cell_at}
use Rattle.indexes.specs.declared.version.Version.{Version}
use Rattle.indexes.specs.Index.{number_at, head_length, index_length, entry}
use Rattle.indexes.proofs.Numbers.{four_at}
use Rattle.index_write.specs.Writing.{Put, Within, Entry}

-- ---- a number in its bytes

-- numbers are equal where their bytes are
pub number_as : (w : ℕ) (b c : List ℕ) (at : ℕ) → ((i : ℕ) → at ≤ i → i < at + w → get_or b i 0 ≡ get_or c i 0) → number_at w b at ≡ number_at w c at
unfolding number_at
number_as zero b c at h = refl
number_as (suc w) b c at h = rw (h at (omega arith) (omega arith), number_as w b c (at + 1) (λ i x y. h i (omega arith) (omega arith)))

module _ (b : List ℕ) (at x : ℕ) (room : at + 2 ≤ length b) (small : x < 65536) where
  abbrev pair : List ℕ
  pair = set (set b at (x % 256)) (at + 1) (x / 256)

  low_byte : get_or pair at 0 ≡ x % 256
  low_byte =
      get_or-set_other (set b at (x % 256)) (at + 1) at (x / 256) 0 (λ e. omega arith)
      ∙ get_or-set_same b at (x % 256) 0 (omega arith)

  high_byte : get_or pair (at + 1) 0 ≡ x / 256
  high_byte = get_or-set_same (set b at (x % 256)) (at + 1) (x / 256) 0 (simp length-set (omega arith))

  other_byte : (i : ℕ) → (i ≡ at → ⊥) → (i ≡ at + 1 → ⊥) → get_or pair i 0 ≡ get_or b i 0
  other_byte i p q =
      get_or-set_other (set b at (x % 256)) (at + 1) i (x / 256) 0 q
      ∙ get_or-set_other b at i (x % 256) 0 p

  pub put_two : Put 2 at x b pair
  unfolding number_at
  put_two = record {
    size = simp length-set;
    here = rw (low_byte, high_byte) (omega (arith, div-add-mod' x 256));
    below = λ i h. other_byte i (λ e. omega arith) (λ e. omega arith);
    above = λ i h. other_byte i (λ e. omega arith) (λ e. omega arith);
  }

pub put_four : (b c d : List ℕ) (at x : ℕ) → Put 2 at (x % 65536) b c → Put 2 (at + 2) (x / 65536) c d → Put 4 at x b d
put_four b c d at x p q = record {
  size = q.size ∙ p.size;
  here = sym (four_at d at) ∙ rw (number_as 2 d c at (λ i l h. q.below i (omega arith)), p.here, q.here) (omega (arith, div-add-mod' x 65536));
  below = λ i h. q.below i (omega arith) ∙ p.below i h;
  above = λ i h. q.above i (omega arith) ∙ p.above i (omega arith);
}

pub put_both : (b c d : List ℕ) (at x : ℕ) → at + 4 ≤ length b → x < 256 ^ 4
    → c ≡ set (set b at (x % 65536 % 256)) (at + 1) (x % 65536 / 256)
    → d ≡ set (set c (at + 2) (x / 65536 % 256)) (at + 2 + 1) (x / 65536 / 256)
    → Put 4 at x b d
put_both b c d at x room small p q =
    let long : at + 2 + 2 ≤ length c = rw p (simp length-set (omega arith)) in
    put_four b c d at x (rw p (put_two b at (x % 65536) (omega arith) (omega arith))) (rw q (put_two c (at + 2) (x / 65536) long (omega arith)))

-- ---- a record number in its entry

-- entries one after the other
pub after : (w j k : ℕ) → 0 < j → j < k → (j - 1) * w + w ≤ (k - 1) * w
after w j k a b =
    let e : suc (j - 1) ≤ k - 1 = omega arith in
    omega (arith, suc-mul (j - 1) w, mul-le-mul_right {m = suc (j - 1)} {n = k - 1} w e)

pub entry_room : (v : Version) (n k size : ℕ) → 0 < k → k ≤ n → index_length v n ≤ size → head_length v + (k - 1) * v.width + v.width ≤ size
unfolding index_length
entry_room v n k size a b h =
    let last : (k - 1) * v.width + v.width ≤ n * v.width = let e : n + 1 - 1 ≡ n = omega arith in rw e at (after v.width k (n + 1) a (omega arith)) in
    omega (arith, last)

module _ (v : Version) (b : List ℕ) (k n r : ℕ) (low : 0 < k) (high : k ≤ n) (room : index_length v n ≤ length b) (b' : List ℕ) (put : Put v.width (head_length v + (k - 1) * v.width) r b b') where
  entry_other : (j : ℕ) → 0 < j → (j ≡ k → ⊥) → entry v b' (j - 1) ≡ entry v b (j - 1)
  unfolding entry
  entry_other j h ne = number_as v.width b' b (head_length v + (j - 1) * v.width) (go (standing j k))
    where
      go : Standing j k → (i : ℕ) → head_length v + (j - 1) * v.width ≤ i → i < head_length v + (j - 1) * v.width + v.width → get_or b' i 0 ≡ get_or b i 0
      go (below l) i x y = put.below i (omega (arith, after v.width j k h l))
      go (level l) i x y = absurd (ne l)
      go (over l) i x y = put.above i (omega (arith, after v.width k j low l))

  put_within : Within v n b b'
  unfolding index_length
  put_within =
      let last : (k - 1) * v.width + v.width ≤ n * v.width = let e : n + 1 - 1 ≡ n = omega arith in rw e at (after v.width k (n + 1) low (omega arith)) in
      record {
        size = put.size;
        head = λ i h. put.below i (omega arith);
        rest = λ i h. put.above i (omega (arith, last));
      }

  pub entry_put : (x : ℕ) (t : List ℤ) → cell_at 0 t 1 k ≡ x → Entry v n x r t b b'
  unfolding entry
  entry_put x t is = record { at = k; low = low; high = high; is = is; here = put.here; others = entry_other; within = put_within }

pub within_self : (v : Version) (n : ℕ) (b : List ℕ) → Within v n b b
within_self v n b = record { size = refl; head = λ i h. refl; rest = λ i h. refl }

pub within_trans : {v : Version} {n : ℕ} {a b d : List ℕ} → Within v n a b → Within v n b d → Within v n a d
within_trans p q = record { size = q.size ∙ p.size; head = λ i h. q.head i h ∙ p.head i h; rest = λ i h. q.rest i h ∙ p.rest i h }
