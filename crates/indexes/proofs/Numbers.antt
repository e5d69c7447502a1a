-- Numbers in bytes, low byte first, of any width: what is written is read back, and what is read is what was written.
use Prim.Native.Nat.{ℕ, zero, suc, ◌+◌, ◌*◌, ◌/◌, ◌%◌, ◌^◌, ◌≤◌, ◌<◌}
use native.Mathlib.Omega.{arith}
use native.Mathlib.Nat.{pow-suc, suc-mul}
use native.Mathlib.Numerals.{add-one}
use mathlib.Core.Path.{◌≡◌, refl, sym, ap, ◌∙◌}
use mathlib.Core.List.{List, [], ◌∷◌, ◌++◌, map, append_assoc}
use lib.ListN.{length, get_or, take, drop, length-append, take-append-drop, drop_of_length-le}
use lib.Seq.{drop-cons, drop-drop, get_or-append_seam, append_snoc}
use Rattle.meaning.specs.Lists.{flat}
use Rattle.indexes.specs.Index.{low_first, number_at}
use Rattle.indexes.specs.Promises.{Bytes}

-- ---- one number

pub low_length : (k n : ℕ) → length (low_first k n) ≡ k
unfolding low_first
low_length zero n = refl
low_length (suc k) n = ap suc (low_length k (n / 256))

-- four bytes, by pairs
pub four_at : (b : List ℕ) (at : ℕ) → number_at 2 b at + 65536 * number_at 2 b (at + 2) ≡ number_at 4 b at
unfolding number_at
four_at b at = let e : at + 2 ≡ at + 1 + 1 = omega arith in rw e (omega arith)

-- a number that is written is read
pub written_number : (k n : ℕ) (a c : List ℕ) → n < 256 ^ k → number_at k (a ++ (low_first k n ++ c)) (length a) ≡ n
unfolding low_first number_at
written_number zero n a c h = omega arith
written_number (suc k) n a c h =
    let ih = written_number k (n / 256) (a ++ (n % 256 ∷ [])) c (omega (arith, pow-suc 256 k)) in
    rw (get_or-append_seam, rw (append_snoc, length-append) at ih) (omega arith)

-- the bytes of a number that is read
pub read_number : (k : ℕ) (b : List ℕ) (at : ℕ) → Bytes b → at + k ≤ length b → low_first k (number_at k b at) ≡ take k (drop at b)
unfolding low_first number_at
read_number zero b at small h = refl
read_number (suc k) b at small h =
    let x : ℕ = get_or b at 0 in
    let y : ℕ = number_at k b (at + 1) in
    let p : (x + 256 * y) % 256 ≡ x = omega (arith, small at) in
    let q : (x + 256 * y) / 256 ≡ y = omega (arith, small at) in
    rw (p, q, drop-cons b at 0 (omega arith), ← add-one at) (ap (λ l. x ∷ l) (read_number k b (at + 1) small (omega arith)))

-- a number that is read, and what follows it
pub read_front : (k : ℕ) (b : List ℕ) (at n : ℕ) → Bytes b → at + k ≤ length b → number_at k b at ≡ n → low_first k n ++ drop (at + k) b ≡ drop at b
read_front k b at n small h e = rw (← e, read_number k b at small h, ← drop-drop k at b) (take-append-drop k (drop at b))

-- ---- numbers one after the other

-- n numbers of so many bytes each, from `at` on
unfoldable pub numbers_at : ℕ → List ℕ → ℕ → ℕ → List ℕ
numbers_at w b at zero = []
numbers_at w b at (suc n) = number_at w b at ∷ numbers_at w b (at + w) n

module _ (w : ℕ) where
  pub numbers_length : (b : List ℕ) (at n : ℕ) → length (numbers_at w b at n) ≡ n
  unfolding numbers_at
  numbers_length b at zero = refl
  numbers_length b at (suc n) = ap suc (numbers_length b (at + w) n)

  pub numbers_at_lem : (b : List ℕ) (at n i : ℕ) → i < n → get_or (numbers_at w b at n) i 0 ≡ number_at w b (at + i * w)
  unfolding numbers_at
  numbers_at_lem b at zero i h = absurd (omega arith)
  numbers_at_lem b at (suc n) zero h = let e : at + 0 * w ≡ at = omega arith in rw e
  numbers_at_lem b at (suc n) (suc i) h =
      let e : at + w + i * w ≡ at + suc i * w = omega (arith, suc-mul i w) in
      numbers_at_lem b (at + w) n i (omega arith) ∙ rw e

  -- the bytes of numbers that are read
  pub read_numbers : (b : List ℕ) (at n : ℕ) → Bytes b → length b ≡ at + n * w → flat (map (low_first w) (numbers_at w b at n)) ≡ drop at b
  unfolding numbers_at flat
  read_numbers b at zero small h = sym (drop_of_length-le b {i = at} (omega arith))
  read_numbers b at (suc n) small h =
      let e : length b ≡ at + w + n * w = omega (arith, suc-mul n w) in
      rw (read_number w b at small (omega arith), read_numbers b (at + w) n small e, ← drop-drop w at b) (take-append-drop w (drop at b))

  pub flat_length : (rs : List ℕ) → length (flat (map (low_first w) rs)) ≡ length rs * w
  unfolding flat
  flat_length [] = omega arith
  flat_length (r ∷ rs) = rw (length-append, low_length, flat_length rs) (omega (arith, suc-mul (length rs) w))

  -- numbers that are written are read
  pub written_numbers : (rs a : List ℕ) (at i : ℕ) → length a ≡ at → ((k : ℕ) → k < length rs → get_or rs k 0 < 256 ^ w) → i < length rs
      → number_at w (a ++ flat (map (low_first w) rs)) (at + i * w) ≡ get_or rs i 0
  unfolding flat
  written_numbers [] a at i e small h = absurd (omega arith)
  written_numbers (r ∷ rs) a at zero e small h =
      let z : at + 0 * w ≡ length a = omega arith in
      rw z (written_number w r a (flat (map (low_first w) rs)) (small 0 (omega arith)))
  written_numbers (r ∷ rs) a at (suc i) e small h =
      let z : at + suc i * w ≡ at + w + i * w = omega (arith, suc-mul i w) in
      rw (z, ← append_assoc a (low_first w r) (flat (map (low_first w) rs)))
      (written_numbers rs (a ++ low_first w r) (at + w) i (rw (length-append, low_length, e)) (λ k g. small (suc k) (omega arith)) (omega arith))
