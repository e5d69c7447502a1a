-- Records laid one after the other into a table: one more written, the length, a number read back.
use mathlib.Core.Path.{◌≡◌, ◌∙◌}
use mathlib.Core.List.{List, [], ◌∷◌, ◌++◌, append_assoc, append-nil, map}
use Prim.Native.Nat.{ℕ, zero, suc, ◌+◌, ◌*◌, ◌≤◌, ◌<◌}
use native.Mathlib.Numerals.{add-one}
use native.Mathlib.Omega.{arith}
use lib.IntN.{ℤ}
use lib.ListN.{length, take, drop, get_or, length-append, get_or-append}
use lib.Seq.{take-suc, take_at, drop-append-add, drop-drop, get_or-append-add, length-take-le}
use Rattle.meaning.specs.Lists.{flat, laid}
pub use Rattle.meaning.proofs.Records.{flat_append, laid_length, record_wide}
use Rattle.rows.specs.Cells.{put_at}

-- every record has width w
abbrev pub Wide : {A : Type 0} → ℕ → List (List A) → Type 0
Wide w [] = Unit {0}
Wide w (r ∷ rs) = (length r ≡ w) × Wide w rs

module _ {A : Type 0} where
  pub wide_take : (w k : ℕ) (rs : List (List A)) → Wide w rs → Wide w (take k rs)
  wide_take w zero rs h = tt
  wide_take w (suc k) [] h = tt
  wide_take w (suc k) (r ∷ rs) h = (h.0, wide_take w k rs h.1)

  pub wide_map :
      {B : Type 0} (w : ℕ) (f : B → List A) (xs : List B)
      → ((x : B) → length (f x) ≡ w)
      → Wide w (map f xs)
  wide_map w f [] h = tt
  wide_map w f (x ∷ xs) h = (h x, wide_map w f xs h)

  pub flat_length : (w : ℕ) (rs : List (List A)) → Wide w rs → length (flat rs) ≡ length rs * w
  unfolding flat
  flat_length w [] h = omega arith
  flat_length w (r ∷ rs) h = length-append r (flat rs) ∙ omega (arith, flat_length w rs h.1, h.0)

  -- number j of record k
  pub flat_cell :
      (w : ℕ) (rs : List (List A)) (rest : List A) (k j : ℕ) (d : A)
      → Wide w rs
      → k < length rs
      → j < w
      → get_or (flat rs ++ rest) (k * w + j) d ≡ get_or (get_or rs k []) j d
  unfolding flat
  flat_cell w [] rest k j d h a b = absurd (omega arith)
  flat_cell w (r ∷ rs) rest zero j d h a b =
      let e : zero * w + j ≡ j = omega arith in
      let m : j < length r = omega (arith, h.0) in
      rw (e, append_assoc) (get_or-append r (flat rs ++ rest) d j m)
  flat_cell w (r ∷ rs) rest (suc k) j d h a b =
      let e : suc k * w + j ≡ length r + (k * w + j) = omega (arith, h.0) in
      rw (e, append_assoc, get_or-append-add) (flat_cell w rs rest k j d h.1 (omega arith) b)

  pub laid_cell :
      (w : ℕ) (rs : List (List A)) (t : List A) (k j : ℕ) (d : A)
      → Wide w rs
      → k < length rs
      → j < w
      → get_or (laid (flat rs) t) (k * w + j) d ≡ get_or (get_or rs k []) j d
  unfolding laid
  laid_cell w rs t k j d h a b = flat_cell w rs (drop (length (flat rs)) t) k j d h a b

-- more written where what was laid ends
pub laid_more :
    (xs vs t : List ℤ) (at : ℕ) → length xs ≡ at → put_at (laid xs t) at vs ≡ laid (xs ++ vs) t
unfolding put_at laid
laid_more xs vs t at e = rw (e, take_at xs (drop at t) at e, ← e, drop-append-add, drop-drop, length-append)

-- record 0
pub rows_first :
    (r : List ℤ) (rs : List (List ℤ)) (t : List ℤ) → laid r t ≡ laid (flat (take 1 (r ∷ rs))) t
unfolding flat
rows_first r rs t = rw append-nil

module _ (w : ℕ) (rs : List (List ℤ)) (wide : Wide w rs) where
  -- record k after the records before it
  pub rows_turn :
      (t t₀ : List ℤ) (k : ℕ)
      → k < length rs
      → t ≡ laid (flat (take k rs)) t₀
      → put_at t (k * w) (get_or rs k []) ≡ laid (flat (take (k + 1) rs)) t₀
  unfolding flat
  rows_turn t t₀ k h e =
      let n : length (take k rs) ≡ k = length-take-le k rs (omega arith) in
      let a : length (flat (take k rs)) ≡ k * w = flat_length w (take k rs) (wide_take w k rs wide) ∙ rw n in
      rw (e, laid_more (flat (take k rs)) (get_or rs k []) t₀ (k * w) a, add-one, take-suc rs k [] h, flat_append, append-nil)

  pub rows_length : (t : List ℤ) → length rs * w ≤ length t → length (laid (flat rs) t) ≡ length t
  rows_length t h = laid_length (flat rs) t (omega (arith, flat_length w rs wide))
