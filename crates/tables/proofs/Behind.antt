-- Files that lie behind an array of six slices.
use mathlib.Core.Path.{◌≡◌, ap}
use mathlib.Core.List.{List, [], ◌∷◌, map}
use Prim.Native.Nat.{ℕ, ◌+◌, ◌-◌, ◌<◌}
use native.Mathlib.Omega.{arith}
use lib.IntN.{ℤ}
use lib.ListN.{length, get_or, get_or-map}
use denote.Ref.{Bor}
use Rattle.meaning.specs.Tables.{Feed, file_of, feed_of, filled}
use Rattle.meaning.specs.Outcome.{filled_from}
use Rattle.meaning.proofs.Arrays.{six_are}
use Rattle.marks.specs.Noted.{Noted, TripsNoted}
use Rattle.tables.specs.Fill.{Room, Fits, Covers, CoversAll}
use Rattle.tables.proofs.Feeds.{six}

-- what stands for an element that isn't there
abbrev pub none : Bor (List ℕ)
none = record { ref_ptr = (0, 0); now = [] }

-- the file behind element i
abbrev pub behind : List (Bor (List ℕ)) → ℕ → List ℕ
behind l i = (get_or l i none).now

-- a file of the feed lies behind its element
pub file_behind : (l : List (Bor (List ℕ))) (f i : ℕ) → f ≡ i + 1 → file_of (map (λ x. x.now) l) f ≡ behind l i
unfolding file_of
file_behind l f i e = let back : f - 1 ≡ i = omega (arith, e) in rw back (get_or-map (λ x. x.now) l i none)

-- six files are those behind six elements
pub six_behind :
    (l : List (Bor (List ℕ)))
    → length l ≡ 6
    → map (λ x. x.now) l ≡ behind l 0 ∷ behind l 1 ∷ behind l 2 ∷ behind l 3 ∷ behind l 4 ∷ behind l 5 ∷ []
six_behind l h = ap (map (λ x. x.now)) (six_are none l h)

-- the marks have an entry for each line of each element
pub cover_each : (l : List (Bor (List ℕ))) (m : List ℕ) → CoversAll m (map (λ x. x.now) l)
    → Covers m (behind l 0) × Covers m (behind l 1) × Covers m (behind l 2) × Covers m (behind l 3) × Covers m (behind l 4) × Covers m (behind l 5)
unfolding file_of
cover_each l m h = (each 0 (omega arith), each 1 (omega arith), each 2 (omega arith), each 3 (omega arith), each 4 (omega arith), each 5 (omega arith))
  where
    each : (i : ℕ) → i < 6 → Covers m (behind l i)
    each i low =
        let back : i + 1 - 1 ≡ i = omega arith in
        rw (get_or-map (λ x. x.now) l i none) at (rw back at (h (i + 1) (omega arith) (omega arith)))

module _ (l : List (Bor (List ℕ))) (t₁ t₂ t₃ t₄ t₅ t₆ : List ℤ) where
  -- the tables fit the elements
  pub fit_each : {P : Type 0}
      → (Room 1 (file_of (map (λ x. x.now) l) 1) t₁ × (Room 2 (file_of (map (λ x. x.now) l) 2) t₂ × (Fits 3 (file_of (map (λ x. x.now) l) 3) t₃
      × (Room 4 (file_of (map (λ x. x.now) l) 4) t₄ × (Room 5 (file_of (map (λ x. x.now) l) 5) t₅ × (Fits 6 (file_of (map (λ x. x.now) l) 6) t₆ × P))))))
      → (Room 1 (behind l 0) t₁ × (Room 2 (behind l 1) t₂ × (Fits 3 (behind l 2) t₃ × (Room 4 (behind l 3) t₄ × (Room 5 (behind l 4) t₅ × (Fits 6 (behind l 5) t₆ × P))))))
  unfolding file_of
  fit_each h =
      rw (get_or-map (λ x. x.now) l 0 none, get_or-map (λ x. x.now) l 1 none, get_or-map (λ x. x.now) l 2 none, get_or-map (λ x. x.now) l 3 none, get_or-map (λ x. x.now) l 4 none, get_or-map (λ x. x.now) l 5 none) at h

  abbrev w : Feed
  w = six (behind l 0) (behind l 1) (behind l 2) (behind l 3) (behind l 4) (behind l 5)

  -- tables that are filled one by one are filled
  pub all_filled : length l ≡ 6
      → (u₁ u₂ u₃ u₄ u₅ u₆ : List ℤ) (marks : List ℕ)
      → u₁ ≡ filled 1 w (behind l 0) t₁
      → u₂ ≡ filled 2 w (behind l 1) t₂
      → u₃ ≡ filled 3 w (behind l 2) t₃
      → u₄ ≡ filled 4 w (behind l 3) t₄
      → u₅ ≡ filled 5 w (behind l 4) t₅
      → u₆ ≡ filled 6 w (behind l 5) t₆
      → Noted w marks
      → TripsNoted w marks
      → (u₁ ∷ u₂ ∷ u₃ ∷ u₄ ∷ u₅ ∷ u₆ ∷ [] ≡ filled_from 1 (feed_of (map (λ x. x.now) l)) (map (λ x. x.now) l) (t₁ ∷ t₂ ∷ t₃ ∷ t₄ ∷ t₅ ∷ t₆ ∷ []))
      × (Noted (feed_of (map (λ x. x.now) l)) marks × TripsNoted (feed_of (map (λ x. x.now) l)) marks)
  unfolding filled_from
  all_filled h u₁ u₂ u₃ u₄ u₅ u₆ marks a b c d e g m n =
      rw (six_behind l h) (rw (a, b, c, d, e, g), (m, n))
