-- The second walk along a file: what a field that waited names stands in its record already when the walk comes there, and what was lent past the records stays.
use mathlib.Core.Path.{◌≡◌, sym, ap, ◌∙◌}
use mathlib.Core.Bool.{true}
use mathlib.Core.List.{List, []}
use Prim.Native.Nat.{ℕ, ◌*◌, ◌-◌, ◌≤◌, ◌<◌}
use native.Mathlib.Omega.{arith}
use native.Mathlib.Nat.{mul-le-mul_right}
use lib.IntN.{ℤ, pos}
use lib.ListN.{length, get_or, take}
use lib.Seq.{length-take-le}
use Rattle.meaning.specs.Lists.{flat, laid}
use Rattle.meaning.specs.Bytes.{Line, count_lf, lines_of}
use Rattle.meaning.specs.Columns.{places, header_of, row_of, rows_of}
use Rattle.meaning.specs.Tables.{Feed, width_of, record_of, filled}
use Rattle.rows.proofs.Records.{flat_length, wide_take, record_wide}
use Rattle.records.specs.Waiting.{waits, last_of, named_of}
use Rattle.tables.specs.Walk.{tabled, Beyond, Settled}
use Rattle.tables.proofs.Past.{laid_rest, laid_past}
use Rattle.tables.proofs.Turns.{wide, table_length}
use Rattle.tables.proofs.Written.{records_are}

-- what g makes of each line, each as wide as the file's records
module _ (f : ℕ) (s : List ℕ) (some : 1 ≤ count_lf s) (g : Line → List ℤ) (long : (x : Line) → length (g x) ≡ width_of f) where
  -- how many numbers the first k records have
  pub taken_length : (k : ℕ) → k ≤ count_lf s → length (flat (take k (tabled f g s))) ≡ k * width_of f
  taken_length k h =
      flat_length (width_of f) (take k (tabled f g s)) (wide_take (width_of f) k (tabled f g s) (wide f s g long))
      ∙ ap (λ (n : ℕ). n * width_of f) (length-take-le k (tabled f g s) (omega (arith, table_length f s g long some)))

  pub all_length : length (flat (tabled f g s)) ≡ count_lf s * width_of f
  all_length =
      flat_length (width_of f) (tabled f g s) (wide f s g long)
      ∙ ap (λ (n : ℕ). n * width_of f) (table_length f s g long some)

  -- the last number of a record is as it was lent until the walk has come there
  pub settled_here :
      (w : Feed) (lent t t₀ : List ℤ) (r : ℕ) (l : List ℕ)
      → t ≡ laid (flat (take r (tabled f g s))) lent
      → t₀ ≡ laid (flat (take 1 (tabled f g s))) lent
      → Settled f w s t₀
      → 1 ≤ r
      → r < count_lf s
      → row_of (places f (header_of (lines_of s))) l ≡ get_or (rows_of f s) (r - 1) []
      → waits f ≡ true
      → get_or t (last_of f r) (pos 0) ≡ pos (named_of f w (row_of (places f (header_of (lines_of s))) l))
  unfolding Settled
  settled_here w lent t t₀ r l is first settled low inside row wait =
      let m : 1 * width_of f ≤ r * width_of f = mul-le-mul_right {m = 1} {n = r} (width_of f) low in
      let x : get_or t (last_of f r) (pos 0) ≡ get_or lent (last_of f r) (pos 0) =
      rw is (laid_rest (flat (take r (tabled f g s))) lent (last_of f r) (omega (arith, taken_length r (omega arith)))) in
      let y : get_or t₀ (last_of f r) (pos 0) ≡ get_or lent (last_of f r) (pos 0) =
      rw first (laid_rest (flat (take 1 (tabled f g s))) lent (last_of f r) (omega (arith, taken_length 1 some))) in
      rw row (x ∙ sym y ∙ settled wait r low inside)

-- a table is filled the same, whatever stood where its records go
pub filled_beyond :
    (f : ℕ) → 1 ≤ f → f ≤ 6 → (w : Feed) (s : List ℕ) → 1 ≤ count_lf s → (t u : List ℤ)
    → Beyond (count_lf s * width_of f) t u → filled f w s u ≡ filled f w s t
unfolding filled
filled_beyond f low high w s some t u p =
    rw (records_are f w s some)
    (laid_past (flat (tabled f by_record s)) t u
    (rw (all_length f s some by_record (λ x. record_wide f w (places f (header_of (lines_of s))) x low (omega arith))) p))
  where
    by_record : Line → List ℤ
    by_record = record_of f w (places f (header_of (lines_of s)))
