-- What a file's header tells a walk along its lines.
use mathlib.Core.Path.{◌≡◌, ap, ◌∙◌}
use mathlib.Core.List.{List}
use Prim.Native.Nat.{ℕ}
use lib.ListN.{get_or}
use Rattle.meaning.specs.Bytes.{bounds, part, values, start_of, lines_of}
use Rattle.meaning.specs.Columns.{header_of}
use Rattle.text.specs.Lines.{LineStands}
use Rattle.text.proofs.Walk.{header_is, header_past}
use Rattle.columns.specs.Columns.{places_of}
use Rattle.columns.specs.Heading.{Heading}
use Rattle.columns.proofs.Laws.{places_at}

-- the header's line
pub header_found :
    (s : List ℕ) (at : ℕ)
    → at ≡ start_of s
    → (f : ℕ) (known : List ℕ) (a e n : ℕ)
    → LineStands s at a e n
    → known ≡ places_of f (values (part s (bounds a e)))
    → Heading f s known n
header_found s at starts f known a e n stands p = record {
  after = header_past s at starts a e n stands;
  columns = λ k. ap (λ ps. get_or ps k 0) (p ∙ ap (places_of f) (header_is s at starts a e n stands)) ∙ places_at f (header_of (lines_of s)) k;
}
