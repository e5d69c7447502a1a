-- What the known columns of a file ask is one list, and the column that a value names is one.
use Rattle.std.specs.Prelude.{Option, Some, None}
use mathlib.Core.Path.{◌≡◌, refl, sym, ap, ◌∙◌}
use Prim.Native.Nat.{ℕ, ◌+◌, ◌<◌}
use native.Mathlib.Omega.{arith}
use lib.Seq.{ext_get_or}
use Rattle.meaning.specs.Columns.{unknown}
use Rattle.schema.specs.AllKnown.{OneKnown}
use Rattle.schema.specs.Named.{counted}

pub one_known : OneKnown
one_known f a b e g p q = ext_get_or unknown.column a b (e ∙ sym g) (λ k h. p k (below e h) ∙ sym (q k (below e h)))
  where
    below : {n k : ℕ} → n ≡ 10 → k < n → k < 10
    below e h = omega arith

pub one_named : (a b : Option ℕ) → counted a ≡ counted b → a ≡ b
one_named None None e = refl
one_named None (Some k) e = absurd (omega arith)
one_named (Some j) None e = absurd (omega arith)
one_named (Some j) (Some k) e = let same : j ≡ k = omega arith in ap Some same
