-- The first broken rule of a file by itself, test by test.
use mathlib.Core.Path.{◌≡◌, refl}
use mathlib.Core.Bool.{Bool, true, false, cond, not, ◌&&◌}
use mathlib.Core.List.{List, [], ◌∷◌}
use Prim.Native.Nat.{ℕ, suc, ◌<◌, ◌≤◌}
use native.Mathlib.Omega.{arith}
use lib.Dec.{eqb}
use lib.ListN.{length}
use borrow.Author.Tests.{ne_eqb, lt-ltb, le-ltb, eqb-true}
use Rattle.std.specs.Prelude.{Result, Err}
use Rattle.meaning.specs.declared.Refusal.{Refusal}
use Rattle.meaning.specs.Lists.{empty}
use Rattle.meaning.specs.Bytes.{count_lf, lines_of}
use Rattle.meaning.specs.Tables.{file_of}
use Rattle.meaning.specs.Refusals.{max_bytes, max_lines, rule1, rule2, may_lack, ended, rule4, in_file, speaks}
use Rattle.indexes.specs.Index.{lone_claims, lone_verdict}

-- the refusal of a whole file
abbrev pub whole : ℕ → ℕ → Result Unit Refusal
whole n f = Err (record { number = n; file = f; line = 0; column = 0 })

-- no other file stands beside it, so that none of files 1 to 4 may be empty
lacks_none : (f : ℕ) → f < 5 → may_lack [] f ≡ false
unfolding may_lack empty file_of
lacks_none f h = rw (ne_eqb f 6 (λ e. omega arith)) (go (eqb f 3))
  where
    go : (t : Bool) → (t && false) ≡ false
    go true = refl
    go false = refl

-- an empty file has no last byte
empty_unended : (s : List ℕ) → empty s ≡ true → ended s ≡ false
unfolding empty ended
empty_unended [] h = refl
empty_unended (b ∷ r) h = let z : suc (length r) ≡ 0 = eqb-true _ _ h in absurd (omega arith)

rule4_is : (f : ℕ) (s : List ℕ) → f < 5 → rule4 [] f s 0 ≡ not (ended s)
unfolding rule4
rule4_is f s h = go (empty s) refl
  where
    go : (t : Bool) → empty s ≡ t → cond t (not (may_lack [] f)) (not (ended s)) ≡ not (ended s)
    go true e = rw (lacks_none f h, empty_unended s e)
    go false e = refl

module _ (f : ℕ) (s : List ℕ) (v : Result Unit Refusal) where
  pub long : max_bytes < length s → v ≡ whole 1 f → v ≡ lone_verdict f s
  unfolding lone_verdict lone_claims speaks rule1
  long h e = rw (lt-ltb max_bytes (length s) h) e

  module _ (short : length s ≤ max_bytes) where
    pub many : max_lines < count_lf s → v ≡ whole 2 f → v ≡ lone_verdict f s
    unfolding lone_verdict lone_claims speaks rule1 rule2
    many h e = rw (le-ltb max_bytes (length s) short, lt-ltb max_lines (count_lf s) h) e

    module _ (few : count_lf s ≤ max_lines) (low : f < 5) where
      pub unended : ended s ≡ false → v ≡ whole 4 f → v ≡ lone_verdict f s
      unfolding lone_verdict lone_claims speaks rule1 rule2
      unended h e = rw (le-ltb max_bytes (length s) short, le-ltb max_lines (count_lf s) few, rule4_is f s low, h) e

      pub lines : ended s ≡ true → v ≡ speaks (in_file f (lines_of s)) → v ≡ lone_verdict f s
      unfolding lone_verdict lone_claims speaks rule1 rule2
      lines h e = rw (le-ltb max_bytes (length s) short, le-ltb max_lines (count_lf s) few, rule4_is f s low, h) e
