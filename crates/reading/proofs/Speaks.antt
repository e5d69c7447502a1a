-- The first broken claim of a list, a part of the list at a time.
use mathlib.Core.Path.{◌≡◌, refl, sym, ap, ◌∙◌}
use mathlib.Core.Bool.{Bool, true, false, cond}
use mathlib.Core.List.{List, [], ◌∷◌, ◌++◌}
use Prim.Native.Nat.{ℕ, ◌+◌}
use Rattle.meaning.specs.declared.Refusal.{Refusal}
use Rattle.std.specs.Prelude.{Option, Some, None, Result, Ok, Err}
use Rattle.meaning.specs.Refusals.{Test, Claim, refusal, speaks, on_line}
use Rattle.reading.specs.declared.Fault.{Fault}
use Rattle.reading.specs.Tests.{fault, first}
use Rattle.reading.specs.Wholes.{first_true, marked, or_else}

-- a fault at a place
abbrev pub told : Fault → ℕ → ℕ → Refusal
told t file line = record { number = t.rule; file = file; line = line; column = t.column }

-- the verdict on a place, by its fault
abbrev pub refused : Option Fault → ℕ → ℕ → Result Unit Refusal
refused None file line = Ok tt
refused (Some t) file line = Err (told t file line)

-- the verdict on whole files, by the first that breaks the rule
abbrev pub blamed : ℕ → Option ℕ → Result Unit Refusal
blamed number None = Ok tt
blamed number (Some f) = Err (record { number = number; file = f; line = 0; column = 0 })

-- one list after the other: the first speaks, or else the second
pub speaks_then : (a b : List Claim) → speaks (a ++ b) ≡ or_else (speaks a) (speaks b)
unfolding speaks or_else
speaks_then [] b = refl
speaks_then (p ∷ a) b = go p.broken (speaks_then a b)
  where
    go : (t : Bool) → speaks (a ++ b) ≡ or_else (speaks a) (speaks b)
        → cond t (Err (refusal p)) (speaks (a ++ b)) ≡ or_else (cond t (Err (refusal p)) (speaks a)) (speaks b)
    go true e = refl
    go false e = e

module _ (b a : List Claim) where
  pub then_stop : (r : Refusal) → speaks a ≡ Err r → speaks (a ++ b) ≡ Err r
  unfolding or_else
  then_stop r e = speaks_then a b ∙ ap (λ (v : Result Unit Refusal). or_else v (speaks b)) e

  pub then_on : speaks a ≡ Ok tt → speaks (a ++ b) ≡ speaks b
  unfolding or_else
  then_on e = speaks_then a b ∙ ap (λ (v : Result Unit Refusal). or_else v (speaks b)) e

-- three verdicts, one after the other
pub or_assoc : (u v w : Result Unit Refusal) → or_else (or_else u v) w ≡ or_else u (or_else v w)
unfolding or_else
or_assoc (Ok tt) v w = refl
or_assoc (Err r) v w = refl

pub or_none : (v : Result Unit Refusal) → or_else v (Ok tt) ≡ v
unfolding or_else
or_none (Ok tt) = refl
or_none (Err r) = refl

-- the tests of a line
module _ (f n : ℕ) where
  pub line_said : (ts : List Test) → speaks (on_line f n ts) ≡ refused (first ts) f n
  unfolding speaks on_line first
  line_said [] = refl
  line_said (u ∷ ts) = go u.broken (line_said ts)
    where
      go : (b : Bool) → speaks (on_line f n ts) ≡ refused (first ts) f n
          → cond b (Err (told (fault u.number u.column) f n)) (speaks (on_line f n ts)) ≡ refused (cond b (Some (fault u.number u.column)) (first ts)) f n
      go true e = refl
      go false e = e

  pub line_stop : (ts : List Test) (t : Fault) → Some t ≡ first ts → speaks (on_line f n ts) ≡ Err (told t f n)
  line_stop ts t e = line_said ts ∙ ap (λ (k : Option Fault). refused k f n) (sym e)

  pub line_on : (ts : List Test) → None ≡ first ts → speaks (on_line f n ts) ≡ Ok tt
  line_on ts e = line_said ts ∙ ap (λ (k : Option Fault). refused k f n) (sym e)

-- one rule over whole files
module _ (number : ℕ) where
  marks_said : (f : ℕ) (bs : List Bool) → speaks (marked number f bs) ≡ blamed number (first_true f bs)
  unfolding speaks marked first_true
  marks_said f [] = refl
  marks_said f (true ∷ bs) = refl
  marks_said f (false ∷ bs) = marks_said (f + 1) bs

  module _ (bs : List Bool) (rest : List Claim) where
    pub whole_stop : (x : ℕ) → Some x ≡ first_true 1 bs → Err (record { number = number; file = x; line = 0; column = 0 }) ≡ speaks (marked number 1 bs ++ rest)
    whole_stop x e = sym (then_stop rest (marked number 1 bs) _ (marks_said 1 bs ∙ ap (blamed number) (sym e)))

    pub whole_on : None ≡ first_true 1 bs → speaks rest ≡ speaks (marked number 1 bs ++ rest)
    whole_on e = sym (then_on rest (marked number 1 bs) (marks_said 1 bs ∙ ap (blamed number) (sym e)))
