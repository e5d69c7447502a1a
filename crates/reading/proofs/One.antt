-- What `text_rule` says of a rule, it says of one.
use Rattle.std.specs.Prelude.{ℕ, Option, Some, None, ◌≡◌, refl}
use Rattle.std.proofs.lemmas.Option.{same_Some, none-some}
use mathlib.Core.Path.{sym, ap}
use Rattle.reading.specs.declared.Fault.{Fault}
use Rattle.reading.specs.Tests.{of_rule}

pub one_rule : (a b : Option ℕ) → of_rule a ≡ of_rule b → a ≡ b
one_rule None None e = refl
one_rule None (Some m) e = absurd (none-some _ e)
one_rule (Some n) None e = absurd (none-some _ (sym e))
one_rule (Some n) (Some m) e = ap Some (ap (λ (t : Fault). t.rule) (same_Some _ _ e))
