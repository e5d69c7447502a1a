-- `text::has_tab_or_cr` meets its contract.
use Rattle.text.proofs.Chains.{stray_listed}
use Rattle.std.specs.List.{list_any}
use mathlib.Core.Path.{◌≡◌, sym, ◌∙◌}
use mathlib.Core.Bool.{true, false}
use lib.Dec.{eqb}
use Rattle.text.proofs.has_tab_or_cr.Goals as goal

pub returns-then-contains : goal.returns-then-contains
returns-then-contains c =
    let e : list_any (λ b. eqb b 9) c.args.s.now ≡ true = sym c.contains.ensures.value ∙ c.if-contains.true in
    rw (stray_listed c.args.s.now, e) c.if-contains.true

pub returns-else-contains : goal.returns-else-contains
returns-else-contains c =
    let e : list_any (λ b. eqb b 9) c.args.s.now ≡ false = sym c.contains.ensures.value ∙ c.if-contains.false in
    rw (stray_listed c.args.s.now, e) c.contains-else-contains.ensures.value
