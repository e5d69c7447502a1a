-- `forms::date_text` meets its contract.
use Rattle.forms.proofs.Laws.{chosen}
use Rattle.meaning.specs.Forms.{date_text}
use Rattle.std.proofs.Common.{eq-eqb, ne_eqb, sym, ◌∙◌}
use Rattle.forms.proofs.date_text.Goals as goal

pub returns-then-v-ne8 : goal.returns-then-v-ne8
unfolding date_text
returns-then-v-ne8 c = rw (ne_eqb _ _ c.if-v-ne8.true)

pub returns-in_err-n : goal.returns-in_err-n
unfolding date_text
returns-in_err-n c =
    let e = sym c.number.ensures.0 ∙ c.in_err-n.was in
    rw (eq-eqb _ _ c.if-v-ne8.false, e) c.from_residual.ensures

pub returns : goal.returns
unfolding date_text
returns c =
    let e = sym c.number.ensures.0 ∙ c.in_ok-n.was in
    rw (eq-eqb _ _ c.if-v-ne8.false, e, ← c.is_day.ensures) (c.then_some.ensures ∙ chosen _ _)
