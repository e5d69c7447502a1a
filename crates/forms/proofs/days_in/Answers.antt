-- `forms::days_in` meets its contract.
use Rattle.meaning.specs.Forms.{leap, days_in, month_days}
use Rattle.std.proofs.Common.{◌≡◌, true, false, eq-eqb, ne_eqb, sym, ◌∙◌}
use Rattle.forms.proofs.days_in.Goals as goal
use Rattle.forms.proofs.days_in.Goals.{else-m-eq2-via-then-m-eq2+else-is_leap, else-m-eq2-via-else-m-eq2}

pub returns-then-is_leap : goal.returns-then-is_leap
unfolding days_in
returns-then-is_leap c =
    let e : leap c.args.y ≡ true = sym c.is_leap.ensures ∙ c.if-is_leap.true in
    rw (eq-eqb _ _ c.if-m-eq2.true, e)

pub returns-else-m-eq2 : goal.returns-else-m-eq2
unfolding days_in month_days
returns-else-m-eq2 c =
    elim c.else-m-eq2.branch [
      | else-m-eq2-via-then-m-eq2+else-is_leap w ↦
          let e : leap c.args.y ≡ false = sym w.is_leap.ensures ∙ w.if-is_leap.false in
          rw (eq-eqb _ _ w.if-m-eq2.true, e)
      | else-m-eq2-via-else-m-eq2 w ↦ rw (ne_eqb _ _ w.if-m-eq2.false)
    ]
