-- `text::line_to` meets its contract.
use Rattle.text.proofs.Lines.{to_none, to_cr, to_lf_lem, to_empty}
use Rattle.text.proofs.line_to.Goals as goal
use Rattle.text.proofs.line_to.Goals.{then-at-e+then-s-e-eq13, else-at-e, else-at-e-via-then-at-e+else-s-e-eq13, else-at-e-via-else-at-e}

pub returns-then-s-e : goal.returns-then-s-e
returns-then-s-e c = to_none _ _ _ c.if-s-e.true

pub returns : goal.returns
returns c =
    elim c.if-at-e.branch [
      | then-at-e+then-s-e-eq13 w ↦ rw w.end-is (to_cr _ _ _ c.if-s-e.false w.if-at-e.true w.if-s-e-eq13.true)
      | else-at-e w ↦
          rw w.end-is
          (elim w.else-at-e.branch [
            | else-at-e-via-then-at-e+else-s-e-eq13 v ↦ to_lf_lem _ _ _ c.if-s-e.false v.if-at-e.true v.if-s-e-eq13.false
            | else-at-e-via-else-at-e v ↦ to_empty _ _ _ c.if-s-e.false v.if-at-e.false
          ])
    ]
