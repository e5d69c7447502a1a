-- `columns::field_start` meets its contract.
use Rattle.columns.proofs.Laws.{field_here, field_next, fields_over, fields_first, field_absent}
use Rattle.text.proofs.Fields.{field_found, field_none}
use Rattle.meaning.specs.declared.Bounds.{Bounds}
use mathlib.Core.Path.{sym, ap, ◌∙◌}
use native.Mathlib.Omega.{arith}
use Rattle.columns.proofs.field_start.Goals as goal

pub loop-field-init : goal.loop-field-init
loop-field-init c = (omega arith, omega arith, omega arith, fields_first _ _ c.new-c.ensures.0, λ h. omega arith)

pub returns-then-n-p : goal.returns-then-n-p
returns-then-n-p c =
    let i = c.loop-field.invariant in
    let s = field_found _ _ _ _ _ (sym c.next.ensures ∙ c.in-Some.is) in
    let h = field_here _ _ _ i.1 i.3 _ _ _ s in
    (rw (← c.if-n-p.true) (sym (ap (λ (q : Bounds). q.start) h)), omega (arith, s.ordered, s.within))

pub overflow_add-n : goal.overflow_add-n
overflow_add-n c =
    let s = field_found _ _ _ _ _ (sym c.next.ensures ∙ c.in-Some.is) in
    omega arith

pub loop-field-smaller : goal.loop-field-smaller
loop-field-smaller c =
    let s = field_found _ _ _ _ _ (sym c.next.ensures ∙ c.in-Some.is) in
    omega arith

pub loop-field-preserved : goal.loop-field-preserved
loop-field-preserved c =
    let i = c.loop-field.invariant in
    let s = field_found _ _ _ _ _ (sym c.next.ensures ∙ c.in-Some.is) in (
      omega arith,
      omega arith,
      omega arith,
      field_next _ _ _ i.1 i.3 _ _ _ s,
      λ h. i.4 (omega (arith, h, c.if-n-p.false)),
    )

pub returns : goal.returns
returns c =
    let i = c.loop-field.invariant in
    let o = fields_over _ _ _ i.1 i.3 (field_none _ _ (sym c.next.ensures ∙ c.in_default.is)) in
    (field_absent _ _ _ o i.4, omega arith)
