-- `columns::wide_cells` meets its contract.
use Rattle.columns.proofs.Laws.{seen_first, seen_turn, seen_last, field_here, field_next, fields_over, fields_first}
use Rattle.columns.specs.Columns.{fields_at}
use Rattle.text.proofs.Fields.{field_found, field_none}
use mathlib.Core.Path.{◌≡◌, sym, ◌∙◌}
use Prim.Native.Nat.{◌≤◌}
use native.Mathlib.Omega.{arith}
use lib.ListN.{length}
use Rattle.columns.proofs.wide_cells.Goals as goal

pub loop-field-init : goal.loop-field-init
loop-field-init c =
    let w : length c.args.at ≡ 10 = omega arith in
    (omega arith, omega arith, omega arith, fields_first _ _ c.new-c.ensures.0, seen_first _ _ 10 w)

pub overflow_add-n : goal.overflow_add-n
overflow_add-n c =
    let s = field_found _ _ _ _ _ (sym c.next.ensures ∙ c.in-Some.is) in
    omega arith

pub loop-field-smaller : goal.loop-field-smaller
loop-field-smaller c =
    let s = field_found _ _ _ _ _ (sym c.next.ensures ∙ c.in-Some.is) in
    omega arith

pub loop-field-preserved : goal.loop-field-preserved
loop-field-preserved c =
    let i = c.loop-field.invariant in
    let w : length c.args.at ≤ 10 = omega (arith, c.well_formed) in
    let s = field_found _ _ _ _ _ (sym c.next.ensures ∙ c.in-Some.is) in
    let h = field_here _ _ _ i.1 i.3 _ _ _ s in (
      omega arith,
      omega arith,
      omega arith,
      field_next _ _ _ i.1 i.3 _ _ _ s,
      c.note_field.ensures ∙ rw i.4 (seen_turn _ _ _ 10 _ w (rw h)),
    )

pub returns : goal.returns
unfolding fields_at
returns c =
    let i = c.loop-field.invariant in
    let o = fields_over _ _ _ i.1 i.3 (field_none _ _ (sym c.next.ensures ∙ c.in_default.is)) in
    i.4 ∙ seen_last _ _ _ o
