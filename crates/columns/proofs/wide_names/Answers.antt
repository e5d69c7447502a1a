-- `columns::wide_names` meets its contract.
use Rattle.columns.proofs.Standings.{walk_first, walk_next, walk_last}
use Rattle.text.proofs.Fields.{field_found, values_none}
use Rattle.meaning.specs.Bytes.{part}
use Rattle.columns.specs.Columns.{told}
use mathlib.Core.Path.{refl, sym, ap, ◌∙◌}
use native.Mathlib.Omega.{arith}
use Rattle.columns.proofs.wide_names.Goals as goal

pub loop-field-init : goal.loop-field-init
loop-field-init c = (omega arith, omega arith, omega arith, (0, refl, walk_first _ _ _ c.new-c.ensures.0))

pub slice_bounds-named-count : goal.slice_bounds-named-count
slice_bounds-named-count c =
    let s = field_found _ _ _ _ _ (sym c.next.ensures ∙ c.in-Some.is) in
    omega (arith, s.ordered)

pub slice_bounds-named-start : goal.slice_bounds-named-start
slice_bounds-named-start c =
    let s = field_found _ _ _ _ _ (sym c.next.ensures ∙ c.in-Some.is) in
    omega (arith, s.ordered, s.within)

pub slice_bounds-named-end : goal.slice_bounds-named-end
slice_bounds-named-end c =
    let s = field_found _ _ _ _ _ (sym c.next.ensures ∙ c.in-Some.is) in
    omega (arith, s.ordered, s.within)

pub note_name-names-requires : goal.note_name-names-requires
note_name-names-requires c = c.named.ensures.1

pub overflow_add-n : goal.overflow_add-n
overflow_add-n c =
    let s = field_found _ _ _ _ _ (sym c.next.ensures ∙ c.in-Some.is) in
    omega (arith, c.loop-field.invariant.0, c.loop-field.invariant.1)

pub loop-field-smaller : goal.loop-field-smaller
loop-field-smaller c =
    let s = field_found _ _ _ _ _ (sym c.next.ensures ∙ c.in-Some.is) in
    omega (arith, s.starts, s.ordered, s.within, s.moves)

pub loop-field-preserved : goal.loop-field-preserved
unfolding part
loop-field-preserved c =
    let s = field_found _ _ _ _ _ (sym c.next.ensures ∙ c.in-Some.is) in
    let i = c.loop-field.invariant in
    let e = c.note_name-names.ensures in
    let m = i.3 in (
      omega (arith, s.within, s.moves),
      omega (arith, i.1, s.starts, s.ordered, s.moves),
      omega arith,
      (_, e.again_value m.0 m.1 i.2, walk_next _ _ _ _ _ _ m.2 i.2 _ _ _ s _ c.named.ensures.0 _ e.at_value _ refl),
    )

pub returns : goal.returns
returns c =
    let m = c.loop-field.invariant.3 in
    let e = walk_last _ _ _ _ _ _ m.2 (values_none _ _ (sym c.next.ensures ∙ c.in_default.is)) in
    (e.0, m.1 ∙ ap told e.1)
