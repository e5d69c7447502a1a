-- `columns::near_names` meets its contract.
use Rattle.columns.proofs.Standings.{near_first, near_next, near_last}
use Rattle.columns.proofs.Laws.{by_line_lem, inside_by, past_some}
use Rattle.meaning.specs.Bytes.{part}
use Rattle.columns.specs.Columns.{told}
use mathlib.Core.Path.{refl, ap, ◌∙◌}
use native.Mathlib.Omega.{arith}
use Rattle.columns.proofs.near_names.Goals as goal

pub loop-n-init : goal.loop-n-init
loop-n-init c = (0, refl, near_first _ _)

pub field_by-start-requires : goal.field_by-start-requires
field_by-start-requires c =
    let p = c.requires.count_value in
    (p.1, past_some _ _ _ p.0 p.2 p.1)

pub slice_bounds-named-count : goal.slice_bounds-named-count
slice_bounds-named-count c =
    let p = c.requires.count_value in
    (inside_by _ _ _ p.0 p.2 p.1 _ _ c.field_by-start.ensures).ordered

pub slice_bounds-named-start : goal.slice_bounds-named-start
slice_bounds-named-start c =
    let p = c.requires.count_value in
    let b = inside_by _ _ _ p.0 p.2 p.1 _ _ c.field_by-start.ensures in
    omega (arith, b.ordered, b.within)

pub slice_bounds-named-end : goal.slice_bounds-named-end
slice_bounds-named-end c =
    let p = c.requires.count_value in
    let b = inside_by _ _ _ p.0 p.2 p.1 _ _ c.field_by-start.ensures in
    omega (arith, b.ordered, b.within)

pub note_name-names-requires : goal.note_name-names-requires
note_name-names-requires c = c.named.ensures.1

pub loop-n-preserved : goal.loop-n-preserved
unfolding part
loop-n-preserved c =
    let p = c.requires.count_value in
    let m = c.loop-n.invariant in
    let e = c.note_name-names.ensures in
    (_, e.again_value m.0 m.1 (omega arith), near_next _ _ _ _ _ m.2 (omega arith) (omega (arith, p.0)) _ (c.field_by-start.ensures ∙ by_line_lem _ _ _ p.0 p.2 p.1 _) _ c.named.ensures.0 _ e.at_value _ refl)

pub returns : goal.returns
returns c =
    let m = c.loop-n.invariant in
    let e = near_last _ _ _ _ _ m.2 (omega (arith, c.requires.count_value.0)) in
    (e.0, m.1 ∙ ap told e.1)

pub returns-2 : goal.returns-2
unfolding part
returns-2 c =
    let p = c.requires.count_value in
    let m = c.loop-n.invariant in
    let e = c.note_name-names.ensures in
    let o = near_next _ _ _ _ _ m.2 (omega arith) (omega (arith, p.0)) _ (c.field_by-start.ensures ∙ by_line_lem _ _ _ p.0 p.2 p.1 _) _ c.named.ensures.0 _ e.at_value _ refl in
    let l = near_last _ _ _ _ _ o (omega (arith, p.0)) in
    (l.0, e.again_value m.0 m.1 (omega arith) ∙ ap told l.1)
