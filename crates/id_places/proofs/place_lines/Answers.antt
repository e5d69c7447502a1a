-- `id_places::place_lines` meets its contract.
use Rattle.meaning.specs.Bytes.{part}
use Rattle.text.proofs.Lines.{line_found, line_none}
use Rattle.text.proofs.Walk.{line_next}
use Rattle.id_places.proofs.Walk.{noted_first, turn_inside, turn_fits, turn_noted, turn_past}
use mathlib.Core.Path.{refl, sym, ◌∙◌}
use Prim.Native.Nat.{◌+◌, ◌*◌, ◌≤◌}
use native.Mathlib.Omega.{arith}
use lib.ListN.{length}
use Rattle.id_places.proofs.place_lines.Goals as goal

pub loop-line-init : goal.loop-line-init
loop-line-init c = ((omega arith, c.requires.bound.0), c.requires.at_value, refl, noted_first _ _ c.args.t.now)

pub slice_bounds-field_start-count : goal.slice_bounds-field_start-count
slice_bounds-field_start-count c = let h = line_found _ _ _ _ _ (sym c.next_line.ensures ∙ c.in-Some.is) in h.ordered

pub slice_bounds-field_start-start : goal.slice_bounds-field_start-start
slice_bounds-field_start-start c = let h = line_found _ _ _ _ _ (sym c.next_line.ensures ∙ c.in-Some.is) in omega (arith, h.ordered)

pub slice_bounds-field_start-end : goal.slice_bounds-field_start-end
slice_bounds-field_start-end c = let h = line_found _ _ _ _ _ (sym c.next_line.ensures ∙ c.in-Some.is) in omega (arith, h.before, h.within)

pub overflow_add-line : goal.overflow_add-line
unfolding part
overflow_add-line c = let h = line_found _ _ _ _ _ (sym c.next_line.ensures ∙ c.in-Some.is) in omega (arith, turn_fits c.args.s.now c.loop-line.here c.loop-line.r c.loop-line.invariant.1 _ _ _ h _ c.field_start-field.ensures.1 c.requires.bound.2)

pub put-requires : goal.put-requires
unfolding part
put-requires c =
    let h = line_found _ _ _ _ _ (sym c.next_line.ensures ∙ c.in-Some.is) in
    (omega arith, omega (arith, turn_inside c.args.s.now c.loop-line.here c.loop-line.r c.loop-line.invariant.1 _ _ _ h, c.loop-line.invariant.2, c.requires.bound.1), turn_fits c.args.s.now c.loop-line.here c.loop-line.r c.loop-line.invariant.1 _ _ _ h _ c.field_start-field.ensures.1 c.requires.bound.2)

pub overflow_add-r : goal.overflow_add-r
overflow_add-r c = let h = line_found _ _ _ _ _ (sym c.next_line.ensures ∙ c.in-Some.is) in omega (arith, turn_inside c.args.s.now c.loop-line.here c.loop-line.r c.loop-line.invariant.1 _ _ _ h, c.requires.bound.1)

pub loop-line-smaller : goal.loop-line-smaller
loop-line-smaller c = let h = line_found _ _ _ _ _ (sym c.next_line.ensures ∙ c.in-Some.is) in omega (arith, h.starts, h.ordered, h.before, h.within)

pub loop-line-preserved : goal.loop-line-preserved
unfolding part
loop-line-preserved c =
    let h = line_found _ _ _ _ _ (sym c.next_line.ensures ∙ c.in-Some.is) in
    let s = c.args.s.now in
    let i = turn_inside s c.loop-line.here c.loop-line.r c.loop-line.invariant.1 _ _ _ h in
    let room : (c.loop-line.r + 1) * 1 ≤ length c.loop-line.t = omega (arith, i, c.loop-line.invariant.2, c.requires.bound.1) in (
      (omega arith, omega (arith, i)),
      line_next s _ c.loop-line.here c.loop-line.r c.loop-line.invariant.1 _ _ _ h,
      omega arith,
      turn_noted s c.loop-line.here c.loop-line.r c.loop-line.invariant.1 _ _ _ h _ _ c.loop-line.t _ room c.field_start-field.ensures.0 c.put.ensures c.loop-line.invariant.3,
    )

pub returns : goal.returns
returns c =
    let all = turn_past c.args.s.now c.loop-line.here c.loop-line.r c.loop-line.invariant.1 (line_none _ _ (sym c.next_line.ensures ∙ c.in_default.is)) c.loop-line.invariant.0.1 in record {
      result_value = (omega (arith, all, c.loop-line.invariant.0.0), c.loop-line.invariant.2);
      by_index = λ k a b. c.loop-line.invariant.3 k a (omega (arith, b, c.loop-line.invariant.0.0));
    }
