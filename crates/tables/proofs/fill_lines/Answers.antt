-- `tables::fill_lines` meets its contract.
use Rattle.meaning.specs.Bytes.{part, lines_of}
use Rattle.meaning.specs.Columns.{places, header_of}
use Rattle.meaning.specs.Tables.{width_of}
use Rattle.text.proofs.Lines.{line_found, line_none}
use Rattle.text.proofs.Walk.{line_next}
use Rattle.tables.specs.Walk.{written}
use Rattle.records.specs.Waiting.{written_of}
use Rattle.records.proofs.Waiting.{written_wide}
use Rattle.tables.proofs.Turns.{three_wide, walk_inside, walk_room, walk_count, walk_size, walk_turn, walk_past, walk_end}
use Rattle.tables.proofs.Ids.{row_here}
use Rattle.tables.proofs.SecondWalk.{settled_here}
use mathlib.Core.Path.{refl, sym, ◌∙◌}
use native.Mathlib.Omega.{arith}
use Rattle.tables.proofs.fill_lines.Goals as goal

pub loop-line-init : goal.loop-line-init
loop-line-init c = ((omega arith, c.requires.le_f.1.1.lines), (c.requires.heading.after, ((refl, (refl, refl)), (c.requires.sought, λ w lent refs parents e. e))))

pub slice_bounds-put_record-count : goal.slice_bounds-put_record-count
slice_bounds-put_record-count c = (line_found _ _ _ _ _ (sym c.next_line.ensures ∙ c.in-Some.is)).ordered

pub slice_bounds-put_record-start : goal.slice_bounds-put_record-start
slice_bounds-put_record-start c = let h = line_found _ _ _ _ _ (sym c.next_line.ensures ∙ c.in-Some.is) in omega (arith, h.ordered)

pub slice_bounds-put_record-end : goal.slice_bounds-put_record-end
slice_bounds-put_record-end c = let h = line_found _ _ _ _ _ (sym c.next_line.ensures ∙ c.in-Some.is) in omega (arith, h.before, h.within)

pub put_record-requires : goal.put_record-requires
unfolding part
put_record-requires c =
    let h = line_found _ _ _ _ _ (sym c.next_line.ensures ∙ c.in-Some.is) in record {
      le_f = (c.requires.le_f.0, (c.requires.le_f.1.0, walk_size c.args.s.now c.loop-line.here c.loop-line.r c.loop-line.invariant.1.0 _ _ _ h _ c.requires.le_f.1.1.size));
      f_in_bounds = rw (← c.loop-line.invariant.1.1.0.0) at (walk_room c.args.s.now c.loop-line.here c.loop-line.r c.loop-line.invariant.1.0 _ _ _ h _ _ c.requires.le_f.1.1.room);
      count_le_max_lines = c.requires.count_le_max_lines;
      sought = c.loop-line.invariant.1.1.1.0;
    }

pub overflow_add-r : goal.overflow_add-r
overflow_add-r c =
    let h = line_found _ _ _ _ _ (sym c.next_line.ensures ∙ c.in-Some.is) in
    omega (arith, walk_count c.args.s.now c.loop-line.here c.loop-line.r c.loop-line.invariant.1.0 _ _ _ h (width_of c.args.f) _ (omega (arith, three_wide c.args.f c.requires.le_f.0 c.requires.le_f.1.0)) c.requires.le_f.1.1.room)

pub loop-line-smaller : goal.loop-line-smaller
loop-line-smaller c = let h = line_found _ _ _ _ _ (sym c.next_line.ensures ∙ c.in-Some.is) in omega (arith, h.starts, h.ordered, h.before, h.within)

pub loop-line-preserved : goal.loop-line-preserved
unfolding part
loop-line-preserved c =
    let f = c.args.f in
    let text = c.args.s.now in
    let h = line_found _ _ _ _ _ (sym c.next_line.ensures ∙ c.in-Some.is) in
    let inside = walk_inside text c.loop-line.here c.loop-line.r c.loop-line.invariant.1.0 _ _ _ h in (
      (omega arith, omega (arith, inside)),
      (
        line_next text _ c.loop-line.here c.loop-line.r c.loop-line.invariant.1.0 _ _ _ h,
        (
          (omega arith, (c.put_record.auto.a_memo ∙ c.loop-line.invariant.1.1.0.1.0, c.put_record.auto.b_memo ∙ c.loop-line.invariant.1.1.0.1.1)),
          (
            c.put_record.ensures.sought_2,
            λ w lent refs parents e.
                let is = c.loop-line.invariant.1.1.1.1 w lent refs parents e in
                let row = row_here f text c.loop-line.here c.loop-line.r c.loop-line.invariant.1.0 _ _ _ h c.loop-line.invariant.0.0 in
                walk_turn text c.loop-line.here c.loop-line.r c.loop-line.invariant.1.0 _ _ _ h f (written_of f w (places f (header_of (lines_of text)))) (written_wide f c.requires.le_f.0 c.requires.le_f.1.0 w _) _ _ lent c.loop-line.invariant.0.0 is
                (c.put_record.ensures.by_index w _ c.requires.heading.columns refs (settled_here f text c.requires.le_f.1.1.lines (written_of f w (places f (header_of (lines_of text)))) (written_wide f c.requires.le_f.0 c.requires.le_f.1.0 w _) w lent _ _ c.loop-line.r _ is e parents c.loop-line.invariant.0.0 inside row)),
          ),
        ),
      ),
    )

pub overflow_sub-result : goal.overflow_sub-result
overflow_sub-result c = omega (arith, c.loop-line.invariant.0.0)

pub returns : goal.returns
unfolding written
returns c =
    let f = c.args.f in
    let none = line_none _ _ (sym c.next_line.ensures ∙ c.in_default.is) in record {
      t_after = (λ w lent refs parents e.
          walk_end c.args.s.now c.loop-line.here c.loop-line.r c.loop-line.invariant.1.0 f (written_of f w (places f (header_of (lines_of c.args.s.now)))) (written_wide f c.requires.le_f.0 c.requires.le_f.1.0 w _) _ lent c.requires.le_f.1.1.lines none (c.loop-line.invariant.1.1.1.1 w lent refs parents e));
      result_value = omega (arith, walk_past c.args.s.now c.loop-line.here c.loop-line.r c.loop-line.invariant.1.0 none, c.loop-line.invariant.0.0, c.loop-line.invariant.0.1);
    }
