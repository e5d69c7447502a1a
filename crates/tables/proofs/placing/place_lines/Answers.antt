-- `tables::placing::place_lines` meets its contract.
use Rattle.meaning.specs.Bytes.{part, count_lf, lines_of}
use Rattle.meaning.specs.Columns.{places, header_of}
use Rattle.meaning.specs.Tables.{width_of}
use Rattle.text.proofs.Lines.{line_found, line_none}
use Rattle.text.proofs.Walk.{line_next}
use Rattle.tables.specs.Walk.{placing}
use Rattle.tables.proofs.Turns.{eight_wide, three_wide, walk_inside, walk_room, walk_count, walk_size, walk_turn, walk_past, walk_end}
use Rattle.tables.proofs.Written.{placing_wide}
use Rattle.tables.proofs.Ids.{row_here}
use Rattle.tables.proofs.Marking.{telling_start, telling_turn}
use mathlib.Core.Path.{◌≡◌, refl, sym, ◌∙◌}
use native.Mathlib.Omega.{arith}
use Rattle.tables.proofs.placing.place_lines.Goals as goal

pub loop-line-init : goal.loop-line-init
loop-line-init c = ((omega arith, c.requires.le_f.1.1.lines), (c.requires.heading.after, (refl, ((λ lent e. e), telling_start _ _ _))))

pub slice_bounds-place_line-count : goal.slice_bounds-place_line-count
slice_bounds-place_line-count c = (line_found _ _ _ _ _ (sym c.next_line.ensures ∙ c.in-Some.is)).ordered

pub slice_bounds-place_line-start : goal.slice_bounds-place_line-start
slice_bounds-place_line-start c = let h = line_found _ _ _ _ _ (sym c.next_line.ensures ∙ c.in-Some.is) in omega (arith, h.ordered)

pub slice_bounds-place_line-end : goal.slice_bounds-place_line-end
slice_bounds-place_line-end c = let h = line_found _ _ _ _ _ (sym c.next_line.ensures ∙ c.in-Some.is) in omega (arith, h.before, h.within)

pub place_line-requires : goal.place_line-requires
unfolding part
place_line-requires c =
    let h = line_found _ _ _ _ _ (sym c.next_line.ensures ∙ c.in-Some.is) in (
      c.requires.le_f.1.0,
      (
        walk_size c.args.s.now c.loop-line.here c.loop-line.r c.loop-line.invariant.1.0 _ _ _ h _ c.requires.le_f.1.1.size,
        rw (← c.loop-line.invariant.1.1.0) at (walk_room c.args.s.now c.loop-line.here c.loop-line.r c.loop-line.invariant.1.0 _ _ _ h _ _ c.requires.le_f.1.1.room),
      ),
    )

pub overflow_add-r : goal.overflow_add-r
overflow_add-r c =
    let h = line_found _ _ _ _ _ (sym c.next_line.ensures ∙ c.in-Some.is) in
    omega (arith, walk_count c.args.s.now c.loop-line.here c.loop-line.r c.loop-line.invariant.1.0 _ _ _ h (width_of c.args.f) _ (omega (arith, three_wide c.args.f c.requires.le_f.0 c.requires.le_f.1.0)) c.requires.le_f.1.1.room)

pub loop-line-smaller : goal.loop-line-smaller
loop-line-smaller c = let h = line_found _ _ _ _ _ (sym c.next_line.ensures ∙ c.in-Some.is) in omega (arith, h.starts, h.ordered, h.before, h.within)

pub loop-line-preserved : goal.loop-line-preserved
unfolding part
loop-line-preserved c =
    let f = c.args.f in
    let h = line_found _ _ _ _ _ (sym c.next_line.ensures ∙ c.in-Some.is) in
    let put = c.place_line.ensures _ c.requires.heading.columns in (
      (omega arith, omega (arith, walk_inside c.args.s.now c.loop-line.here c.loop-line.r c.loop-line.invariant.1.0 _ _ _ h)),
      (
        line_next c.args.s.now _ c.loop-line.here c.loop-line.r c.loop-line.invariant.1.0 _ _ _ h,
        (
          omega arith,
          (
            (λ lent e.
                walk_turn c.args.s.now c.loop-line.here c.loop-line.r c.loop-line.invariant.1.0 _ _ _ h f (placing f (places f (header_of (lines_of c.args.s.now)))) (λ x. placing_wide f _ x (eight_wide f)) _ _ lent c.loop-line.invariant.0.0 (c.loop-line.invariant.1.1.1.0 lent e) put.0),
            telling_turn _ _ _ c.loop-line.r _ _ c.loop-line.invariant.0.0 c.loop-line.invariant.1.1.1.1 (rw (row_here f c.args.s.now c.loop-line.here c.loop-line.r c.loop-line.invariant.1.0 _ _ _ h c.loop-line.invariant.0.0) at put.1),
          ),
        ),
      ),
    )

pub overflow_sub-result : goal.overflow_sub-result
overflow_sub-result c = omega (arith, c.loop-line.invariant.0.0)

pub returns : goal.returns
returns c =
    let f = c.args.f in
    let none = line_none _ _ (sym c.next_line.ensures ∙ c.in_default.is) in
    let past = walk_past c.args.s.now c.loop-line.here c.loop-line.r c.loop-line.invariant.1.0 none in
    let all : c.loop-line.r ≡ count_lf c.args.s.now = omega (arith, past, c.loop-line.invariant.0.1) in record {
      t_after = (λ lent e. walk_end c.args.s.now c.loop-line.here c.loop-line.r c.loop-line.invariant.1.0 f (placing f (places f (header_of (lines_of c.args.s.now)))) (λ x. placing_wide f _ x (eight_wide f)) _ lent c.requires.le_f.1.1.lines none (c.loop-line.invariant.1.1.1.0 lent e));
      telling = rw all at c.loop-line.invariant.1.1.1.1;
      result_value = omega (arith, all, c.loop-line.invariant.0.0);
    }
