-- `index_write::Ranks::put_entries` meets its contract.
use Rattle.meaning.specs.Bytes.{part}
use Rattle.text.proofs.Lines.{line_found, line_none}
use Rattle.text.proofs.Walk.{line_next}
use Rattle.id_places.proofs.Own.{sized}
use Rattle.id_places.proofs.Walk.{turn_inside, turn_fits, turn_past}
use Rattle.index_write.proofs.Bytes.{within_self, within_trans}
use Rattle.index_write.proofs.Entries.{start_is, entered_turn, entered_none}
use mathlib.Core.Path.{◌≡◌, sym, ◌∙◌}
use Prim.Native.Nat.{◌+◌, ◌≤◌}
use native.Mathlib.Omega.{arith}
use Rattle.index_write.proofs.Ranks.put_entries.Goals as goal

pub loop-line-init : goal.loop-line-init
loop-line-init c = ((omega arith, omega arith), c.requires.at_value.0, within_self _ _ _, entered_none _ _ _ _ c.args.self.now.cells.now _)

pub slice_bounds-field_start-count : goal.slice_bounds-field_start-count
slice_bounds-field_start-count c = let h = line_found _ _ _ _ _ (sym c.next_line.ensures ∙ c.in-Some.is) in h.ordered

pub slice_bounds-field_start-start : goal.slice_bounds-field_start-start
slice_bounds-field_start-start c = let h = line_found _ _ _ _ _ (sym c.next_line.ensures ∙ c.in-Some.is) in omega (arith, h.ordered)

pub slice_bounds-field_start-end : goal.slice_bounds-field_start-end
slice_bounds-field_start-end c = let h = line_found _ _ _ _ _ (sym c.next_line.ensures ∙ c.in-Some.is) in omega (arith, h.before, h.within)

pub overflow_add-line : goal.overflow_add-line
unfolding part
overflow_add-line c = let h = line_found _ _ _ _ _ (sym c.next_line.ensures ∙ c.in-Some.is) in omega (arith, turn_fits c.args.self.now.bytes.now c.loop-line.here c.loop-line.r c.loop-line.invariant.1 _ _ _ h _ c.field_start-field.ensures.1 c.requires.bytes_len_bound.0)

pub put_entry-requires : goal.put_entry-requires
unfolding part
put_entry-requires c =
    let h = line_found _ _ _ _ _ (sym c.next_line.ensures ∙ c.in-Some.is) in
    let w = c.requires.reads.1 in
    let i : c.loop-line.r ≤ c.args.self.now.records = omega (arith, turn_inside c.args.self.now.bytes.now c.loop-line.here c.loop-line.r c.loop-line.invariant.1 _ _ _ h, w.count) in
    let e = start_is c.args.self.now.file c.args.self.now.bytes.now c.loop-line.here c.loop-line.r c.loop-line.invariant.1 _ _ _ h _ _ c.requires.at_value.1 c.field_start-field.ensures.0 in
    let q = w.every c.loop-line.r c.loop-line.invariant.0.0 i in record {
      room_at = (w.room, omega (arith, turn_fits c.args.self.now.bytes.now c.loop-line.here c.loop-line.r c.loop-line.invariant.1 _ _ _ h _ c.field_start-field.ensures.1 c.requires.bytes_len_bound.0));
      sorted = (w.sorted, w.apart, rw e q);
      wide = (omega (arith, c.loop-line.invariant.2.size, c.requires.reads.2), omega (arith, i, c.requires.bytes_len_bound.1), omega (arith, w.count, (sized _ _ c.requires.reads.0).few));
    }

pub overflow_add-r : goal.overflow_add-r
overflow_add-r c = let h = line_found _ _ _ _ _ (sym c.next_line.ensures ∙ c.in-Some.is) in omega (arith, turn_inside c.args.self.now.bytes.now c.loop-line.here c.loop-line.r c.loop-line.invariant.1 _ _ _ h, c.requires.reads.1.count, c.requires.bytes_len_bound.1)

pub loop-line-smaller : goal.loop-line-smaller
loop-line-smaller c = let h = line_found _ _ _ _ _ (sym c.next_line.ensures ∙ c.in-Some.is) in omega (arith, h.starts, h.ordered, h.before, h.within)

pub loop-line-preserved : goal.loop-line-preserved
unfolding part
loop-line-preserved c =
    let h = line_found _ _ _ _ _ (sym c.next_line.ensures ∙ c.in-Some.is) in
    let w = c.requires.reads.1 in
    let i : c.loop-line.r ≤ c.args.self.now.records = omega (arith, turn_inside c.args.self.now.bytes.now c.loop-line.here c.loop-line.r c.loop-line.invariant.1 _ _ _ h, w.count) in
    let e = start_is c.args.self.now.file c.args.self.now.bytes.now c.loop-line.here c.loop-line.r c.loop-line.invariant.1 _ _ _ h _ _ c.requires.at_value.1 c.field_start-field.ensures.0 in
    let q = c.put_entry.ensures in (
      (omega arith, omega (arith, i)),
      line_next c.args.self.now.bytes.now _ c.loop-line.here c.loop-line.r c.loop-line.invariant.1 _ _ _ h,
      within_trans c.loop-line.invariant.2 q.within,
      entered_turn c.args.self.now.version c.args.self.now.file c.args.self.now.bytes.now c.requires.reads.0 c.args.self.now.records c.args.self.now.cells.now w c.loop-line.r c.loop-line.invariant.0.0 i _ _ c.loop-line.invariant.3 (rw e at q),
    )

pub returns : goal.returns
returns c =
    let all = turn_past c.args.self.now.bytes.now c.loop-line.here c.loop-line.r c.loop-line.invariant.1 (line_none _ _ (sym c.next_line.ensures ∙ c.in_default.is)) (omega (arith, c.loop-line.invariant.0.1, c.requires.reads.1.count)) in
    let e : c.loop-line.r ≡ c.args.self.now.records + 1 = omega (arith, all, c.requires.reads.1.count) in
    (rw e at c.loop-line.invariant.3, c.loop-line.invariant.2)
