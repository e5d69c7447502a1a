-- `file_faults::list_later` meets its contract. The loop's invariant: what is left of the faults brings the list to what all of them are to bring it to.
use mathlib.Core.Path.{refl, sym, ◌∙◌}
use native.Mathlib.Omega.{arith}
use Rattle.meaning.specs.Bytes.{part}
use Rattle.file_faults.proofs.Steps.{any_found, any_none}
use Rattle.file_faults.proofs.Walk.{left_next, left_last}
use Rattle.file_faults.proofs.list_later.Goals as goal

pub loop-line-init : goal.loop-line-init
loop-line-init c = ((refl, refl), (λ h k. refl, (omega arith, (omega arith, (omega arith, omega arith)))))

pub slice_bounds-list_line-count : goal.slice_bounds-list_line-count
slice_bounds-list_line-count c =
    let s = any_found _ _ _ _ _ (sym c.any_line.ensures ∙ c.in-Some.is) in
    omega (arith, s.ordered)

pub slice_bounds-list_line-start : goal.slice_bounds-list_line-start
slice_bounds-list_line-start c =
    let s = any_found _ _ _ _ _ (sym c.any_line.ensures ∙ c.in-Some.is) in
    omega (arith, s.ordered, s.within)

pub slice_bounds-list_line-end : goal.slice_bounds-list_line-end
slice_bounds-list_line-end c =
    let s = any_found _ _ _ _ _ (sym c.any_line.ensures ∙ c.in-Some.is) in
    omega (arith, s.ordered, s.within)

pub list_line-requires : goal.list_line-requires
list_line-requires c =
    let s = any_found _ _ _ _ _ (sym c.any_line.ensures ∙ c.in-Some.is) in
    let l = c.loop-line.invariant.1.1 in record {
      n_bound = (omega (arith, l.1.0, s.further, s.inside, c.requires.f_bound.1.0), omega (arith, l.1.1.0, l.1.1.1, c.requires.f_bound.1.0, c.requires.f_bound.1.1));
      header = rw c.all_known-known.ensures c.requires.header;
    }

pub overflow_add-n : goal.overflow_add-n
overflow_add-n c =
    let s = any_found _ _ _ _ _ (sym c.any_line.ensures ∙ c.in-Some.is) in
    omega (arith, c.loop-line.invariant.1.1.1.0, s.further, s.inside)

pub loop-line-smaller : goal.loop-line-smaller
loop-line-smaller c =
    let s = any_found _ _ _ _ _ (sym c.any_line.ensures ∙ c.in-Some.is) in
    omega (arith, s.further, s.inside)

pub loop-line-preserved : goal.loop-line-preserved
unfolding part
loop-line-preserved c =
    let s = any_found _ _ _ _ _ (sym c.any_line.ensures ∙ c.in-Some.is) in
    let same = c.loop-line.invariant.0 in
    let l = c.loop-line.invariant.1 in
    let more = c.list_line.ensures in (
      (more.same_list.0 ∙ same.0, more.same_list.1 ∙ same.1),
      (
        λ h k. left_next _ _ h _ _ _ _ _ _ _ _ _ s (rw same.1 at ((rw c.all_known-known.ensures at more.by_index) h k)) (l.0 h k),
        (omega (arith, l.1.0, s.further), (omega (arith, l.1.1.0, s.further), (omega (arith, s.inside), omega (arith, more.total_bound, l.1.1.1.1, l.1.0, s.further)))),
      ),
    )

pub returns : goal.returns
returns c =
    let e = any_none _ _ (sym c.any_line.ensures ∙ c.in_default.is) in
    let l = c.loop-line.invariant.1 in record {
      same_list = c.loop-line.invariant.0;
      by_index = λ h k. left_last _ _ h _ _ _ _ _ e (l.0 h k);
      total_bound = omega (arith, l.1.1.1.0, l.1.1.1.1);
    }
