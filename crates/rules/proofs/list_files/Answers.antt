-- `rules::list_files` meets its contract. The loop's invariant: the findings of the files from f on bring the list to what all are to bring it to.
use Prim.Native.Nat.{◌-◌}
use mathlib.Core.Path.{refl, ◌∙◌}
use native.Mathlib.Omega.{arith}
use Rattle.rules.proofs.Laws.{ready_at, note_next, note_over, all_left, all_noted, total_most, sum_after, sum_most}
use Rattle.rules.proofs.list_files.Goals as goal

pub loop-f-init : goal.loop-f-init
loop-f-init c = ((refl, refl), (omega arith, (omega arith, (omega arith, λ w h. all_left _ w _ _))))

pub list_file-requires : goal.list_file-requires
list_file-requires c =
    let f = c.loop-f.f in
    let inv = c.loop-f.invariant.1 in
    let high = c.requires.lines_bound (f - 1) (omega (arith, inv.0)) in
    (omega (arith, inv.0), (omega arith, (omega (arith, high, c.saturating_sub-records.ensures), omega (arith, c.requires.total_bound, inv.1.1.0, sum_most (f - 1) (omega arith)))))

pub loop-f-preserved : goal.loop-f-preserved
loop-f-preserved c =
    let f = c.loop-f.f in
    let h = c.loop-f.invariant in
    let inv = h.1.1.1 in
    let more = c.list_file.ensures in
    let n = c.saturating_sub-records.ensures in
    let high = c.requires.lines_bound (f - 1) (omega (arith, h.1.0)) in (
      (more.same_list.0 ∙ h.0.0, more.same_list.1 ∙ h.0.1),
      (
        omega arith,
        (
          omega arith,
          (
            sum_after f _ _ _ h.1.0 inv.0 (total_most f _ _ _ _ more.total_bound n high),
            λ w t. note_next _ w _ f _ _ (inv.1 w t) h.1.0 (omega arith) _ (rw h.0.1 at (more.result_after w (ready_at f h.1.0 (omega arith) w _ _ _ t _ _ _ n c.table-table.ensures refl))),
          ),
        ),
      ),
    )

pub returns-clause-result_after : goal.returns-clause-result_after
returns-clause-result_after c = λ w h. note_over _ w _ c.loop-f.f _ _ (c.loop-f.invariant.1.1.1.1 w h) (omega arith)

pub returns-clause-from_none : goal.returns-clause-from_none
returns-clause-from_none c = λ w h none. all_noted _ w _ _ _ _ (note_over _ w _ c.loop-f.f _ _ (c.loop-f.invariant.1.1.1.1 w h) (omega arith)) none

pub returns-clause-total_bound_2 : goal.returns-clause-total_bound_2
returns-clause-total_bound_2 c =
    let inv = c.loop-f.invariant.1 in
    omega (arith, inv.1.1.0, sum_most (c.loop-f.f - 1) (omega arith))
