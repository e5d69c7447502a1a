-- `file_faults::list_faults` meets its contract.
use native.Mathlib.Omega.{arith}
use Rattle.file_faults.proofs.Walk.{file_long, file_many, file_lines, with_dates, dated_so, short_file}
use Rattle.file_faults.proofs.list_faults.Goals as goal
use Rattle.file_faults.proofs.list_faults.Goals.{else-not-whole-via-then-not-whole+else-not-whole-2, else-not-whole-via-else-not-whole}

pub list_lines-requires : goal.list_lines-requires
list_lines-requires c =
    let w = c.whole_of-whole.ensures in
    let short = short_file (with_dates c.args.dated) _ _ _ (w _ (dated_so c.args.dated)) c.if-not-whole.true in
    (c.requires.1.0, (short, omega (arith, c.list_whole.ensures.total_bound, c.requires.1.1)))

pub returns-then-not-whole-2-clause-by_index : goal.returns-then-not-whole-2-clause-by_index
returns-then-not-whole-2-clause-by_index c =
    let whole = c.list_whole.ensures in
    λ files d. file_lines _ files _ _ _ (c.whole_of-whole.ensures files d) _ _ whole.result_after c.if-not-whole.true c.if-not-whole-2.true _ (rw whole.same_list.1 at c.list_lines.ensures.result_after)

pub returns-then-not-whole-2-clause-total_bound : goal.returns-then-not-whole-2-clause-total_bound
returns-then-not-whole-2-clause-total_bound c =
    let w = c.whole_of-whole.ensures in
    let short = short_file (with_dates c.args.dated) _ _ _ (w _ (dated_so c.args.dated)) c.if-not-whole.true in
    omega (arith, c.list_whole.ensures.total_bound, c.list_lines.ensures.total_bound, short)

pub returns-else-not-whole-clause-by_index : goal.returns-else-not-whole-clause-by_index
returns-else-not-whole-clause-by_index c =
    let whole = c.list_whole.ensures.result_after in
    let w = c.whole_of-whole.ensures in
    λ files d.
    elim c.else-not-whole.branch [
      | else-not-whole-via-then-not-whole+else-not-whole-2 b ↦ file_many _ files _ _ _ (w files d) _ _ whole b.if-not-whole-2.false
      | else-not-whole-via-else-not-whole b ↦ file_long _ files _ _ _ (w files d) _ _ whole b.if-not-whole.false
    ]
