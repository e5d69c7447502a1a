-- `file_faults::list_whole` meets its contract.
use mathlib.Core.Path.{◌∙◌}
use native.Mathlib.Omega.{arith}
use Rattle.file_faults.proofs.OneFault.{whole_low, whole_three}
use Rattle.file_faults.proofs.list_whole.Goals as goal

pub note_fault-requires-clause-file_bound : goal.note_fault-requires-clause-file_bound
note_fault-requires-clause-file_bound c = (omega (arith, c.requires.0), (omega arith, whole_low 1 (omega arith) _ _ c.whole_fault.ensures))

pub note_fault-requires-2-clause-file_bound : goal.note_fault-requires-2-clause-file_bound
note_fault-requires-2-clause-file_bound c = (omega (arith, c.requires.0), (omega arith, whole_low 2 (omega arith) _ _ c.whole_fault-2.ensures))

pub note_fault-requires-3-clause-file_bound : goal.note_fault-requires-3-clause-file_bound
note_fault-requires-3-clause-file_bound c = (omega (arith, c.requires.0), (omega arith, whole_low 4 (omega arith) _ _ c.whole_fault-3.ensures))

pub returns-clause-result_after : goal.returns-clause-result_after
returns-clause-result_after c =
    let one = c.note_fault.ensures in
    let two = c.note_fault-2.ensures in
    whole_three _ _ _ _ _ _ _ _ _ _ c.whole_fault.ensures c.whole_fault-2.ensures c.whole_fault-3.ensures
    one.result_after (rw one.same_list.1 at two.result_after) (rw (two.same_list.1 ∙ one.same_list.1) at c.note_fault-3.ensures.result_after)
