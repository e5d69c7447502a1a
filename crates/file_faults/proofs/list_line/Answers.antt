-- `file_faults::list_line` meets its contract.
use native.Mathlib.Omega.{arith}
use Rattle.file_faults.proofs.OneFault.{later_fault, later_low}
use Rattle.file_faults.proofs.list_line.Goals as goal

pub note_fault-requires-clause-file_bound : goal.note_fault-requires-clause-file_bound
note_fault-requires-clause-file_bound c =
    let h = c.requires.header in
    (omega (arith, c.args.known.now.in_range), (c.requires.n_bound.0, later_low _ h.text _ h.heads _ _ c.later_fault.ensures))

pub returns-clause-by_index : goal.returns-clause-by_index
returns-clause-by_index c = λ h k. rw (← later_fault _ h _ k _ _ c.later_fault.ensures c.args.n) c.note_fault.ensures.result_after
