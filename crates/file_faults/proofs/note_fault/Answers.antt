-- `file_faults::note_fault` meets its contract.
use mir.Syntax.{w32}
use mir.ValLaws.{to_z_pos}
use Rattle.listing.specs.Handing.{adding}
use Rattle.file_faults.specs.Walk.{fault_of}
use Rattle.file_faults.proofs.OneFault.{low_some}
use Rattle.file_faults.proofs.note_fault.Goals as goal

pub returns-in_default-clause-result_after : goal.returns-in_default-clause-result_after
unfolding adding fault_of
returns-in_default-clause-result_after c = rw c.in_default.is

pub returns-in-Some-clause-result_after : goal.returns-in-Some-clause-result_after
unfolding adding fault_of
returns-in-Some-clause-result_after c =
    let small = c.requires.file_bound in
    let low = low_some _ _ c.in-Some.is small.1.1 in
    let e =
    simp (to_z_pos w32 _ small.0, to_z_pos w32 _ small.1.0, to_z_pos w32 _ low.0, to_z_pos w32 _ low.1)
    at c.hand_out.ensures.result_after in
    rw c.in-Some.is e
