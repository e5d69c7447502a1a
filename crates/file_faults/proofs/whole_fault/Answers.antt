-- `file_faults::whole_fault` meets its contract.
use Rattle.reading.specs.Tests.{first}
use Rattle.file_faults.proofs.whole_fault.Goals as goal

pub returns-then-broken : goal.returns-then-broken
unfolding first
returns-then-broken c = rw c.if-broken.true

pub returns : goal.returns
unfolding first
returns c = rw c.if-broken.false
