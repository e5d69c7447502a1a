-- `reading::earlier` meets its contract.
use Rattle.std.proofs.Common.{rules}
use Rattle.reading.specs.Tests.{earlier_of}
use Rattle.reading.proofs.earlier.Goals as goal

pub returns-in_default : goal.returns-in_default
unfolding earlier_of
returns-in_default c = rw c.in_default.is

pub returns-in_default-a : goal.returns-in_default-a
unfolding earlier_of
returns-in_default-a c = rw (c.in-Some.is, c.in_default-a.is)

pub returns : goal.returns
unfolding earlier_of
returns c = rw (c.in-Some.is, c.in-Some-a.is) (search rules)
