-- `tusuchiy_c::told` meets its contract.
use mathlib.Core.Path.{refl}
use Rattle.meaning.specs.Findings.{answer_numbers}
use Rattle.tusuchiy_c.proofs.told.Goals as goal

pub found-requires : goal.found-requires
found-requires c = rw c.in-Findings.is at c.requires

pub refused-requires : goal.refused-requires
refused-requires c = rw c.in-Refused.is at c.requires

pub returns-in-Accepted : goal.returns-in-Accepted
unfolding answer_numbers
returns-in-Accepted c =
    let d = c.default.ensures in
    rw c.in-Accepted.is
    (record { verdict = d.0; number = d.1.0; file = d.1.1.0; line = d.1.1.1.0; column = d.1.1.1.1.0; written = d.1.1.1.1.1.0; total = d.1.1.1.1.1.1 })

pub returns-in-Findings : goal.returns-in-Findings
returns-in-Findings c = rw c.in-Findings.is c.found.ensures

pub returns-in-Refused : goal.returns-in-Refused
returns-in-Refused c = rw c.in-Refused.is c.refused.ensures
