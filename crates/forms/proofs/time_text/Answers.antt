-- `forms::time_text` meets its contract.
use Rattle.meaning.specs.Forms.{time_text}
use Rattle.std.proofs.Common.{rules, length, eq-eqb, ne_eqb}
use Rattle.forms.proofs.time_text.Goals as goal

pub returns-in-0 : goal.returns-in-0
unfolding time_text
returns-in-0 c = rw (eq-eqb _ _ c.in-0.is)

pub returns-in-7 : goal.returns-in-7
unfolding time_text
returns-in-7 c = rw c.in-7.is c.clock_at.ensures

pub returns-in-8 : goal.returns-in-8
unfolding time_text
returns-in-8 c = rw c.in-8.is c.clock_at-in-8.ensures

pub returns-in_default : goal.returns-in_default
unfolding time_text
returns-in_default c =
    let n = length c.args.v.now in
    rw (ne_eqb n 0 (search rules), ne_eqb n 7 (search rules), ne_eqb n 8 (search rules))
