-- `forms::degrees_text` meets its contract.
use Rattle.forms.proofs.Laws.{degrees_below, degrees_plain, degrees_empty}
use Rattle.std.proofs.Common.{rules}
use Rattle.forms.proofs.degrees_text.Goals as goal
use Rattle.forms.proofs.degrees_text.Goals.{in_default-via-in-Some+in_default, in_default-via-in_default}

pub returns-in-Some-eq45-default : goal.returns-in-Some-eq45-default
returns-in-Some-eq45-default c =
    let k = c.in-Some-eq45-default in
    let h = rw k.is at c.split_first.ensures.cases in
    degrees_below _ _ _ _ _ h.0 k.field-0-0-test c.size_text.ensures

pub returns-in_default : goal.returns-in_default
returns-in_default c =
    elim c.in_default.branch [
      | in_default-via-in-Some+in_default w ↦
          let h = rw w.in_default.is at c.split_first.ensures.cases in
          degrees_plain _ _ _ _ _ h.0 (search rules) c.size_text-in_default.ensures
      | in_default-via-in_default w ↦
          let h = rw w.in_default.is at c.split_first.ensures.cases in
          degrees_empty _ _ _ h c.size_text-in_default.ensures
    ]
