-- `forms::is_day` meets its contract.
use Rattle.meaning.specs.Forms.{is_day}
use Rattle.std.proofs.Common.{le-leb}
use Rattle.std.proofs.lemmas.Bool.{lt-leb}
use Rattle.forms.proofs.is_day.Goals as goal
use Rattle.forms.proofs.is_day.Goals.{then-y-lt1-via-then-y-lt1, then-y-lt1-via-else-y-lt1+then-m-lt1, then-y-lt1-via-else-y-lt1+else-m-lt1+then-m-gt12, then-y-lt1-via-else-y-lt1+else-m-lt1+else-m-gt12+then-d-lt1}

pub returns-then-y-lt1 : goal.returns-then-y-lt1
unfolding is_day
returns-then-y-lt1 c =
    elim c.then-y-lt1.branch [
      | then-y-lt1-via-then-y-lt1 w ↦ rw (lt-leb _ _ w.if-y-lt1.true)
      | then-y-lt1-via-else-y-lt1+then-m-lt1 w ↦ rw (le-leb _ _ w.if-y-lt1.false, lt-leb _ _ w.if-m-lt1.true)
      | then-y-lt1-via-else-y-lt1+else-m-lt1+then-m-gt12 w ↦ rw (le-leb _ _ w.if-y-lt1.false, le-leb _ _ w.if-m-lt1.false, lt-leb _ _ w.if-m-gt12.true)
      | then-y-lt1-via-else-y-lt1+else-m-lt1+else-m-gt12+then-d-lt1 w ↦
          rw (le-leb _ _ w.if-y-lt1.false, le-leb _ _ w.if-m-lt1.false, le-leb _ _ w.if-m-gt12.false, lt-leb _ _ w.if-d-lt1.true)
    ]

pub returns : goal.returns
unfolding is_day
returns c = rw (le-leb _ _ c.if-y-lt1.false, le-leb _ _ c.if-m-lt1.false, le-leb _ _ c.if-m-gt12.false, le-leb _ _ c.if-d-lt1.false, c.days_in.ensures)
