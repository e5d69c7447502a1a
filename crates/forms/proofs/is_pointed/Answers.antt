-- `forms::is_pointed` meets its contract.
use Rattle.forms.specs.Parts.{pointed_at}
use Rattle.std.proofs.Common.{le-leb}
use Rattle.std.proofs.lemmas.Bool.{lt-leb}
use Rattle.forms.proofs.is_pointed.Goals as goal
use Rattle.forms.proofs.is_pointed.Goals.{then-p-lt1-via-then-p-lt1, then-p-lt1-via-else-p-lt1+then-p-gt3}

pub returns-then-p-lt1 : goal.returns-then-p-lt1
unfolding pointed_at
returns-then-p-lt1 c =
    elim c.then-p-lt1.branch [
      | then-p-lt1-via-then-p-lt1 w ↦ rw (lt-leb _ _ w.if-p-lt1.true)
      | then-p-lt1-via-else-p-lt1+then-p-gt3 w ↦ rw (le-leb _ _ w.if-p-lt1.false, lt-leb _ _ w.if-p-gt3.true)
    ]

pub returns-then-n-p : goal.returns-then-n-p
unfolding pointed_at
returns-then-n-p c = rw (le-leb _ _ c.if-p-lt1.false, le-leb _ _ c.if-p-gt3.false, le-leb _ _ c.if-n-p.true)

pub returns-then-p-n : goal.returns-then-p-n
unfolding pointed_at
returns-then-p-n c = rw (le-leb _ _ c.if-p-lt1.false, le-leb _ _ c.if-p-gt3.false, lt-leb _ _ c.if-n-p.false, le-leb _ _ c.if-p-n.true)

pub returns-else-p-n : goal.returns-else-p-n
unfolding pointed_at
returns-else-p-n c = rw (le-leb _ _ c.if-p-lt1.false, le-leb _ _ c.if-p-gt3.false, lt-leb _ _ c.if-n-p.false, lt-leb _ _ c.if-p-n.false)
