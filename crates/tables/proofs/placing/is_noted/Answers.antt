-- `tables::placing::is_noted` meets its contract.
use Rattle.tables.proofs.Marking.{noted_stop, noted_short, noted_long, noted_none}
use Rattle.tables.proofs.placing.is_noted.Goals as goal

pub returns-then-f-eq-FILE : goal.returns-then-f-eq-FILE
returns-then-f-eq-FILE c = λ ps loc. noted_stop _ _ _ c.if-f-eq-FILE.true (c.is_bare.ensures ps loc)

pub returns-then-is_bare : goal.returns-then-is_bare
returns-then-is_bare c = λ ps loc. noted_long _ _ c.if-f-eq-FILE.false c.if-f-eq-FILE-2.true _ _ c.if-is_bare.true (c.is_bare-then-f-eq-FILE-2.ensures ps loc) (c.is_bare-then-is_bare.ensures ps loc)

pub returns-else-is_bare : goal.returns-else-is_bare
returns-else-is_bare c = λ ps loc. noted_short _ _ c.if-f-eq-FILE.false c.if-f-eq-FILE-2.true _ c.if-is_bare.false (c.is_bare-then-f-eq-FILE-2.ensures ps loc)

pub returns-else-f-eq-FILE-2 : goal.returns-else-f-eq-FILE-2
returns-else-f-eq-FILE-2 c = λ ps loc. noted_none _ _ c.if-f-eq-FILE.false c.if-f-eq-FILE-2.false
