-- `index_check::check_index` meets its contract.
use Rattle.id_places.proofs.Own.{sized}
use Rattle.index_check.proofs.Laws.{outside, reads_it, unread, read}
use mathlib.Core.Path.{sym, ◌∙◌}
use native.Mathlib.Omega.{arith}
use Rattle.index_check.proofs.check_index.Goals as goal
use Rattle.index_check.proofs.check_index.Goals.{then-f-eq0-via-then-f-eq0, then-f-eq0-via-else-f-eq0+then-f-gt4}

pub returns-then-f-eq0 : goal.returns-then-f-eq0
returns-then-f-eq0 c =
    elim c.then-f-eq0.branch [ then-f-eq0-via-then-f-eq0 w ↦ outside _ _ _ (λ h. omega (arith, h.0, w.if-f-eq0.true)) | then-f-eq0-via-else-f-eq0+then-f-gt4 w ↦ outside _ _ _ (λ h. omega (arith, h.1, w.if-f-gt4.true)) ]

pub overflow_sub-lf : goal.overflow_sub-lf
overflow_sub-lf c =
    let reads = reads_it _ _ c.args.b.now c.if-f-eq0.false c.if-f-gt4.false (sym c.in-Ok.is ∙ c.read_alone.ensures) in
    omega (arith, (sized _ _ reads).some, c.count_lf-lf.ensures.0)

pub judge-requires : goal.judge-requires
judge-requires c =
    let reads = reads_it _ _ c.args.b.now c.if-f-eq0.false c.if-f-gt4.false (sym c.in-Ok.is ∙ c.read_alone.ensures) in
    (reads, omega (arith, (sized _ _ reads).some, c.count_lf-lf.ensures.0))

pub returns-in-Ok : goal.returns-in-Ok
returns-in-Ok c =
    read _ _ _ c.if-f-eq0.false c.if-f-gt4.false _ (sym c.in-Ok.is ∙ c.read_alone.ensures) c.judge.ensures

pub returns-in-Err : goal.returns-in-Err
returns-in-Err c =
    unread _ _ _ c.if-f-eq0.false c.if-f-gt4.false _ (sym c.in-Err.is ∙ c.read_alone.ensures)
