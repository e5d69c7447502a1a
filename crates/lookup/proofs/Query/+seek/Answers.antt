-- `lookup::Query::seek` meets its contract.
use Rattle.std.specs.Prelude.{Ok}
use Rattle.lookup.proofs.Laws.{err_only, last_left, half_unsound, half_below, half_upper}
use Rattle.lookups.specs.Lookup.{Standing, refused, standing}
use Rattle.indexes.specs.Index.{entry}
use mathlib.Core.Path.{sym, ap, ◌∙◌}
use Prim.Native.Nat.{ℕ}
use Rattle.lookup.proofs.Query.+seek.Goals as goal

pub returns-in_err-stand : goal.returns-in_err-stand
returns-in_err-stand t c =
    let a = c.args in
    let q = a.self.now in
    let at : ℕ → Standing = λ i. standing q.file.now q.table.now q.code.now (entry a.v q.index.now i) in
    let en : ℕ → ℕ = entry a.v q.index.now in
    rw (← err_only c.from_residual.result c.from_residual.ensures.0)
    (last_left at en a.low a.high c.requires.0 c.if-high-low-eq1.true refused _ (sym c.in_err-stand.was ∙ (c.stand.ensures ∙ ap (standing q.file.now q.table.now q.code.now) c.entry_at-r.ensures.0)) c.entry_at-r.ensures.0)

pub returns-then-high-low-eq1 : goal.returns-then-high-low-eq1
returns-then-high-low-eq1 t c =
    let a = c.args in
    let q = a.self.now in
    let at : ℕ → Standing = λ i. standing q.file.now q.table.now q.code.now (entry a.v q.index.now i) in
    let en : ℕ → ℕ = entry a.v q.index.now in
    rw c.answer_of.ensures (last_left at en a.low a.high c.requires.0 c.if-high-low-eq1.true _ _ (sym c.in_ok-stand.was ∙ (c.stand.ensures ∙ ap (standing q.file.now q.table.now q.code.now) c.entry_at-r.ensures.0)) c.entry_at-r.ensures.0)

pub returns-in-Less : goal.returns-in-Less
returns-in-Less t c =
    let a = c.args in
    let q = a.self.now in
    let at : ℕ → Standing = λ i. standing q.file.now q.table.now q.code.now (entry a.v q.index.now i) in
    let en : ℕ → ℕ = entry a.v q.index.now in
    half_below at en a.low a.high c.requires.0 c.if-high-low-eq1.false (sym (c.in_ok-stand-2.was ∙ ap Ok c.in-Less.is) ∙ (c.stand-2.ensures ∙ ap (standing q.file.now q.table.now q.code.now) c.entry_at.ensures.0)) _ c.seek.ensures

pub returns-in-Equal : goal.returns-in-Equal
returns-in-Equal t c =
    let a = c.args in
    let q = a.self.now in
    let at : ℕ → Standing = λ i. standing q.file.now q.table.now q.code.now (entry a.v q.index.now i) in
    let en : ℕ → ℕ = entry a.v q.index.now in
    half_upper at en a.low a.high c.requires.0 c.if-high-low-eq1.false c.in_ok-stand-2.field-0 c.in-Equal.is (sym c.in_ok-stand-2.was ∙ (c.stand-2.ensures ∙ ap (standing q.file.now q.table.now q.code.now) c.entry_at.ensures.0)) _ c.seek-in-Equal.ensures

pub returns-in_err-stand-2 : goal.returns-in_err-stand-2
returns-in_err-stand-2 t c =
    let a = c.args in
    let q = a.self.now in
    let at : ℕ → Standing = λ i. standing q.file.now q.table.now q.code.now (entry a.v q.index.now i) in
    let en : ℕ → ℕ = entry a.v q.index.now in
    rw (← err_only c.from_residual-in_err-stand-2.result c.from_residual-in_err-stand-2.ensures.0)
    (half_unsound at en a.low a.high c.requires.0 c.if-high-low-eq1.false (sym c.in_err-stand-2.was ∙ (c.stand-2.ensures ∙ ap (standing q.file.now q.table.now q.code.now) c.entry_at.ensures.0)))
