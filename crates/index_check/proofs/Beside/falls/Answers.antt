-- `index_check::Beside::falls` meets its contract.
use Rattle.index_check.proofs.Laws.{falls_first, falls_next, listed_fits, falls_at, fewer}
use Rattle.columns.proofs.Laws.{some_over, some_here}
use mathlib.Core.Path.{refl, sym, ◌∙◌}
use Prim.Native.Nat.{◌-◌}
use native.Mathlib.Omega.{arith}
use Rattle.index_check.proofs.Beside.falls.Goals as goal

pub loop-i-init : goal.loop-i-init
loop-i-init c = falls_first _ _ _ _ _ c.args.self.now.count

pub entry_at-last-requires : goal.entry_at-last-requires
entry_at-last-requires c =
    let x = c.args.self.now in omega (arith, fewer x.file x.bytes.now x.records (record { asked = x.asked; verdict = x.verdict }) x.count)

pub entry_at-next-requires : goal.entry_at-next-requires
entry_at-next-requires c =
    let x = c.args.self.now in omega (arith, fewer x.file x.bytes.now x.records (record { asked = x.asked; verdict = x.verdict }) x.count)

pub is_before-requires : goal.is_before-requires
is_before-requires c =
    let i = c.loop-i.i in
    let more = c.loop-i-test.true in
    let x = c.args.self.now in
    let fits = listed_fits x.file x.bytes.now x.records c.args.t.now (record { asked = x.asked; verdict = x.verdict }) c.requires.placed.0 x.version x.index.now c.requires.entries in
    (fits (i - 1) (omega arith) _ c.entry_at-last.ensures.0 c.requires.placed.1, fits i more _ c.entry_at-next.ensures.0 c.requires.placed.1)

pub returns-then-not-is_before : goal.returns-then-not-is_before
returns-then-not-is_before c =
    let x = c.args.self.now in
    let k = falls_at x.file x.bytes.now x.records c.args.t.now (record { asked = x.asked; verdict = x.verdict }) c.requires.placed.0 x.version x.index.now c.requires.entries (c.loop-i.i - 1) c.loop-i.i (omega (arith, c.loop-i.auto.i)) c.loop-i-test.true _ _ c.entry_at-last.ensures.0 c.entry_at-next.ensures.0 _ c.is_before.ensures in
    some_here _ (c.loop-i.i - 1) (x.records - 1) _ c.loop-i.invariant (omega (arith, c.loop-i.auto.i)) (sym k ∙ c.if-not-is_before.true-raw)

pub loop-i-preserved : goal.loop-i-preserved
loop-i-preserved c =
    let x = c.args.self.now in
    let k = falls_at x.file x.bytes.now x.records c.args.t.now (record { asked = x.asked; verdict = x.verdict }) c.requires.placed.0 x.version x.index.now c.requires.entries (c.loop-i.i - 1) c.loop-i.i (omega (arith, c.loop-i.auto.i)) c.loop-i-test.true _ _ c.entry_at-last.ensures.0 c.entry_at-next.ensures.0 _ c.is_before.ensures in
    falls_next _ c.loop-i.i x.records _ c.loop-i.auto.i c.loop-i.invariant c.loop-i-test.true (sym k ∙ c.if-not-is_before.false-raw) _ refl

pub returns : goal.returns
returns c = some_over _ (c.loop-i.i - 1) (c.args.self.now.records - 1) _ c.loop-i.invariant (omega arith)
