-- `index_check::Beside::has_stray` meets its contract.
use Rattle.index_check.proofs.Laws.{fewer}
use Rattle.columns.proofs.Laws.{some_over, some_here, some_next}
use Rattle.indexes.specs.Index.{rule43}
use mathlib.Core.Path.{sym, ◌∙◌}
use native.Mathlib.Omega.{arith}
use native.Mathlib.Numerals.{unary_clauses}
use Rattle.index_check.proofs.Beside.has_stray.Goals as goal

pub loop-i-init : goal.loop-i-init
unfolding rule43
loop-i-init c = simp unary_clauses

pub is_stray-requires : goal.is_stray-requires
is_stray-requires c =
    let x = c.args.self.now in
    omega (arith, c.loop-i-test.true, fewer x.file x.bytes.now x.records (record { asked = x.asked; verdict = x.verdict }) x.count)

pub returns-then-is_stray : goal.returns-then-is_stray
returns-then-is_stray c = some_here _ c.loop-i.i _ _ c.loop-i.invariant c.loop-i-test.true (sym c.is_stray.ensures ∙ c.if-is_stray.true)

pub loop-i-preserved : goal.loop-i-preserved
loop-i-preserved c = some_next _ c.loop-i.i _ _ c.loop-i.invariant c.loop-i-test.true (sym c.is_stray.ensures ∙ c.if-is_stray.false)

pub returns : goal.returns
returns c = some_over _ c.loop-i.i _ _ c.loop-i.invariant c.loop-i-test.false
