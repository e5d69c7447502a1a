-- `reading::row_fault` meets its contract.
use Rattle.reading.proofs.First.{row_end, row_none, row_turn}
use Rattle.columns.proofs.Laws.{located_cell}
use Rattle.values.proofs.Readings.{located_there, within}
use Rattle.meaning.specs.Bytes.{value}
use mathlib.Core.Path.{ap, ◌∙◌}
use native.Mathlib.Omega.{arith}
use Rattle.reading.proofs.row_fault.Goals as goal

pub invariant_of-located : goal.invariant_of-located
invariant_of-located c = record { within = within _ _ _ c.cells_of.ensures }

pub loop-k-init : goal.loop-k-init
loop-k-init c = row_none _ _ _ _

pub loop-k-preserved : goal.loop-k-preserved
loop-k-preserved c =
    let known = c.args.known.now.known c.loop-k.k (omega arith) in
    let cell = located_cell _ _ _ c.cells_of.ensures c.loop-k.k in
    row_turn _ _ _ _ _ _ _ _ c.loop-k.invariant _ known _ (ap value c.raw-raw.ensures ∙ cell) c.value_fault.ensures c.earlier-fault.ensures

pub returns : goal.returns
returns c = row_end _ _ _ _ _ _ c.loop-k.invariant (omega arith) (c.slack_of-slack.ensures _ (located_there _ _ _ c.cells_of.ensures))
