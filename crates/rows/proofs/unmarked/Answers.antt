-- `rows::unmarked` meets its contract.
use Rattle.rows.specs.Waiting.{unmark}
use Rattle.rows.proofs.Waiting.{unmark_some}
use mathlib.Core.Path.{◌∙◌}
use native.Mathlib.Omega.{arith}
use mir.Syntax.{w32}
use mir.ValLaws.{to_z_pos}
use Rattle.rows.proofs.unmarked.Goals as goal

pub returns-then-mark-eq0 : goal.returns-then-mark-eq0
unfolding unmark
returns-then-mark-eq0 c = rw c.if-mark-eq0.true

pub returns : goal.returns
returns c = to_z_pos w32 _ (omega arith) ∙ unmark_some _ c.if-mark-eq0.false
