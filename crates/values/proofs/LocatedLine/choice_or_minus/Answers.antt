-- `values::LocatedLine::choice_or_minus` meets its contract.
use Rattle.meaning.specs.Tables.{or_minus}
use mir.Syntax.{w32}
use mir.ValLaws.{to_z_pos}
use Rattle.meaning.specs.Lists.{empty}
use Rattle.meaning.specs.Forms.{choice_of}
use Rattle.values.proofs.Readings.{through, choice_empty, choice_given}
use mathlib.Core.Path.{sym, ◌∙◌}
use native.Mathlib.Omega.{arith}
use Rattle.values.proofs.LocatedLine.choice_or_minus.Goals as goal

pub returns-then-is_empty_value : goal.returns-then-is_empty_value
unfolding or_minus
returns-then-is_empty_value c = choice_empty _ _ _ (sym (through empty _ _ _ c.is_empty_value.ensures c.raw-v.ensures) ∙ c.if-is_empty_value.true)

pub returns : goal.returns
unfolding or_minus
returns c =
    to_z_pos w32 _ (omega (arith, c.chosen.ensures.1 _ c.choice_of.ensures.1)) ∙ choice_given _ _ _ _ _ (sym (through empty _ _ _ c.is_empty_value.ensures c.raw-v.ensures) ∙ c.if-is_empty_value.false) c.chosen.ensures.0 (through (choice_of _) _ _ _ c.choice_of.ensures.0 c.raw-v.ensures)
