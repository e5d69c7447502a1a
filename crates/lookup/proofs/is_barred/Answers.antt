-- `lookup::is_barred` meets its contract.
use Rattle.lookup.proofs.Laws.{barred_40, barred_41, barred_file, barred_else}
use mathlib.Core.Path.{sym, ◌∙◌}
use Rattle.lookup.proofs.is_barred.Goals as goal

pub returns-then-is_unmarked : goal.returns-then-is_unmarked
returns-then-is_unmarked c = barred_40 _ (sym c.is_unmarked.ensures ∙ c.if-is_unmarked.true)

pub returns-then-is_unknown : goal.returns-then-is_unknown
returns-then-is_unknown c = barred_41 _ (sym c.is_unmarked.ensures ∙ c.if-is_unmarked.false) (sym c.is_unknown.ensures ∙ c.if-is_unknown.true)

pub returns-then-byte_at-ne1 : goal.returns-then-byte_at-ne1
returns-then-byte_at-ne1 c = barred_file _ (sym c.is_unmarked.ensures ∙ c.if-is_unmarked.false) (sym c.is_unknown.ensures ∙ c.if-is_unknown.false) (λ e. c.if-byte_at-ne1.true (c.byte_at.ensures.0 ∙ e))

pub is_miscounted-requires : goal.is_miscounted-requires
is_miscounted-requires c = c.pair_at.ensures.0

pub returns : goal.returns
returns c = barred_else _ (sym c.is_unmarked.ensures ∙ c.if-is_unmarked.false) (sym c.is_unknown.ensures ∙ c.if-is_unknown.false) (sym c.byte_at.ensures.0 ∙ c.if-byte_at-ne1.false) _ c.is_miscounted.ensures
