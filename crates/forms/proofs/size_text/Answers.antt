-- `forms::size_text` meets its contract.
use Rattle.forms.proofs.Laws.{size_yes, size_no}
use Rattle.digits.specs.Decimals.{decimals_of}
use Rattle.std.proofs.Common.{ap, ◌∙◌}
use Rattle.forms.proofs.size_text.Goals as goal

pub returns-then-not-is_pointed : goal.returns-then-not-is_pointed
returns-then-not-is_pointed c = size_no _ _ _ _ c.to_point-p.ensures.0 _ c.is_pointed.ensures c.if-not-is_pointed.true

pub returns : goal.returns
returns c =
    size_yes _ _ _ _ c.to_point-p.ensures.0 _ c.is_pointed.ensures c.if-not-is_pointed.false _ _ _ c.number.ensures.0 (c.decimals.ensures.0 ∙ ap decimals_of c.tail_of.ensures) c.sized_of.ensures
