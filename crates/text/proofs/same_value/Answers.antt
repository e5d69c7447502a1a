-- `text::same_value` meets its contract.
use Rattle.text.proofs.Values.{same_values}
use Rattle.text.proofs.same_value.Goals as goal

pub returns : goal.returns
returns c =
    same_values _ _ _ c.content_of.ensures.0 c.is_marked.ensures _ _ _ _ c.content_of-2.ensures.0 c.is_marked-2.ensures c.same_content.ensures
