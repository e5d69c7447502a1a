-- `text::is_empty_value` meets its contract.
use Rattle.text.proofs.Values.{value_empty}
use Rattle.text.proofs.is_empty_value.Goals as goal

pub returns : goal.returns
returns c = value_empty _ _ c.content_of-s.ensures.0
