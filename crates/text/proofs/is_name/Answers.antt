-- `text::is_name` meets its contract.
use Rattle.text.proofs.Values.{same_name}
use Rattle.text.proofs.is_name.Goals as goal

pub returns : goal.returns
returns c = same_name _ _ _ c.content_of.ensures.0 c.is_marked.ensures _ _ c.same_content.ensures
