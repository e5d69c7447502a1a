-- `text::content_of` meets its contract.
use Rattle.text.proofs.Values.{content_is, content_yes, content_short, content_no}
use Rattle.text.proofs.content_of.Goals as goal

pub returns-then-raw-gt1 : goal.returns-then-raw-gt1
returns-then-raw-gt1 c = content_is _ _ (content_yes _ _ c.is_marked.ensures c.if-is_marked.true)

pub returns-then-is_marked : goal.returns-then-is_marked
returns-then-is_marked c = content_is _ _ (content_short _ _ c.is_marked.ensures c.if-is_marked.true c.if-raw-gt1.false)

pub returns : goal.returns
returns c = content_is _ _ (content_no _ _ c.is_marked.ensures c.if-is_marked.false)
