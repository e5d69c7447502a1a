-- `text::value_length` meets its contract.
use Rattle.text.proofs.Values.{length_quoted, length_bare}
use Rattle.text.proofs.value_length.Goals as goal

pub returns-then-is_marked : goal.returns-then-is_marked
returns-then-is_marked c =
    length_quoted _ _ c.is_marked.ensures c.if-is_marked.true _ c.content_of-s.ensures.0 _ c.undoubled_length.ensures

pub returns : goal.returns
returns c = length_bare _ _ c.is_marked.ensures c.if-is_marked.false _ c.content_of-s.ensures.0
