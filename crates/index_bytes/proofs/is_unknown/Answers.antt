-- `index_bytes::is_unknown` meets its contract.
use Rattle.index_bytes.proofs.Head.{first_known, second_known}
use Rattle.index_bytes.proofs.is_unknown.Goals as goal

pub returns-then-k-ne1 : goal.returns-then-k-ne1
returns-then-k-ne1 c = second_known _ _ c.pair_at-k.ensures.0 c.if-k-ne1.true

pub returns-else-k-ne1 : goal.returns-else-k-ne1
returns-else-k-ne1 c = first_known _ _ c.pair_at-k.ensures.0 c.if-k-ne1.false
