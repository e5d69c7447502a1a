-- `index_bytes::is_unmarked` meets its contract.
use Rattle.index_bytes.proofs.Head.{short_head, long_head, marked_as}
use Rattle.indexes.specs.Index.{mark}
use Rattle.index_bytes.proofs.is_unmarked.Goals as goal

pub returns-then-b-lt-LEAST : goal.returns-then-b-lt-LEAST
returns-then-b-lt-LEAST c = short_head _ c.if-b-lt-LEAST.true

pub returns-else-b-lt-LEAST : goal.returns-else-b-lt-LEAST
unfolding mark
returns-else-b-lt-LEAST c = long_head _ _ c.if-b-lt-LEAST.false (marked_as _ _ _ c.starts_with.ensures.value)
