-- `index_bytes::entry_at` meets its contract.
use Rattle.indexes.specs.Index.{index_length, entry}
use Rattle.index_bytes.proofs.entry_at.Goals as goal

pub returns : goal.returns
unfolding index_length entry
returns c = rw c.length_of.ensures.0 at c.number_at.ensures
