-- `index_write::Ranks::put_entry` meets its contract.
use Rattle.indexes.specs.Index.{index_length}
use Rattle.index_write.proofs.Bytes.{entry_room, entry_put}
use native.Mathlib.Omega.{arith}
use Rattle.index_write.proofs.Ranks.put_entry.Goals as goal

pub length_of-at-requires : goal.length_of-at-requires
length_of-at-requires c = omega (arith, c.cell_of-k.ensures.1, c.requires.wide.2)

pub put_number-requires : goal.put_number-requires
unfolding index_length
put_number-requires c = (rw c.length_of-at.ensures.0 (entry_room c.args.self.now.version c.args.self.now.records c.cell_of-k.result _ c.cell_of-k.ensures.0 c.cell_of-k.ensures.1 c.requires.wide.0), c.requires.wide.1)

pub returns : goal.returns
unfolding index_length
returns c =
    entry_put c.args.self.now.version c.args.b.now c.cell_of-k.result c.args.self.now.records c.args.r c.cell_of-k.ensures.0 c.cell_of-k.ensures.1 c.requires.wide.0 _ (rw c.length_of-at.ensures.0 at c.put_number.ensures) c.args.x c.args.self.now.cells.now c.cell_of-k.ensures.2
