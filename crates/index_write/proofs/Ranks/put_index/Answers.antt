-- `index_write::Ranks::put_index` meets its contract.
use Rattle.indexes.specs.Index.{index_length}
use Rattle.id_places.proofs.Walk.{own_is}
use Rattle.indexes.proofs.Versions.{version_fits}
use Rattle.index_write.proofs.Whole.{index_written}
use native.Mathlib.Omega.{arith}
use Rattle.index_write.proofs.Ranks.put_index.Goals as goal

pub start_of-requires : goal.start_of-requires
start_of-requires c =
    (omega (arith, c.requires.file_bound.0), (version_fits c.args.self.now.version c.args.self.now.records c.requires.bytes_len_bound.2 c.requires.bytes_len_bound.1).1)

pub put_start-requires : goal.put_start-requires
unfolding index_length
put_start-requires c = omega (arith, c.requires.reads.2)

pub put_number-requires : goal.put_number-requires
unfolding index_length
put_number-requires c =
    let fits = version_fits c.args.self.now.version c.args.self.now.records c.requires.bytes_len_bound.2 c.requires.bytes_len_bound.1 in
    (omega (arith, c.requires.reads.2), fits.0)

pub put_entries-requires : goal.put_entries-requires
put_entries-requires c =
    let h = c.read_header-h.ensures in
    let fits = version_fits c.args.self.now.version c.args.self.now.records c.requires.bytes_len_bound.2 c.requires.bytes_len_bound.1 in record {
      reads = (c.requires.reads.0, c.requires.reads.1, omega (arith, c.requires.reads.2));
      at_value = (h.after, own_is _ _ _ _ _ h c.id_column-own.ensures.0);
      bytes_len_bound = (c.requires.bytes_len_bound.0, fits.0);
    }

pub returns : goal.returns
returns c =
    let a = c.args in
    let e = c.put_entries.ensures in
    let k = c.put_number.ensures in
    let h = rw c.start_of.ensures at c.put_start.ensures in
    index_written a.self.now.file a.self.now.bytes.now c.requires.reads.0 a.self.now.records a.self.now.cells.now c.requires.reads.1 c.requires.file_bound.1 a.self.now.version c.requires.bytes_len_bound.2 a.b.now _ _ _ h k e.0 e.1 c.requires.reads.2 (λ i. omega (arith, c.slice_known-4-1.given i))
