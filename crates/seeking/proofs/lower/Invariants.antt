-- What the loop of `seeking::lower` keeps.
use Rattle.seeking.proofs.Laws.{Halving}
use Rattle.ordering.specs.Cells.{cell}
use Rattle.ordering.specs.Ids.{id_of}
use Rattle.meaning.specs.Bytes.{value}
use Prim.Native.Nat.{◌-◌}
use Rattle.seeking.proofs.lower.Given as goal

abbrev pub invariant-loop-lo : goal.invariant-loop-lo
invariant-loop-lo l = Halving (id_of l.a.file.now l.a.table.now l.w) (cell l.a.table.now l.w) l.a.count (value l.raw) l.lo l.hi

abbrev pub decreases-loop-lo : goal.decreases-loop-lo
decreases-loop-lo l = l.hi - l.lo
