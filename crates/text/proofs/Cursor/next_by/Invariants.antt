-- What the loop of `text::Cursor::next_by` keeps.
use Rattle.text.proofs.Spans.{Asked}
use Rattle.text.specs.Fields.{field_len, field_state}
use Rattle.meaning.specs.Bytes.{start}
use Prim.Native.Nat.{◌<◌, ◌-◌, ◌+◌}
use lib.ListN.{length, drop}
use Rattle.text.proofs.Cursor.next_by.Given as goal

abbrev pub invariant-loop-q : goal.invariant-loop-q
invariant-loop-q l = (l.q < 5) × (l.i < length l.l) × Asked l.l l.q l.i (l.at + field_len start (drop l.at l.l)) (field_state start (drop l.at l.l))

abbrev pub decreases-loop-q : goal.decreases-loop-q
decreases-loop-q l = length l.l - l.i
