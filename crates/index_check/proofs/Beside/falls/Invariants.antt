-- What the loop of `index_check::Beside::falls` keeps.
use Rattle.index_check.proofs.Laws.{falling}
use Rattle.meaning.specs.Lists.{some}
use Rattle.indexes.specs.Order.{ids_of}
use Rattle.indexes.specs.Index.{rule44}
use mathlib.Core.Path.{◌≡◌}
use Prim.Native.Nat.{◌-◌}
use Rattle.index_check.proofs.Beside.falls.Given as goal

abbrev pub invariant-loop-i : goal.invariant-loop-i
invariant-loop-i l =
    let x = l.self in
    some (falling x.version (ids_of x.file x.bytes.now) x.index.now) (l.i - 1) (x.records - 1 - (l.i - 1)) ≡ rule44 x.version (ids_of x.file x.bytes.now) x.index.now
