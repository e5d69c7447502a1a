-- What the loop of `index_check::Beside::has_stray` keeps.
use Rattle.meaning.specs.Lists.{some}
use Rattle.indexes.specs.Index.{entry, strays, rule43}
use mathlib.Core.Path.{◌≡◌}
use Prim.Native.Nat.{◌-◌}
use Rattle.index_check.proofs.Beside.has_stray.Given as goal

abbrev pub invariant-loop-i : goal.invariant-loop-i
invariant-loop-i l = some (λ k. strays l.self.records (entry l.self.version l.self.index.now k)) l.i (l.self.records - l.i) ≡ rule43 l.self.version l.self.records l.self.index.now
