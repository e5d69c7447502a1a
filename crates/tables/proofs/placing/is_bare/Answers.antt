-- `tables::placing::is_bare` meets its contract.
use Rattle.values.proofs.Readings.{in_row}
use Rattle.meaning.specs.Lists.{empty}
use Rattle.meaning.specs.Bytes.{value}
use mathlib.Core.Path.{sym, ap, ◌∙◌}
use mathlib.Core.List.{List}
use Prim.Native.Nat.{ℕ}
use Rattle.tables.proofs.placing.is_bare.Goals as goal

pub returns : goal.returns
returns c =
    let s = c.args in
    λ ps loc. c.is_empty_value.ensures ∙ ap (λ (v : List ℕ). empty (value v)) c.raw.ensures ∙ sym (ap empty (in_row ps s.l.now.line.now s.l.now.cells loc s.k))
