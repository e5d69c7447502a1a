-- A known column of the code, as the definitions have it.
use Rattle.std.specs.Prelude.{ℕ, List}
use Rattle.std.proofs.Common.{Bor}
use Rattle.meaning.specs.declared.Column.{Column}
use Rattle.meaning.specs.Columns.{Known}

-- its name, and what it asks
abbrev pub shown : Bor (List ℕ) × Column → Known
shown x = record { name = x.0.now; column = x.1 }
