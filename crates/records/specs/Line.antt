-- One located line.
use Rattle.std.specs.Prelude.{ℕ, List}
use Rattle.meaning.specs.Bytes.{Line}

-- a line that starts at a byte
abbrev pub line : ℕ → List ℕ → Line
line at l = record { start = at; text = l }
