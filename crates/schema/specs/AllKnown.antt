-- What the known columns of a file ask, as a list.
use Rattle.std.specs.Prelude.{ℕ, ◌<◌, ◌≡◌, List, length, get_or}
use Rattle.meaning.specs.declared.Column.{Column}
use Rattle.meaning.specs.Columns.{unknown, column_of}

-- a list of ten has what the known columns of file f ask
abbrev pub AllKnown : ℕ → List Column → Type 0
AllKnown f l = (k : ℕ) → k < 10 → get_or l k unknown.column ≡ column_of f k

-- two lists of ten that have it are equal
abbrev pub OneKnown : Type 0
OneKnown = (f : ℕ) (a b : List Column) → length a ≡ 10 → length b ≡ 10 → AllKnown f a → AllKnown f b → a ≡ b
