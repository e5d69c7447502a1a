-- What the index's writer and reader answer.
use Rattle.std.specs.Prelude.{ℕ, Result}
use Rattle.indexes.specs.declared.IndexRefusal.{IndexRefusal}

-- the length of the index that was written, or is accepted; or why there is none
abbrev pub IndexAnswer : Type 0
IndexAnswer = Result ℕ IndexRefusal
