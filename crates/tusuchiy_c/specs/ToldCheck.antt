-- The numbers of a check, for C, and what the six tables and the list hold after it, are those of the check's outcome.
use Rattle.std.specs.Prelude.{◌≡◌, List, ℤ}
use Rattle.meaning.specs.Outcome.{Outcome}
use Rattle.tusuchiy_c.specs.declared.TusuchiyAnswer.{TusuchiyAnswer}
use Rattle.tusuchiy_c.specs.Told.{Told}

pub record ToldCheck (o : Outcome) (r : TusuchiyAnswer) (held : List (List ℤ)) (list : List ℤ) : Type 0 where
  pub answer : Told o.answer r
  pub tables : held ≡ o.tables
  pub findings : list ≡ o.list
