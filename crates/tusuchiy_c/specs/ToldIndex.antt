-- Each number of an answer about an index, for C, is the one that document 02 gives to the answer's case.
use Rattle.std.specs.Prelude.{◌≡◌, pos, get_or}
use Rattle.indexes.specs.Answer.{IndexAnswer}
use Rattle.indexes.specs.Index.{index_numbers}
use Rattle.tusuchiy_c.specs.declared.TusuchiyIndexAnswer.{TusuchiyIndexAnswer}

pub record ToldIndex (a : IndexAnswer) (r : TusuchiyIndexAnswer) : Type 0 where
  pub number : r.number ≡ pos (get_or (index_numbers a) 0 0)
  pub file : r.file ≡ pos (get_or (index_numbers a) 1 0)
  pub line : r.line ≡ pos (get_or (index_numbers a) 2 0)
  pub column : r.column ≡ pos (get_or (index_numbers a) 3 0)
  pub length : r.length ≡ pos (get_or (index_numbers a) 4 0)
