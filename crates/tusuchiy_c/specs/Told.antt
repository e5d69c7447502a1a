-- Each number of the answer for C is the one that document 01 gives to the answer's case.
use Rattle.std.specs.Prelude.{◌≡◌, pos, get_or}
use Rattle.meaning.specs.declared.Answer.{Answer}
use Rattle.meaning.specs.Findings.{answer_numbers}
use Rattle.tusuchiy_c.specs.declared.TusuchiyAnswer.{TusuchiyAnswer}

pub record Told (a : Answer) (r : TusuchiyAnswer) : Type 0 where
  pub verdict : r.verdict ≡ pos (get_or (answer_numbers a) 0 0)
  pub number : r.number ≡ pos (get_or (answer_numbers a) 1 0)
  pub file : r.file ≡ pos (get_or (answer_numbers a) 2 0)
  pub line : r.line ≡ pos (get_or (answer_numbers a) 3 0)
  pub column : r.column ≡ pos (get_or (answer_numbers a) 4 0)
  pub written : r.written ≡ pos (get_or (answer_numbers a) 5 0)
  pub total : r.total ≡ pos (get_or (answer_numbers a) 6 0)
