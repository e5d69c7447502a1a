-- Each number of a lookup's answer, for C, is the one that document 02 gives to the answer's case.
use Rattle.std.specs.Prelude.{◌≡◌, cond, ltb, pos, get_or, Ok, Err}
use Rattle.lookups.specs.Lookup.{LookupAnswer, refused, lookup_numbers}
use Rattle.tusuchiy_c.specs.declared.TusuchiyLookupAnswer.{TusuchiyLookupAnswer}

-- C's numbers end below 2,147,483,648: a record past them, which only a table of more than fifteen billion numbers holds, is answered 50
abbrev pub spoken : LookupAnswer → LookupAnswer
spoken (Ok r) = cond (ltb r 2147483648) (Ok r) refused
spoken (Err e) = Err e

pub record ToldLookup (a : LookupAnswer) (r : TusuchiyLookupAnswer) : Type 0 where
  pub number : r.number ≡ pos (get_or (lookup_numbers (spoken a)) 0 0)
  pub row : r.row ≡ pos (get_or (lookup_numbers (spoken a)) 1 0)
