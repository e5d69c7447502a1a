-- What is said of every feed whose file 6 is supplied, or isn't, is said of one at least: so two answers of which it is said are equal.
use Rattle.std.specs.Prelude.{ℕ, ◌≡◌, List, Bool, not}
use Rattle.meaning.specs.Lists.{empty}
use Rattle.meaning.specs.Tables.{file_of}

-- a feed whose file 6 is supplied, or isn't, as `dated` says
pub record Dated (dated : Bool) : Type 0 where
  pub files : List (List ℕ)
  pub is : dated ≡ not (empty (file_of files 6))

-- there is one for either
abbrev pub SomeDated : Type 0
SomeDated = (dated : Bool) → Dated dated
