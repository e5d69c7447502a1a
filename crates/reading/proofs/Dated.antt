-- A feed with file 6, and one without.
use mathlib.Core.Path.{refl}
use mathlib.Core.List.{[], ◌∷◌}
use mathlib.Core.Bool.{true, false}
use Rattle.meaning.specs.Lists.{empty}
use Rattle.meaning.specs.Tables.{file_of}
use Rattle.reading.specs.Dated.{SomeDated}

pub some_dated : SomeDated
unfolding file_of empty
some_dated true = record { files = [] ∷ [] ∷ [] ∷ [] ∷ [] ∷ (10 ∷ []) ∷ []; is = refl }
some_dated false = record { files = []; is = refl }
