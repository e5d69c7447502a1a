-- How numbers and a refusal are told: in decimal, each number after a blank.
use Rattle.std.specs.Prelude.{List, ℕ, ℤ, ◌++◌, codes, decimal, flat_map}
use Rattle.std.specs.Fmt.{signed_decimal}
use Rattle.meaning.specs.declared.Refusal.{Refusal}

-- a number of a table or list
abbrev pub number_told : ℤ → List ℕ
number_told z = codes " " ++ signed_decimal z

-- numbers of a table or list
abbrev pub each_told : List ℤ → List ℕ
each_told zs = flat_map number_told zs

-- what a refusal names: its number, file, line and column
abbrev pub refusal_told : Refusal → List ℕ
refusal_told r =
    codes " " ++ (decimal r.number ++ (codes " " ++ (decimal r.file ++ (codes " " ++ (decimal r.line ++ (codes " " ++ decimal r.column))))))
