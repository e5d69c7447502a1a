-- Rules 1 to 4 of whole files, by marks; and what is read after them.
use Rattle.std.specs.Prelude.{ℕ, zero, suc, ◌+◌, List, [], ◌∷◌, ◌++◌, map, Bool, false, cond, get_or, Option, Some, None, Result, Ok, Err}
use Rattle.meaning.specs.declared.Refusal.{Refusal}
use Rattle.meaning.specs.Refusals.{Claim, claim, rule1, rule2, rule3, rule4}

-- which of rules 1 to 4 a file breaks
unfoldable pub whole_of : List (List ℕ) → ℕ → List ℕ → ℕ → List Bool
whole_of files f s room = rule1 f s room ∷ rule2 f s room ∷ rule3 f s room ∷ rule4 files f s room ∷ []

-- the same of files from file f on, each with its table's length
unfoldable pub wholes_from : List (List ℕ) → ℕ → List (List ℕ) → List ℕ → List (List Bool)
wholes_from files f [] rooms = []
wholes_from files f (s ∷ r) [] = []
wholes_from files f (s ∷ r) (m ∷ rooms) = whole_of files f s m ∷ wholes_from files (f + 1) r rooms

unfoldable pub wholes_of : List (List ℕ) → List ℕ → List (List Bool)
wholes_of files rooms = wholes_from files 1 files rooms

-- the marks of rule k + 1, file by file
unfoldable pub rule_marks : ℕ → List (List Bool) → List Bool
rule_marks k wholes = map (λ w. get_or w k false) wholes

-- the number of the first mark that is true, counted from n
unfoldable pub first_true : ℕ → List Bool → Option ℕ
first_true n [] = None
first_true n (b ∷ r) = let k = first_true (n + 1) r in cond b (Some n) k

-- one rule over files, from file f, by its mark for each
unfoldable pub marked : ℕ → ℕ → List Bool → List Claim
marked number f [] = []
marked number f (b ∷ r) = claim number f 0 b ∷ marked number (f + 1) r

-- n rules from rule k + 1 on, each over all files
unfoldable pub rules_from : ℕ → ℕ → List (List Bool) → List Claim
rules_from k zero wholes = []
rules_from k (suc n) wholes = marked (k + 1) 1 (rule_marks k wholes) ++ rules_from (k + 1) n wholes

-- rules 1 to 4
unfoldable pub whole_claims : List (List Bool) → List Claim
whole_claims wholes = rules_from 0 4 wholes

-- the first of two verdicts that refuses
unfoldable pub or_else : Result Unit Refusal → Result Unit Refusal → Result Unit Refusal
or_else (Ok tt) u = u
or_else (Err r) u = Err r
