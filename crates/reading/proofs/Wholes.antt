-- Rules 1 to 4 of whole files: each file's marks, and the first of them rule by rule.
use mathlib.Core.Path.{◌≡◌, refl, ◌∙◌}
use mathlib.Core.Bool.{Bool, true, false}
use mathlib.Core.List.{List, [], ◌∷◌, ◌++◌, append_assoc}
use Prim.Native.Nat.{ℕ, suc, ◌+◌, ◌-◌, ◌≤◌, ◌<◌}
use native.Mathlib.Omega.{arith}
use lib.ListN.{length, get_or, set, take, drop, drop_of_length-le}
use Rattle.std.specs.Prelude.{Option, Some, None, Result, Ok, Err}
use Rattle.meaning.specs.declared.Refusal.{Refusal}
use Rattle.meaning.specs.Refusals.{in_files, over_files, claims, speaks, rule1, rule2, rule3, rule4}
use Rattle.meaning.proofs.Arrays.{drop_next, fill_next, fill_all}
use Rattle.reading.specs.Wholes.{whole_of, wholes_from, wholes_of, rule_marks, first_true, marked, rules_from, whole_claims}
use Rattle.reading.proofs.Speaks.{whole_stop, whole_on}

-- a turn along the files, on the first that breaks rule k + 1
module _ (k : ℕ) (ws : List (List Bool)) (f : ℕ) (x : Option ℕ) (inv : first_true (f + 1) (rule_marks k (drop f ws)) ≡ x) where
  pub mark_here : f < length ws → get_or (get_or ws f []) k false ≡ true → Some (f + 1) ≡ x
  unfolding first_true rule_marks
  mark_here h e = rw (drop_next [] ws f h, e) at inv

  pub mark_next : f < length ws → get_or (get_or ws f []) k false ≡ false → first_true (f + 1 + 1) (rule_marks k (drop (f + 1) ws)) ≡ x
  unfolding first_true rule_marks
  mark_next h e = rw (drop_next [] ws f h, e) at inv

  pub mark_none : length ws ≤ f → None ≡ x
  unfolding first_true rule_marks
  mark_none h = rw (drop_of_length-le ws {i = f} h) at inv

-- a turn along the rules
module _ (ws : List (List Bool)) (k : ℕ) (v : Result Unit Refusal) (inv : speaks (rules_from k (4 - k) ws) ≡ v) where
  module _ (more : k < 4) where
    left : 4 - k ≡ suc (4 - (k + 1))
    left = omega arith

    pub rule_stop : (f : ℕ) → Some f ≡ first_true 1 (rule_marks k ws) → Err (record { number = k + 1; file = f; line = 0; column = 0 }) ≡ v
    unfolding rules_from
    rule_stop f e = whole_stop (k + 1) (rule_marks k ws) _ f e ∙ rw left at inv

    pub rule_next : None ≡ first_true 1 (rule_marks k ws) → speaks (rules_from (k + 1) (4 - (k + 1)) ws) ≡ v
    unfolding rules_from
    rule_next e = whole_on (k + 1) (rule_marks k ws) _ e ∙ rw left at inv

  pub rules_over : 4 ≤ k → Ok tt ≡ v
  unfolding rules_from speaks
  rules_over h = let z : 4 - k ≡ 0 = omega arith in rw z at inv

-- the marks of the first i files are put and those of the others follow: a turn along the files, and where none is left
module _ (files : List (List ℕ)) (rooms : List ℕ) (ws : List (List Bool)) (i : ℕ)
    (inv : take i ws ++ wholes_from files (i + 1) (drop i files) (drop i rooms) ≡ wholes_of files rooms) where
  pub wholes_next : i < length files → i < length rooms → i < length ws → (w : List Bool) → w ≡ whole_of files (i + 1) (get_or files i []) (get_or rooms i 0)
      → take (i + 1) (set ws i w) ++ wholes_from files (i + 1 + 1) (drop (i + 1) files) (drop (i + 1) rooms) ≡ wholes_of files rooms
  unfolding wholes_from
  wholes_next f r l w e = fill_next ws _ i w _ l (rw (drop_next [] files i f, drop_next 0 rooms i r, ← e) at inv)

  pub wholes_all : length files ≤ i → length ws ≤ i → ws ≡ wholes_of files rooms
  unfolding wholes_from
  wholes_all f l = fill_all ws _ i l (rw (drop_of_length-le files {i = i} f) at inv)

-- the marks of a rule over the files are its claims
module _ (files : List (List ℕ)) (number k : ℕ) (P : ℕ → List ℕ → ℕ → Bool)
    (mark : (f : ℕ) (s : List ℕ) (room : ℕ) → get_or (whole_of files f s room) k false ≡ P f s room) where
  over_marks : (f : ℕ) (ss : List (List ℕ)) (rooms : List ℕ) → marked number f (rule_marks k (wholes_from files f ss rooms)) ≡ over_files number P f ss rooms
  unfolding marked rule_marks wholes_from over_files
  over_marks f [] rooms = refl
  over_marks f (s ∷ r) [] = refl
  over_marks f (s ∷ r) (m ∷ rooms) = rw (mark f s m, over_marks (f + 1) r rooms)

pub all_claims : (files : List (List ℕ)) (rooms : List ℕ) → whole_claims (wholes_of files rooms) ++ in_files 1 files ≡ claims files rooms
unfolding whole_claims wholes_of rules_from whole_of claims
all_claims files rooms =
    rw (
      over_marks files 1 0 rule1 (λ f s m. refl) 1 files rooms,
      over_marks files 2 1 rule2 (λ f s m. refl) 1 files rooms,
      over_marks files 3 2 rule3 (λ f s m. refl) 1 files rooms,
      over_marks files 4 3 (rule4 files) (λ f s m. refl) 1 files rooms,
      append_assoc,
      append_assoc,
      append_assoc,
      append_assoc,
    )
