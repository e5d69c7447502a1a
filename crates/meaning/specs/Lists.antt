-- Words about lists that every section uses.
use Rattle.std.specs.Prelude.{ℕ, zero, suc, ◌+◌, List, [], ◌∷◌, ◌++◌, Bool, true, false, cond, length, drop, ltb, eqb}
use Prim.Native.Char.{code}
use Prim.Native.String as S
use Prim.Native.String.{String}

-- the bytes of a text of characters up to U+00FF, each the byte with its number
abbrev pub ascii : String → List ℕ
ascii S.[] = []
ascii (S.◌∷◌ c r) = code c ∷ ascii r

-- are two byte strings equal
unfoldable pub same : List ℕ → List ℕ → Bool
same [] [] = true
same [] (y ∷ m) = false
same (x ∷ l) [] = false
same (x ∷ l) (y ∷ m) = let k = same l m in cond (eqb x y) k false

-- is a byte string empty
unfoldable pub empty : List ℕ → Bool
empty v = eqb (length v) 0

-- does a test hold of some element
unfoldable pub any : {A : Type 0} → (A → Bool) → List A → Bool
any P [] = false
any P (x ∷ r) = let k = any P r in cond (P x) true k

-- does a test hold of some number of n, from k on
unfoldable pub some : (ℕ → Bool) → ℕ → ℕ → Bool
some P k zero = false
some P k (suc n) = let r = some P (k + 1) n in cond (P k) true r

-- the elements of which a test holds, in order
unfoldable pub keep : {A : Type 0} → (A → Bool) → List A → List A
keep P [] = []
keep P (x ∷ r) = let k = keep P r in cond (P x) (x ∷ k) k

-- does a test hold of the last element
unfoldable pub last_has : {A : Type 0} → (A → Bool) → List A → Bool
last_has P [] = false
last_has P (x ∷ []) = P x
last_has P (x ∷ y ∷ r) = last_has P (y ∷ r)

-- lists joined
unfoldable pub flat : {A : Type 0} → List (List A) → List A
flat [] = []
flat (l ∷ r) = l ++ flat r

-- what a lent slice holds once `xs` is written at its start: the rest stays unchanged
unfoldable pub laid : {A : Type 0} → List A → List A → List A
laid xs lent = xs ++ drop (length xs) lent

-- where the first element of which a test holds stands, counted from n; 0 where it holds of none
unfoldable pub place : {A : Type 0} → (A → Bool) → ℕ → List A → ℕ
place P n [] = 0
place P n (x ∷ r) = let k = place P (n + 1) r in cond (P x) n k

-- where a value stands first among values that are counted from n; 0 where it doesn't
unfoldable pub find : List ℕ → ℕ → List (List ℕ) → ℕ
find v n vs = place (λ w. same w v) n vs

-- where a value stands for the second time among values that are counted from n; 0 where it doesn't
unfoldable pub find_again : List ℕ → ℕ → List (List ℕ) → ℕ
find_again v n [] = 0
find_again v n (w ∷ r) = let k = find_again v (n + 1) r in cond (same w v) (find v (n + 1) r) k

-- the lesser of two numbers, 0 being none
unfoldable pub lesser : ℕ → ℕ → ℕ
lesser a b = cond (eqb a 0) b (cond (eqb b 0) a (cond (ltb b a) b a))

-- the least of g 0, g 1, .., n of them, 0 being none
unfoldable pub least : (ℕ → ℕ) → ℕ → ℕ
least g zero = 0
least g (suc n) = lesser (least g n) (g n)

-- does a value stand among values
unfoldable pub stands : List ℕ → List (List ℕ) → Bool
stands v vs = any (λ w. same w v) vs
