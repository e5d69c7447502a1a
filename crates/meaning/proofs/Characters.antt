-- A line is well-formed exactly when it is written in characters that the table allows; these are the shortest forms of the numbers of characters.
use Prim.Native.Nat.{ℕ, zero, suc, ◌+◌, ◌*◌, ◌-◌, ◌≤◌, ◌<◌}
use native.Mathlib.Omega.{arith}
use mathlib.Core.Path.{◌≡◌, refl, ap, ◌∙◌}
use mathlib.Core.Logic.{◌↔◌, ◌⊎◌, inl, inr}
use mathlib.Core.Bool.{Bool, true, false, cond, ◌&&◌}
use mathlib.Core.List.Memᴰ
use mathlib.Core.List.{List, [], ◌∷◌, ◌++◌, Memᴰ}
use lib.Dec.{leb, ltb}
use lib.ListN.{length, get_or}
use borrow.Author.Tests.{leb-true, le-leb, lt-leb, ltb-true, ltb-false, eqb-true}
use Rattle.meaning.specs.Lists.{any, flat}
use Rattle.meaning.specs.Characters.{Range, ◌to◌, sequences, within, fits, is_character, Written, never, begun, awaited, awaited_after, well_formed, Encodes, in_one, in_two, in_three, in_four, Encoded}
use Rattle.meaning.specs.Promises.{Each}
use Rattle.meaning.proofs.ListLaws.{both, and_both, nothing}
use Rattle.meaning.proofs.Tests.{Standing, below, level, over, standing}
use Rattle.meaning.proofs.Laws.{each_cons}
use Rattle.meaning.proofs.References.{any_yes}

-- ---- a byte in a range

within_low : (g : Range) (b : ℕ) → within g b ≡ true → g.first ≤ b
unfolding within
within_low g b e = leb-true g.first b (and_both (leb g.first b) (leb b g.last) e).0

within_high : (g : Range) (b : ℕ) → within g b ≡ true → b ≤ g.last
unfolding within
within_high g b e = leb-true b g.last (and_both (leb g.first b) (leb b g.last) e).1

pub within_yes : (g : Range) (b : ℕ) → g.first ≤ b → b ≤ g.last → within g b ≡ true
unfolding within
within_yes g b h k = rw (le-leb g.first b h, le-leb b g.last k)

no_byte : (b : ℕ) → within (1 to 0) b ≡ false
unfolding within
no_byte zero = refl
no_byte (suc b) = rw (le-leb 1 (suc b) (omega arith), lt-leb (suc b) 0 (omega arith))

never_fits : (p : List ℕ) → fits never p ≡ false
unfolding fits
never_fits [] = refl
never_fits (b ∷ r) = rw (no_byte b)

-- ---- from the walk to characters

-- bytes that begin with the rest of a character, and go on in characters
record Split (w : List Range) (l : List ℕ) : Type 0 where
  rest : List ℕ
  later : List (List ℕ)
  joined : rest ++ flat later ≡ l
  fitting : fits w rest ≡ true
  allowed : (c : List ℕ) → Memᴰ c later → is_character c ≡ true

-- a byte and what it makes awaited fit the row that it begins
begun_fits : (rows : List (List Range)) (b : ℕ) (p : List ℕ) → fits (begun rows b) p ≡ true → any (λ row. fits row (b ∷ p)) rows ≡ true
unfolding begun any fits
begun_fits [] b p e = both (fits never p) e (never_fits p)
begun_fits ([] ∷ rows) b p e = begun_fits rows b p e
begun_fits ((g ∷ row) ∷ rows) b p e = go (within g b) e (begun_fits rows b p)
  where
    go : (t : Bool) → fits (cond t row (begun rows b)) p ≡ true → (fits (begun rows b) p ≡ true → any (λ row. fits row (b ∷ p)) rows ≡ true)
        → cond (cond t (fits row p) false) true (any (λ row. fits row (b ∷ p)) rows) ≡ true
    go true h rest = rw h
    go false h rest = rest h

split : (l : List ℕ) (w : List Range) → awaited_after w l ≡ [] → Split w l
unfolding awaited_after awaited is_character flat fits
split [] w e = record { rest = []; later = []; joined = refl; fitting = rw e; allowed = λ c m. absurd (Memᴰ.not-nil m) }
split (b ∷ r) [] e = opened (split r (begun sequences b) e)
  where
    opened : Split (begun sequences b) r → Split [] (b ∷ r)
    opened s = record {
      rest = [];
      later = (b ∷ s.rest) ∷ s.later;
      joined = ap (λ l. b ∷ l) s.joined;
      fitting = refl;
      allowed = each_cons (λ c. is_character c ≡ true) (b ∷ s.rest) s.later (begun_fits sequences b s.rest s.fitting) s.allowed;
    }
split (b ∷ r) (g ∷ w) e = go (within g b) refl (split r (cond (within g b) w never) e)
  where
    go : (t : Bool) → within g b ≡ t → Split (cond t w never) r → Split (g ∷ w) (b ∷ r)
    go true q s = record { rest = b ∷ s.rest; later = s.later; joined = ap (λ l. b ∷ l) s.joined; fitting = rw q s.fitting; allowed = s.allowed }
    go false q s = both (fits never s.rest) s.fitting (never_fits s.rest)

-- ---- from characters to the walk

-- first bytes that rise from row to row, from m on: a byte begins one row at most
abbrev firsts_rise : ℕ → List (List Range) → Bool
firsts_rise m [] = true
firsts_rise m ([] ∷ rows) = false
firsts_rise m ((g ∷ row) ∷ rows) = leb m g.first && (leb g.first g.last && firsts_rise (g.last + 1) rows)

fits_begun : (m : ℕ) (rows : List (List Range)) → firsts_rise m rows ≡ true → (b : ℕ) (p : List ℕ) → any (λ row. fits row (b ∷ p)) rows ≡ true
    → (m ≤ b) × (fits (begun rows b) p ≡ true)
unfolding begun any fits
fits_begun m [] up b p e = both false e refl
fits_begun m ([] ∷ rows) up b p e = both false up refl
fits_begun m ((g ∷ row) ∷ rows) up b p e =
    let x = and_both (leb m g.first) (leb g.first g.last && firsts_rise (g.last + 1) rows) up in
    let y = and_both (leb g.first g.last) (firsts_rise (g.last + 1) rows) x.1 in
    go (within g b) refl (fits row p) refl (leb-true m g.first x.0) (leb-true g.first g.last y.0) e (fits_begun (g.last + 1) rows y.1 b p)
  where
    go : (t : Bool) → within g b ≡ t → (u : Bool) → fits row p ≡ u → m ≤ g.first → g.first ≤ g.last → cond (cond t u false) true (any (λ row. fits row (b ∷ p)) rows) ≡ true
        → (any (λ row. fits row (b ∷ p)) rows ≡ true → (g.last + 1 ≤ b) × (fits (begun rows b) p ≡ true)) → (m ≤ b) × (fits (cond t row (begun rows b)) p ≡ true)
    go true q true k h i e rest = (omega (arith, within_low g b q), k)
    go true q false k h i e rest = absurd (omega (arith, within_high g b q, (rest e).0))
    go false q u k h i e rest = let r = rest e in (omega arith, r.1)

fits_awaited : (p : List ℕ) (w : List Range) → fits w p ≡ true → awaited_after w p ≡ []
unfolding fits awaited_after awaited
fits_awaited [] [] e = refl
fits_awaited [] (g ∷ w) e = both false e refl
fits_awaited (b ∷ r) [] e = both false e refl
fits_awaited (b ∷ r) (g ∷ w) e = go (within g b) refl e (fits_awaited r w)
  where
    go : (t : Bool) → within g b ≡ t → cond t (fits w r) false ≡ true → (fits w r ≡ true → awaited_after w r ≡ []) → awaited_after (cond t w never) r ≡ []
    go true q h rest = rest h
    go false q h rest = both false h refl

pub awaited_append : (a b : List ℕ) (w : List Range) → awaited_after w (a ++ b) ≡ awaited_after (awaited_after w a) b
unfolding awaited_after
awaited_append [] b w = refl
awaited_append (x ∷ a) b w = awaited_append a b (awaited w x)

-- after a character nothing is awaited
character_over : (c : List ℕ) → is_character c ≡ true → awaited_after [] c ≡ []
unfolding is_character awaited_after awaited sequences
character_over [] e = refl
character_over (b ∷ p) e = fits_awaited p (begun sequences b) (fits_begun 0 sequences refl b p e).1

characters_over : (cs : List (List ℕ)) → ((c : List ℕ) → Memᴰ c cs → is_character c ≡ true) → awaited_after [] (flat cs) ≡ []
unfolding flat awaited_after
characters_over [] each = refl
characters_over (c ∷ cs) each =
    awaited_append c (flat cs) []
    ∙ rw (character_over c (each c (Memᴰ.head refl))) (characters_over cs (λ d m. each d (Memᴰ.tail m)))

-- A line is well-formed exactly when it is written in characters that the table allows.
pub well_formed_exactly : (l : List ℕ) → well_formed l ≡ true ↔ Written l
unfolding well_formed fits
well_formed_exactly l = (λ e. there (split l [] (nothing (awaited_after [] l) (omega (arith, eqb-true (length (awaited_after [] l)) 0 e)))), back)
  where
    there : Split [] l → Written l
    there s = go s.rest s.fitting s.joined
      where
        go : (p : List ℕ) → fits [] p ≡ true → p ++ flat s.later ≡ l → Written l
        go [] f j = record { characters = s.later; joined = j; allowed = s.allowed }
        go (b ∷ p) f j = both false f refl

    back : Written l → well_formed l ≡ true
    back w = rw (← w.joined, characters_over w.characters w.allowed)

-- ---- what the rows allow, by the numbers of characters

-- what holds of all bytes in a row's ranges, one after the other
abbrev Along : List Range → (List ℕ → Type 0) → Type 0
Along [] Q = Q []
Along (g ∷ row) Q = (b : ℕ) → g.first ≤ b → b ≤ g.last → Along row (λ c. Q (b ∷ c))

along_row : (row : List Range) (Q : List ℕ → Type 0) → Along row Q → (c : List ℕ) → fits row c ≡ true → Q c
unfolding fits
along_row [] Q q [] e = q
along_row [] Q q (b ∷ c) e = both false e refl
along_row (g ∷ row) Q q [] e = both false e refl
along_row (g ∷ row) Q q (b ∷ c) e = go (within g b) refl e (λ p. along_row row (λ d. Q (b ∷ d)) p c)
  where
    go : (t : Bool) → within g b ≡ t → cond t (fits row c) false ≡ true → (Along row (λ d. Q (b ∷ d)) → fits row c ≡ true → Q (b ∷ c)) → Q (b ∷ c)
    go true w h rest = rest (q b (within_low g b w) (within_high g b w)) h
    go false w h rest = both false h refl

-- a number that is large has no short form
at_least : (n : ℕ) (d : List ℕ) → Encodes n d → (1 ≤ length d) × (0x80 ≤ n → 2 ≤ length d) × (0x800 ≤ n → 3 ≤ length d) × (0x10000 ≤ n → 4 ≤ length d)
at_least n d (in_one a h) = (omega arith, λ k. absurd (omega arith), λ k. absurd (omega arith), λ k. absurd (omega arith))
at_least n d (in_two a b h i) = (omega arith, λ k. omega arith, λ k. absurd (omega arith), λ k. absurd (omega arith))
at_least n d (in_three a b c h i j) = (omega arith, λ k. omega arith, λ k. omega arith, λ k. absurd (omega arith))
at_least n d (in_four a b c e h i j l) = (omega arith, λ k. omega arith, λ k. omega arith, λ k. omega arith)

-- the bytes of a row, less what the first and each later one begins with, are the digits of a number
one_encoded : Along (0x00 to 0x7F ∷ []) Encoded
one_encoded x h k = record { number = x; encodes = in_one x (omega arith); shortest = λ d e. (at_least x d e).0; no_surrogate = inl (omega arith); highest = omega arith }

two_encoded : Along (0xC2 to 0xDF ∷ 0x80 to 0xBF ∷ []) Encoded
two_encoded x h k y i j =
    let p : 0xC0 + (x - 0xC0) ≡ x = omega arith in
    let q : 0x80 + (y - 0x80) ≡ y = omega arith in
    let n = (x - 0xC0) * 64 + (y - 0x80) in
    let m : 0x80 ≤ n = omega arith in
    record {
      number = n;
      encodes = rw (p, q) at (in_two (x - 0xC0) (y - 0x80) (omega arith) (omega arith));
      shortest = λ d e. (at_least n d e).1 m;
      no_surrogate = inl (omega arith);
      highest = omega arith;
    }

-- three bytes whose number has no shorter form and is no surrogate
three_encoded : (x y z : ℕ) → 0xE0 ≤ x → x ≤ 0xEF → 0x80 ≤ y → y ≤ 0xBF → 0x80 ≤ z → z ≤ 0xBF
    → 0x800 ≤ (x - 0xE0) * 4096 + (y - 0x80) * 64 + (z - 0x80)
    → ((x - 0xE0) * 4096 + (y - 0x80) * 64 + (z - 0x80) < 0xD800) ⊎ (0xDFFF < (x - 0xE0) * 4096 + (y - 0x80) * 64 + (z - 0x80))
    → Encoded (x ∷ y ∷ z ∷ [])
three_encoded x y z h i j k l m low free =
    let p : 0xE0 + (x - 0xE0) ≡ x = omega arith in
    let q : 0x80 + (y - 0x80) ≡ y = omega arith in
    let r : 0x80 + (z - 0x80) ≡ z = omega arith in
    let n = (x - 0xE0) * 4096 + (y - 0x80) * 64 + (z - 0x80) in
    record {
      number = n;
      encodes = rw (p, q, r) at (in_three (x - 0xE0) (y - 0x80) (z - 0x80) (omega arith) (omega arith) (omega arith));
      shortest = λ d e. (at_least n d e).2 low;
      no_surrogate = free;
      highest = omega arith;
    }

-- four bytes whose number has no shorter form and is not too high
four_encoded : (x y z u : ℕ) → 0xF0 ≤ x → x ≤ 0xF4 → 0x80 ≤ y → y ≤ 0xBF → 0x80 ≤ z → z ≤ 0xBF → 0x80 ≤ u → u ≤ 0xBF
    → 0x10000 ≤ (x - 0xF0) * 262144 + (y - 0x80) * 4096 + (z - 0x80) * 64 + (u - 0x80)
    → (x - 0xF0) * 262144 + (y - 0x80) * 4096 + (z - 0x80) * 64 + (u - 0x80) ≤ 0x10FFFF
    → Encoded (x ∷ y ∷ z ∷ u ∷ [])
four_encoded x y z u h i j k l m s t low high =
    let p : 0xF0 + (x - 0xF0) ≡ x = omega arith in
    let q : 0x80 + (y - 0x80) ≡ y = omega arith in
    let r : 0x80 + (z - 0x80) ≡ z = omega arith in
    let v : 0x80 + (u - 0x80) ≡ u = omega arith in
    let n = (x - 0xF0) * 262144 + (y - 0x80) * 4096 + (z - 0x80) * 64 + (u - 0x80) in
    record {
      number = n;
      encodes = rw (p, q, r, v) at (in_four (x - 0xF0) (y - 0x80) (z - 0x80) (u - 0x80) (omega arith) (omega arith) (omega arith) (omega arith));
      shortest = λ d e. (at_least n d e).3 low;
      no_surrogate = inr (omega arith);
      highest = high;
    }

-- every row allows encoded characters only
rows_encoded : Each (λ row. (c : List ℕ) → fits row c ≡ true → Encoded c) sequences
unfolding sequences
rows_encoded =
    row one_encoded
    (row two_encoded
    (row (λ x h i y j k z l m. three_encoded x y z (omega arith) (omega arith) (omega arith) (omega arith) l m (omega arith) (inl (omega arith)))
    (row (λ x h i y j k z l m. three_encoded x y z (omega arith) (omega arith) (omega arith) (omega arith) l m (omega arith) (inl (omega arith)))
    (row (λ x h i y j k z l m. three_encoded x y z (omega arith) (omega arith) (omega arith) (omega arith) l m (omega arith) (inl (omega arith)))
    (row (λ x h i y j k z l m. three_encoded x y z (omega arith) (omega arith) (omega arith) (omega arith) l m (omega arith) (inr (omega arith)))
    (row (λ x h i y j k z l m u s t. four_encoded x y z u (omega arith) (omega arith) (omega arith) (omega arith) l m s t (omega arith) (omega arith))
    (row (λ x h i y j k z l m u s t. four_encoded x y z u (omega arith) (omega arith) (omega arith) (omega arith) l m s t (omega arith) (omega arith))
    (row (λ x h i y j k z l m u s t. four_encoded x y z u (omega arith) (omega arith) (omega arith) (omega arith) l m s t (omega arith) (omega arith))
    (λ x m. absurd (Memᴰ.not-nil m))))))))))
  where
    row : {g : List Range} {rows : List (List Range)} → Along g Encoded → Each (λ row. (c : List ℕ) → fits row c ≡ true → Encoded c) rows → Each (λ row. (c : List ℕ) → fits row c ≡ true → Encoded c) (g ∷ rows)
    row {g} {rows} own rest = each_cons (λ row. (c : List ℕ) → fits row c ≡ true → Encoded c) g rows (along_row g Encoded own) rest

-- some row, where some row is asked for
row_found : (c : List ℕ) (rows : List (List Range)) → any (λ row. fits row c) rows ≡ true → Each (λ row. (d : List ℕ) → fits row d ≡ true → Encoded d) rows → Encoded c
unfolding any
row_found c [] e each = both false e refl
row_found c (g ∷ rows) e each = go (fits g c) refl e (λ h. row_found c rows h (λ x m. each x (Memᴰ.tail m)))
  where
    go : (t : Bool) → fits g c ≡ t → cond t true (any (λ row. fits row c) rows) ≡ true → (any (λ row. fits row c) rows ≡ true → Encoded c) → Encoded c
    go true q h rest = each g (Memᴰ.head refl) c q
    go false q h rest = rest h

-- ---- every character by its number is allowed by a row

-- bytes that stand in a row's ranges
abbrev Inside : List Range → List ℕ → Type 0
Inside [] [] = Unit {0}
Inside [] (b ∷ c) = ⊥
Inside (g ∷ row) [] = ⊥
Inside (g ∷ row) (b ∷ c) = (g.first ≤ b) × (b ≤ g.last) × Inside row c

inside_fits : (row : List Range) (c : List ℕ) → Inside row c → fits row c ≡ true
unfolding fits
inside_fits [] [] h = refl
inside_fits [] (b ∷ c) h = absurd h
inside_fits (g ∷ row) [] h = absurd h
inside_fits (g ∷ row) (b ∷ c) h = rw (within_yes g b h.0 h.1) (inside_fits row c h.2)

-- the row with index k allows them
allowed_by : (k : ℕ) → k < length sequences → (c : List ℕ) → Inside (get_or sequences k []) c → is_character c ≡ true
unfolding is_character
allowed_by k h c i = any_yes (λ row. fits row c) [] sequences k h (inside_fits (get_or sequences k []) c i)

two_allowed : (a b : ℕ) → a < 32 → b < 64 → 0x80 ≤ a * 64 + b → is_character ((0xC0 + a) ∷ (0x80 + b) ∷ []) ≡ true
unfolding sequences
two_allowed a b h i low = allowed_by 1 (omega arith) _ (omega arith, omega arith, (omega arith, omega arith, tt))

three_allowed : (a b c : ℕ) → a < 16 → b < 64 → c < 64 → 0x800 ≤ a * 4096 + b * 64 + c → (a * 4096 + b * 64 + c < 0xD800) ⊎ (0xDFFF < a * 4096 + b * 64 + c)
    → is_character ((0xE0 + a) ∷ (0x80 + b) ∷ (0x80 + c) ∷ []) ≡ true
unfolding sequences
three_allowed a b c h i j low free = go (standing a 0) (standing a 13) free
  where
    go : Standing a 0 → Standing a 13 → (a * 4096 + b * 64 + c < 0xD800) ⊎ (0xDFFF < a * 4096 + b * 64 + c) → is_character ((0xE0 + a) ∷ (0x80 + b) ∷ (0x80 + c) ∷ []) ≡ true
    go (below k) t f = absurd (omega arith)
    go (level k) t f = allowed_by 2 (omega arith) _ (omega arith, omega arith, (omega arith, omega arith, (omega arith, omega arith, tt)))
    go (over k) (below l) f = allowed_by 3 (omega arith) _ (omega arith, omega arith, (omega arith, omega arith, (omega arith, omega arith, tt)))
    go (over k) (level l) (inl f) = allowed_by 4 (omega arith) _ (omega arith, omega arith, (omega arith, omega arith, (omega arith, omega arith, tt)))
    go (over k) (level l) (inr f) = absurd (omega arith)
    go (over k) (over l) f = allowed_by 5 (omega arith) _ (omega arith, omega arith, (omega arith, omega arith, (omega arith, omega arith, tt)))

four_allowed : (a b c d : ℕ) → a < 8 → b < 64 → c < 64 → d < 64 → 0x10000 ≤ a * 262144 + b * 4096 + c * 64 + d → a * 262144 + b * 4096 + c * 64 + d ≤ 0x10FFFF
    → is_character ((0xF0 + a) ∷ (0x80 + b) ∷ (0x80 + c) ∷ (0x80 + d) ∷ []) ≡ true
unfolding sequences
four_allowed a b c d h i j l low high = go (standing a 0) (standing a 4)
  where
    go : Standing a 0 → Standing a 4 → is_character ((0xF0 + a) ∷ (0x80 + b) ∷ (0x80 + c) ∷ (0x80 + d) ∷ []) ≡ true
    go (below k) t = absurd (omega arith)
    go (level k) t = allowed_by 6 (omega arith) _ (omega arith, omega arith, (omega arith, omega arith, (omega arith, omega arith, (omega arith, omega arith, tt))))
    go (over k) (below m) = allowed_by 7 (omega arith) _ (omega arith, omega arith, (omega arith, omega arith, (omega arith, omega arith, (omega arith, omega arith, tt))))
    go (over k) (level m) = allowed_by 8 (omega arith) _ (omega arith, omega arith, (omega arith, omega arith, (omega arith, omega arith, (omega arith, omega arith, tt))))
    go (over k) (over m) = absurd (omega arith)

-- a number with a shorter form is refused for that; what is left is allowed
encoded_allowed : (n : ℕ) (c : List ℕ) → Encodes n c → ((d : List ℕ) → Encodes n d → length c ≤ length d) → (n < 0xD800) ⊎ (0xDFFF < n) → n ≤ 0x10FFFF → is_character c ≡ true
unfolding sequences
encoded_allowed n c (in_one a h) shortest free high = allowed_by 0 (omega arith) _ (omega arith, omega arith, tt)
encoded_allowed n c (in_two a b h i) shortest free high = go (ltb (a * 64 + b) 0x80) refl
  where
    go : (t : Bool) → ltb (a * 64 + b) 0x80 ≡ t → is_character ((0xC0 + a) ∷ (0x80 + b) ∷ []) ≡ true
    go true e = absurd (omega (arith, shortest _ (in_one (a * 64 + b) (ltb-true _ _ e))))
    go false e = two_allowed a b h i (ltb-false _ _ e)
encoded_allowed n c (in_three a b e h i j) shortest free high = go (ltb (a * 4096 + b * 64 + e) 0x800) refl
  where
    go : (t : Bool) → ltb (a * 4096 + b * 64 + e) 0x800 ≡ t → is_character ((0xE0 + a) ∷ (0x80 + b) ∷ (0x80 + e) ∷ []) ≡ true
    go true q =
        let small : a * 4096 + b * 64 + e < 0x800 = ltb-true _ _ q in
        let z : b * 64 + e ≡ a * 4096 + b * 64 + e = omega arith in
        absurd (omega (arith, shortest _ (rw z at (in_two b e (omega arith) j))))
    go false q = three_allowed a b e h i j (ltb-false _ _ q) free
encoded_allowed n c (in_four a b e d h i j k) shortest free high = go (ltb (a * 262144 + b * 4096 + e * 64 + d) 0x10000) refl
  where
    go : (t : Bool) → ltb (a * 262144 + b * 4096 + e * 64 + d) 0x10000 ≡ t → is_character ((0xF0 + a) ∷ (0x80 + b) ∷ (0x80 + e) ∷ (0x80 + d) ∷ []) ≡ true
    go true q =
        let small : a * 262144 + b * 4096 + e * 64 + d < 0x10000 = ltb-true _ _ q in
        let z : b * 4096 + e * 64 + d ≡ a * 262144 + b * 4096 + e * 64 + d = omega arith in
        absurd (omega (arith, shortest _ (rw z at (in_three b e d (omega arith) j k))))
    go false q = four_allowed a b e d h i j k (ltb-false _ _ q) high

-- The table allows exactly the shortest forms of the numbers of characters: no overlong forms, no surrogates, nothing above U+10FFFF.
pub characters_encoded : (c : List ℕ) → is_character c ≡ true ↔ Encoded c
unfolding is_character
characters_encoded c = (λ e. row_found c sequences e rows_encoded, λ x. encoded_allowed x.number c x.encodes x.shortest x.no_surrogate x.highest)
