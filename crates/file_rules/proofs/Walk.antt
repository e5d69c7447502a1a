-- Laws of a walk along the records of a file that hands out what each line breaks.
use Prim.Native.Nat.{ℕ, zero, suc, ◌+◌, ◌*◌, ◌-◌, ◌≤◌, ◌<◌}
use mathlib.Core.Path.{◌≡◌, refl, sym, ap, ◌∙◌}
use mathlib.Core.List.{List}
use mathlib.Core.Bool.{Bool}
use native.Mathlib.Omega.{arith}
use native.Mathlib.Nat.{mul-suc, mul-le-mul_left, mul-le-mul_right}
use lib.IntN.{ℤ}
use lib.ListN.{length, take}
use Rattle.meaning.specs.declared.Place.{Place}
use Rattle.meaning.specs.declared.Profile.{Profile}
use Rattle.meaning.specs.declared.Profile.TheVariants.{Plain, Boards}
use Rattle.meaning.specs.Tables.{Feed}
use Rattle.meaning.specs.Refusals.{on_line}
use Rattle.meaning.specs.Rules.{record_count, rules_of, on_records, bindings_of}
use Rattle.listing.specs.Handing.{State, noting}
use Rattle.listing.proofs.Laws.{noting_line, noting_end}
use Rattle.judging.specs.Judging.{filled_up, tests_from}
use Rattle.file_rules.specs.Lines.{rule_numbers, rule_count, Judges, Ready}

-- ---- how many rules are asked for

-- boards ask for the most of them, and for nine at most
pub most_asked : (asked : Profile) (f : ℕ) → (rule_count asked f ≤ rule_count Boards f) × (rule_count Boards f ≤ 9)
unfolding rule_count
most_asked asked zero = omega arith
most_asked asked (suc zero) = omega arith
most_asked asked (suc (suc zero)) = omega arith
most_asked asked (suc (suc (suc zero))) = omega arith
most_asked asked (suc (suc (suc (suc zero)))) = omega arith
most_asked Plain (suc (suc (suc (suc (suc zero))))) = omega arith
most_asked Boards (suc (suc (suc (suc (suc zero))))) = omega arith
most_asked asked (suc (suc (suc (suc (suc (suc zero)))))) = omega arith
most_asked asked (suc (suc (suc (suc (suc (suc (suc f))))))) = omega arith

-- as many numbers are asked for
pub asked_count : (asked : Profile) (f : ℕ) → length (take (rule_count asked f) (rule_numbers f)) ≡ rule_count asked f
unfolding rule_count rule_numbers filled_up
asked_count asked zero = refl
asked_count asked (suc zero) = refl
asked_count asked (suc (suc zero)) = refl
asked_count asked (suc (suc (suc zero))) = refl
asked_count asked (suc (suc (suc (suc zero)))) = refl
asked_count Plain (suc (suc (suc (suc (suc zero))))) = refl
asked_count Boards (suc (suc (suc (suc (suc zero))))) = refl
asked_count asked (suc (suc (suc (suc (suc (suc zero)))))) = refl
asked_count asked (suc (suc (suc (suc (suc (suc (suc f))))))) = refl

-- .. at most as many as of boards, and nine
pub few_asked : (asked : Profile) (f : ℕ) (numbers : List ℕ) → numbers ≡ take (rule_count asked f) (rule_numbers f) → (length numbers ≤ rule_count Boards f) × (length numbers ≤ 9)
few_asked asked f numbers e =
    let m = most_asked asked f in
    rw (e, asked_count asked f) (m.0, omega (arith, m.0, m.1))

-- and with what was judged they are what the file's are
pub asked_tests : (asked : Profile) (f : ℕ) (bs : List Bool) → tests_from (take (rule_count asked f) (rule_numbers f)) bs (rule_count asked f) ≡ tests_from (rule_numbers f) bs (rule_count asked f)
unfolding rule_count rule_numbers filled_up tests_from
asked_tests asked zero bs = refl
asked_tests asked (suc zero) bs = refl
asked_tests asked (suc (suc zero)) bs = refl
asked_tests asked (suc (suc (suc zero))) bs = refl
asked_tests asked (suc (suc (suc (suc zero)))) bs = refl
asked_tests Plain (suc (suc (suc (suc (suc zero))))) bs = refl
asked_tests Boards (suc (suc (suc (suc (suc zero))))) bs = refl
asked_tests asked (suc (suc (suc (suc (suc (suc zero)))))) bs = refl
asked_tests asked (suc (suc (suc (suc (suc (suc (suc f))))))) bs = refl

-- the numbers of file f, whose number k is
pub of_file : (asked : Profile) (f k : ℕ) (numbers : List ℕ) → f ≡ k → numbers ≡ take (rule_count asked k) (rule_numbers k) → numbers ≡ take (rule_count asked f) (rule_numbers f)
of_file asked f k numbers e g = g ∙ ap (λ j. take (rule_count asked j) (rule_numbers j)) (sym e)

-- what is left of a file's findings, from line i on, brings a list to what all of them bring the lent one to
abbrev pub Left : Profile → Place → ℕ → Feed → ℕ → State → State → Type 0
Left asked p f w i x x₀ = noting p (on_records f (rules_of asked w f) i (record_count w f - i)) x ≡ noting p (bindings_of asked w f) x₀

pub left_first : (asked : Profile) (p : Place) (f : ℕ) (w : Feed) (x : State) → Left asked p f w 0 x x
unfolding bindings_of
left_first asked p f w x = let e : record_count w f - 0 ≡ record_count w f = omega arith in rw e

module _ (asked : Profile) (f n : ℕ) (w : Feed) (t stops : List ℤ) (marks : List ℕ) (h : Ready f n w t stops marks) where
  -- what line i breaks is noted
  pub left_next :
      (i : ℕ) → i < n
      → (numbers : List ℕ) (broken : List Bool)
      → numbers ≡ take (rule_count asked f) (rule_numbers f)
      → Judges f w i broken
      → (p : Place) (x x₀ y : State)
      → y ≡ noting p (on_line f (i + 2) (tests_from numbers broken (length numbers))) x
      → Left asked p f w i x x₀
      → Left asked p f w (i + 1) y x₀
  left_next i inside numbers broken u judged p x x₀ y g inv =
      let k : tests_from numbers broken (length numbers) ≡ rules_of asked w f i = rw (u, asked_count asked f) (asked_tests asked f broken ∙ judged asked) in
      rw (rw k at g) (sym (noting_line p f (rules_of asked w f) (record_count w f) x i (omega (arith, h.all))) ∙ inv)

  -- no line is left
  pub left_last : (i : ℕ) → n ≤ i → (p : Place) (x x₀ : State) → Left asked p f w i x x₀ → x ≡ noting p (bindings_of asked w f) x₀
  left_last i past p x x₀ inv =
      sym (noting_end p f (rules_of asked w f) (record_count w f) x i (omega (arith, h.all))) ∙ inv

-- ---- how many there are at most, c on each line

pub count_first : (k c : ℕ) → k ≤ k + c * 0
count_first k c = omega arith

pub count_next : (k c i total more : ℕ) → total ≤ k + c * i → more ≤ total + c → more ≤ k + c * (i + 1)
count_next k c i total more h g =
    let one : i + 1 ≡ suc i = omega arith in
    let e : c * suc i ≡ c * i + c = mul-suc c i in
    rw one (omega arith)

pub count_last : (k c i n total : ℕ) → total ≤ k + c * i → i ≤ n → total ≤ k + c * n
count_last k c i n total h g =
    let m : c * i ≤ c * n = mul-le-mul_left {m = i} {n = n} c g in
    omega arith

-- a line has no more than nine rules
pub count_small : (k c i total : ℕ) → total ≤ k + c * i → c ≤ 9 → total ≤ k + 9 * i
count_small k c i total h g =
    let m : c * i ≤ 9 * i = mul-le-mul_right {m = c} {n = 9} i g in
    omega arith
