-- Laws: one rule more of a line is one claim more.
use Prim.Native.Nat.{ℕ, ◌+◌}
use mathlib.Core.Path.{◌≡◌, refl, ap, ◌∙◌}
use mathlib.Core.List.{List, [], ◌∷◌, ◌++◌}
use mathlib.Core.Bool.{Bool, false}
use native.Mathlib.Numerals.{add-one}
use lib.ListN.{get_or}
use Rattle.meaning.specs.declared.Place.{Place}
use Rattle.meaning.specs.Refusals.{Test, test, claim_of, claim, on_line}
use Rattle.listing.specs.Handing.{State, noted, noting}
use Rattle.listing.proofs.Laws.{noting_append}
use Rattle.judging.specs.Judging.{tests_from}

pub line_append : (f n : ℕ) (ts us : List Test) → on_line f n (ts ++ us) ≡ on_line f n ts ++ on_line f n us
unfolding on_line
line_append f n [] us = refl
line_append f n (t ∷ ts) us = ap (λ l. claim_of f n t ∷ l) (line_append f n ts us)

-- the tests of none are noted by doing nothing
pub none_noted : (p : Place) (f n : ℕ) (ns : List ℕ) (bs : List Bool) (s : State) → s ≡ noting p (on_line f n (tests_from ns bs 0)) s
unfolding noting on_line tests_from
none_noted p f n ns bs s = refl

-- a turn: what stands after rule i, from what stood before it
pub note_turn :
    (p : Place) (f n : ℕ) (ns : List ℕ) (bs : List Bool) (i m : ℕ) (s t u : State)
    → t ≡ noting p (on_line f n (tests_from ns bs i)) s
    → m ≡ get_or ns i 0
    → u ≡ noted p (claim m f n (get_or bs i false)) t
    → u ≡ noting p (on_line f n (tests_from ns bs (i + 1))) s
unfolding tests_from noting on_line
note_turn p f n ns bs i m s t u e a g =
    let one = test (get_or ns i 0) (get_or bs i false) ∷ [] in
    g ∙ rw (e, a, add-one, line_append f n (tests_from ns bs i) one, noting_append p (on_line f n (tests_from ns bs i)) (on_line f n one) s)
