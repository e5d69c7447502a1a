-- A mark that is set where a test holds.
use mathlib.Core.Path.{◌≡◌, refl}
use mathlib.Core.List.{List}
use mathlib.Core.Bool.{Bool, true, false}
use Prim.Native.Nat.{ℕ}
use Rattle.marks.specs.Marks.{OneMore, MarkedIf}

pub marked_yes : (p : Bool) (m m' : List ℕ) (b r : ℕ) → p ≡ true → OneMore m m' b r → MarkedIf p m m' b r
marked_yes p m m' b r e one = record { size = one.size; here = λ h. rw e (one.here h); other = λ c q free. one.other c q (λ x y. free x y e) }

pub marked_no : (p : Bool) (m : List ℕ) (b r : ℕ) → p ≡ false → MarkedIf p m m b r
marked_no p m b r e = record { size = refl; here = λ h. rw e; other = λ c q free. refl }
