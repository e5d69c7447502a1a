-- What blank, mark and mark_if leave is one thing: two lists of marks that their contracts allow are equal.
use Rattle.std.specs.Prelude.{ℕ, ◌^◌, ◌<◌, ◌≡◌, List, Bool, length, get_or}
use Rattle.marks.specs.Marks.{Blank, OneMore, MarkedIf}

-- each number has sixteen bits, as its type says
abbrev pub Narrow : List ℕ → Type 0
Narrow m = (r : ℕ) → get_or m r 0 < 2 ^ 16

-- two lists of one length in which no record has a mark
abbrev pub OneBlank : Type 0
OneBlank = (a b : List ℕ) → Narrow a → Narrow b → length a ≡ length b → Blank a → Blank b → a ≡ b

-- two lists made from one by a mark
abbrev pub OneMarked : Type 0
OneMarked = (m a b : List ℕ) (c r : ℕ) → Narrow a → Narrow b → OneMore m a c r → OneMore m b c r → a ≡ b

-- .. by a mark where p holds
abbrev pub OneMarkedIf : Type 0
OneMarkedIf = (p : Bool) (m a b : List ℕ) (c r : ℕ) → Narrow a → Narrow b → MarkedIf p m a c r → MarkedIf p m b c r → a ≡ b
