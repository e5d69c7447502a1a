-- Laws of one fault: it is the first of the tests of its place that is broken, and it stands there; and of two, which comes first.
use Prim.Native.Nat.{ℕ, ◌<◌}
use mathlib.Core.Path.{◌≡◌, refl, sym, ap}
use mathlib.Core.Logic.{◌↔◌}
use mathlib.Core.Bool.{true}
use mathlib.Core.List.Memᴰ
use mathlib.Core.List.{List, Memᴰ}
use lib.ListN.{get_or}
use Rattle.meaning.specs.declared.Refusal.{Refusal}
use Rattle.std.specs.Prelude.{Result, Ok, Err}
use Rattle.meaning.specs.Refusals.{Test, Claim, on_line, speaks}
use Rattle.meaning.specs.Promises.{Ordered, no_claim, FirstBroken}
use Rattle.meaning.proofs.Laws.{get_d_mem}
use Rattle.meaning.proofs.Lines.{OnLine, line_in, rank, rank_file, rank_line, rank_turn, by_number}
use Rattle.meaning.proofs.FirstBroken.{spoken_first}
use Rattle.faults.specs.List.{said, fault_at}
use Rattle.faults.specs.Promises.{fault_before}

-- the broken claim that a fault is
abbrev pub claimed : Refusal → Claim
claimed d = record { number = d.number; file = d.file; line = d.line; column = d.column; broken = true }

-- faults come in the order of their claims by file, line, number
module _ (d e : Refusal) where
  pub before_file : d.file < e.file → fault_before d e ≡ true
  unfolding fault_before rank
  before_file h = rank_file by_number (claimed d) (claimed e) h

  pub before_line : d.file ≡ e.file → d.line < e.line → fault_before d e ≡ true
  unfolding fault_before rank
  before_line f h = rank_line by_number (claimed d) (claimed e) f h

  pub before_number : d.file ≡ e.file → d.line ≡ e.line → d.number < e.number → fault_before d e ≡ true
  unfolding fault_before rank
  before_number f n h = rank_turn by_number (claimed d) (claimed e) f n h

-- the first broken is one of the claims
pub first_among : (cs : List Claim) (d : Refusal) → FirstBroken cs d → Memᴰ (claimed d) cs
first_among cs d b =
    let e : get_or cs b.at no_claim ≡ claimed d
    = λ i. record { number = (b.spoken i).number; file = (b.spoken i).file; line = (b.spoken i).line; column = (b.spoken i).column; broken = b.broken i } in
    Memᴰ.cast (sym e) (get_d_mem cs b.at no_claim b.inside)

-- what is said is a fault
said_exactly : (v : Result Unit Refusal) (d : Refusal) → Memᴰ d (said v) ↔ v ≡ Err d
said_exactly v d = (there v, λ e. rw e (Memᴰ.head refl))
  where
    there : (v : Result Unit Refusal) → Memᴰ d (said v) → v ≡ Err d
    there (Ok tt) m = absurd (Memᴰ.not-nil m)
    there (Err r) m = ap Err (sym (Memᴰ.eq_of_singleton m))

module _ (f n : ℕ) (ts : List Test) where
  -- The fault of a place is the first of its tests that is broken.
  pub fault_exactly : (d : Refusal) → Memᴰ d (fault_at f n ts) ↔ FirstBroken (on_line f n ts) d
  unfolding fault_at
  fault_exactly d =
      let p = said_exactly (speaks (on_line f n ts)) d in
      let q = spoken_first (on_line f n ts) d in
      (λ m. q.0 (p.0 m), λ b. p.1 (q.1 b))

  -- The first broken of a place's tests has its file and line, and is one of the tests.
  pub first_here : (d : Refusal) → FirstBroken (on_line f n ts) d → OnLine f n ts (claimed d)
  first_here d b = line_in f n ts (claimed d) (first_among (on_line f n ts) d b)

  -- So has the fault of a place.
  pub fault_here : (d : Refusal) → Memᴰ d (fault_at f n ts) → OnLine f n ts (claimed d)
  fault_here d m = first_here d ((fault_exactly d).0 m)

  -- One fault rises.
  pub fault_ordered : Ordered fault_before (fault_at f n ts)
  unfolding fault_at
  fault_ordered = go (speaks (on_line f n ts))
    where
      go : (v : Result Unit Refusal) → Ordered fault_before (said v)
      go (Ok tt) = tt
      go (Err r) = ((λ y m. absurd (Memᴰ.not-nil m)), tt)
