-- Laws: a default number; checks and calls for faults from a starting place; answers about an index.
use Prim.Native.Nat.{ℕ}
use mathlib.Core.Path.{◌≡◌, refl, subst, ap, ap₂, sym, ◌∙◌}
use mathlib.Core.List.{List}
use lib.IntN.{ℤ, pos}
use mir.Syntax.{w32}
use mir.Val.{to_z, of_z}
use Rattle.meaning.specs.declared.Place.{Place}
use Rattle.meaning.specs.declared.Profile.{Profile}
use Rattle.meaning.specs.Outcome.{Outcome, outcome}
use Rattle.tusuchiy_c.specs.declared.TusuchiyAnswer.{TusuchiyAnswer}
use Rattle.tusuchiy_c.specs.Told.{Told}
use Rattle.tusuchiy_c.specs.ToldCheck.{ToldCheck}
use Rattle.listing.specs.declared.Sink.{Sink}
use Rattle.listing.specs.Handing.{State, state}
use Rattle.faults.specs.Told.{told as faultsTold}
use Rattle.tusuchiy_c.specs.declared.TusuchiyFaultsAnswer.{TusuchiyFaultsAnswer}
use Rattle.tusuchiy_c.specs.ToldFaults.{ToldFaults}
use Rattle.indexes.specs.Answer.{IndexAnswer}
use Rattle.indexes.specs.Index.{checked, wrote, written}
use Rattle.tusuchiy_c.specs.declared.TusuchiyIndexAnswer.{TusuchiyIndexAnswer}
use Rattle.tusuchiy_c.specs.ToldIndex.{ToldIndex}

-- a default number, stored in a struct
pub still_zero : (z : ℤ) → z ≡ pos 0 → to_z w32 (of_z w32 z) ≡ pos 0
still_zero z e = ap (λ (x : ℤ). to_z w32 (of_z w32 x)) e

-- a check from one starting place and profile is told of others that are the same
pub told_check :
    (files : List (List ℕ)) (tables : List (List ℤ)) (list : List ℤ) (p q : Place) (asked given : Profile) (o : Outcome)
    → q ≡ p
    → given ≡ asked
    → outcome files tables list q given ≡ o
    → (r : TusuchiyAnswer)
    → Told o.answer r
    → (held : List (List ℤ))
    → held ≡ o.tables
    → ToldCheck (outcome files tables list p asked) r held o.list
told_check files tables list p q asked given o is same e r t held h =
    subst (λ (x : Outcome). ToldCheck x r held o.list) (sym e ∙ ap₂ (outcome files tables list) is same) (record { answer = t; tables = h; findings = refl })

-- a call for faults from one starting place is told of another that is the same
pub told_faults :
    (files : List (List ℕ)) (lent : List ℤ) (p q : Place)
    → q ≡ p
    → (out : List ℤ) (k : Sink)
    → state out k ≡ faultsTold files q lent
    → (r : TusuchiyFaultsAnswer)
    → r.written ≡ pos k.written
    → r.total ≡ pos k.total
    → ToldFaults (faultsTold files p lent) r out
told_faults files lent p q is out k e r w n =
    let s : state out k ≡ faultsTold files p lent = e ∙ ap (λ (x : Place). faultsTold files x lent) is in
    record {
      written = w ∙ ap (λ (x : State). pos x.written) s;
      total = n ∙ ap (λ (x : State). pos x.total) s;
      holds = ap (λ (x : State). x.out) s;
    }

-- an answer to one file number is told of another that is the same
module _ (f g : ℕ) (s : List ℕ) (is : f ≡ g) where
  pub told_wrote : (room : ℕ) (a : IndexAnswer) → a ≡ wrote f s room → (r : TusuchiyIndexAnswer) → ToldIndex a r → ToldIndex (wrote g s room) r
  told_wrote room a e r t = rw (← is, ← e) t

  pub told_written : (lent b : List ℕ) → b ≡ written f s lent → b ≡ written g s lent
  told_written lent b e = rw (← is) e

  pub told_checked : (b : List ℕ) (a : IndexAnswer) → a ≡ checked f s b → (r : TusuchiyIndexAnswer) → ToldIndex a r → ToldIndex (checked g s b) r
  told_checked b a e r t = rw (← is, ← e) t
