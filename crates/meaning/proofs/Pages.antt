-- Demand 3: what one call hands out and tells, and where it leaves off.
use Prim.Native.Nat.{ℕ}
use native.Mathlib.Omega.{arith}
use mathlib.Core.Path.{◌≡◌, refl, sym, ap, ◌∙◌}
use mathlib.Core.List.{List, [], ◌∷◌, map}
use mathlib.Core.Logic.{◌↔◌}
use mathlib.Core.Bool.{Bool, true, false, cond}
use lib.IntN.{ℤ}
use lib.ListN.{length, get_or}
use lib.Seq.{take-nil}
use lib.Dec.{eqb}
use borrow.Author.Tests.{ne_eqb}
use Rattle.meaning.specs.declared.Place.{Place}
use Rattle.meaning.specs.declared.Profile.{Profile}
use Rattle.std.specs.Prelude.{Result, Ok, Err}
use Rattle.meaning.specs.declared.Refusal.{Refusal}
use Rattle.meaning.specs.declared.Answer.TheVariants.{Accepted, Findings}
use Rattle.meaning.specs.Lists.{keep}
use Rattle.meaning.specs.Tables.{feed_of}
use Rattle.meaning.specs.Refusals.{verdict_of}
use Rattle.meaning.specs.Pages.{page_of}
use Rattle.meaning.specs.Findings.{Finding, findings_of, triple, page, room_of, answer_of, answer_numbers}
use Rattle.meaning.specs.Outcome.{outcome, read_outcome, refused_or}
use Rattle.meaning.specs.Promises.{comes_before, says_accepted, says_findings, says_read, written_in, total_in, PageTold}
use Rattle.meaning.proofs.ListLaws.{behind_sooner, sooner_once, nothing}
use Rattle.meaning.proofs.Handing.{Kind, page_given}

-- findings are entries of three numbers
pub findings_kind : Kind triple 3 comes_before
unfolding comes_before
findings_kind = record {
  wide = λ d. refl;
  holds = omega arith;
  order = λ d e. behind_sooner d.file d.line d.rule e.file e.line e.rule;
  once = λ d e h. sooner_once d.file d.line d.rule e.file e.line e.rule h;
}

-- ---- what an answer tells

-- of a feed that reads, the numbers are the page's length and the list's
pub told : (p : Place) (ds : List Finding) (lent : List ℤ) → answer_numbers (answer_of p ds lent) ≡ says_read (length (page p (room_of lent) ds)) (length ds)
unfolding answer_of answer_numbers
told p ds lent = go (eqb (length ds) 0)
  where
    n : ℕ
    n = length (page p (room_of lent) ds)

    go : (b : Bool) → answer_numbers (cond b Accepted (Findings n (length ds))) ≡ cond b says_accepted (says_findings n (length ds))
    go true = refl
    go false = refl

-- the total is the whole list's, whatever the starting place and the room
pub total_told : (p : Place) (ds : List Finding) (lent : List ℤ) → total_in (answer_numbers (answer_of p ds lent)) ≡ length ds
unfolding answer_of answer_numbers
total_told p [] lent = refl
total_told p (d ∷ r) lent = rw (ne_eqb (length (d ∷ r)) 0 (λ e. omega arith))

-- how many it tells were written
pub written_told : (p : Place) (ds : List Finding) (lent : List ℤ) → written_in (answer_numbers (answer_of p ds lent)) ≡ length (page p (room_of lent) ds)
unfolding answer_of answer_numbers page_of keep
written_told p [] lent = sym (ap length (take-nil (room_of lent)))
written_told p (d ∷ r) lent = rw (ne_eqb (length (d ∷ r)) 0 (λ e. omega arith))

-- A call on a readable feed hands out the earliest after its starting place, as many as fit, and tells their number and the total.
pub page_told : (files : List (List ℕ)) (tables : List (List ℤ)) (lent : List ℤ) (p : Place) (asked : Profile)
    → verdict_of files (map length tables) ≡ Ok tt
    → PageTold (findings_of asked (feed_of files)) p lent (outcome files tables lent p asked)
unfolding outcome read_outcome
page_told files tables lent p asked e =
    rw e (record {
      written = length (page p (room_of lent) (findings_of asked (feed_of files)));
      page = page_given findings_kind (findings_of asked (feed_of files)) p lent;
      answer = told p (findings_of asked (feed_of files)) lent;
    })

-- a feed is accepted exactly when it is readable and has no finding
pub accepted_exactly : (files : List (List ℕ)) (tables : List (List ℤ)) (lent : List ℤ) (p : Place) (asked : Profile)
    → answer_numbers (outcome files tables lent p asked).answer ≡ says_accepted ↔ (verdict_of files (map length tables) ≡ Ok tt) × (findings_of asked (feed_of files) ≡ [])
unfolding outcome read_outcome
accepted_exactly files tables lent p asked = (there (verdict_of files (map length tables)), λ h. rw h.0 (told p ds lent ∙ rw h.1))
  where
    ds : List Finding
    ds = findings_of asked (feed_of files)

    there : (v : Result Unit Refusal) → answer_numbers (refused_or v (read_outcome files tables lent p asked) tables lent).answer ≡ says_accepted → (v ≡ Ok tt) × (ds ≡ [])
    there (Ok tt) e = (refl, nothing ds (omega (arith, total_told p ds lent, ap total_in e)))
    there (Err r) e = let z : ◌≡◌ {A = ℕ} 2 0 = unfold answer_numbers in ap (λ (ns : List ℕ). get_or ns 0 0) e in absurd (omega arith)
