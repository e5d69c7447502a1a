-- Laws: the numbers of an answer are small.
use Prim.Native.Nat.{ℕ, ◌-◌, ◌*◌, ◌≤◌}
use mathlib.Core.Path.{◌≡◌, refl, sym, ap, ◌∙◌}
use mathlib.Core.List.Memᴰ
use mathlib.Core.List.{List}
use mathlib.Core.Bool.{Bool, true, false, cond}
use native.Mathlib.Omega.{arith}
use lib.IntN.{ℤ}
use lib.ListN.{length, get_or}
use lib.Dec.{ltb, eqb}
use borrow.Author.Tests.{le-ltb, ltb-true, ltb-false}
use Rattle.meaning.specs.declared.Refusal.{Refusal}
use Rattle.std.specs.Prelude.{Err}
use Rattle.meaning.specs.declared.Place.{Place}
use Rattle.meaning.specs.declared.Answer.{Answer}
use Rattle.meaning.specs.declared.Answer.TheVariants.{Accepted, Findings, Refused}
use Rattle.meaning.specs.Bytes.{count_lf}
use Rattle.meaning.specs.Tables.{file_of}
use Rattle.meaning.specs.Refusals.{Claim, claim, rule2, claims, verdict_of, max_lines}
use Rattle.meaning.specs.Findings.{Finding, triple, page, room_of}
use Rattle.meaning.specs.Promises.{file_tests, speaks_before, Sayable}
use Rattle.meaning.proofs.FirstBroken.{first_broken, earlier_kept}
use Rattle.meaning.proofs.Claims.{claim_of_file, claims_ordered}
use Rattle.meaning.proofs.Sayable.{refusal_numbers}
use Rattle.meaning.proofs.Handing.{page_within}
use Rattle.text.proofs.Lines.{lines_all}
use Rattle.listing.specs.declared.Sink.{Sink}
use Rattle.listing.specs.Handing.{State, state, handed_out}
use Rattle.tusuchiy.specs.Small.{Small}

module _ (files : List (List ℕ)) (rooms : List ℕ) (r : Refusal) (e : verdict_of files rooms ≡ Err r) (enough : length files ≤ length rooms) where
  said : Sayable files r
  said = refusal_numbers files rooms r e

  -- a line speaks only where rule 2 is kept
  few_lines_lem : 5 ≤ r.number → count_lf (file_of files r.file) ≤ max_lines
  unfolding file_tests rule2 speaks_before
  few_lines_lem h =
      let p : Claim = claim 2 r.file 0 (rule2 r.file (file_of files r.file) (get_or rooms (r.file - 1) 0)) in
      ltb-false max_lines (count_lf (file_of files r.file))
      (earlier_kept (claims files rooms) r ((first_broken files rooms r).0 e) (claims_ordered files rooms) p
      ((claim_of_file files rooms p refl).1 (record { line = refl; from = said.file.0; to = said.file.1; room = omega (arith, said.file.1); rule = Memᴰ.tail (Memᴰ.head refl) }))
      (λ q g. rw (le-ltb q.number 5 (rw (sym (ap (λ (x : Refusal). x.number) g)) at h)))
      (λ q g d. let n : r.number ≡ 2 = sym (ap (λ (x : Refusal). x.number) g) ∙ ap (λ (x : Claim). x.number) d in omega arith))

  pub small_line : r.line ≤ max_lines
  small_line = go (ltb r.number 5) refl
    where
      go : (t : Bool) → ltb r.number 5 ≡ t → r.line ≤ max_lines
      go true h = let z : r.line ≡ 0 = said.line.1 (omega (arith, ltb-true r.number 5 h)) in omega arith
      go false h = omega (arith, said.last, lines_all (file_of files r.file), few_lines_lem (ltb-false r.number 5 h))

  pub small_refusal : length files ≤ 6 → Small (Refused r)
  small_refusal h = (said.highest, (omega (arith, said.file.1), (small_line, said.column)))

pub small_findings :
    (p : Place) (ds : List Finding) (lent list : List ℤ) (k : Sink) (r : Answer)
    → state list k ≡ handed_out p ds lent
    → k.total ≤ 21 * max_lines
    → r ≡ cond (eqb k.total 0) Accepted (Findings k.written k.total)
    → Small r
small_findings p ds lent list k r g h e =
    let n : k.written ≡ length (page p (room_of lent) ds) = ap (λ (z : State). z.written) g in
    let m : k.total ≡ length ds = ap (λ (z : State). z.total) g in
    rw e (go (eqb k.total 0) (omega (arith, page_within triple p (room_of lent) ds)))
  where
    go : (b : Bool) → k.written ≤ 21 * max_lines → Small (cond b Accepted (Findings k.written k.total))
    go true w = tt
    go false w = (w, h)
