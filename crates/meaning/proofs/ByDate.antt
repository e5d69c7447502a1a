-- Services by date: each sentence of document 02's E1 holds of every outcome of six files and six tables.
use Prim.Native.Nat.{ℕ, ◌+◌, ◌-◌, ◌≤◌, ◌<◌}
use native.Mathlib.Omega.{arith}
use mathlib.Core.Path.{◌≡◌, refl, sym, ◌∙◌}
use mathlib.Core.Logic.{◌↔◌}
use mathlib.Core.Bool.{Bool, true, false, not, cond}
use mathlib.Core.List.{List, [], map, Memᴰ}
use lib.IntN.{ℤ}
use lib.ListN.{length, get_or, length-map}
use borrow.Author.Tests.{eq-eqb, ne_eqb, eqb-true}
use Rattle.meaning.specs.declared.Place.{Place}
use Rattle.meaning.specs.declared.Profile.{Profile}
use Rattle.std.specs.Prelude.{Result, Ok, Err}
use Rattle.meaning.specs.declared.Refusal.{Refusal}
use Rattle.meaning.specs.Lists.{same, empty, any, place, find, stands}
use Rattle.meaning.specs.Tables.{Feed, feed_of, file_of, refer, service_ids, dated_ids, exception_service}
use Rattle.meaning.specs.Refusals.{claim, claims, may_lack, ended, rule4, verdict_of}
use Rattle.meaning.specs.Rules.{row, same_service_and_date, rule20·dates, dangling, in_neither}
use Rattle.meaning.specs.Outcome.{outcome, read_outcome, refused_or}
use Rattle.meaning.specs.Promises.{file_tests}
use Rattle.meaning.specs.ByDate.{Again, NoLine, ByDate}
use Rattle.meaning.proofs.ListLaws.{both, and_both, same_equal, same_self}
use Rattle.meaning.proofs.Tests.{some_found, found_some, untrue}
use Rattle.meaning.proofs.References.{any_yes, any_no}
use Rattle.meaning.proofs.FirstBroken.{readable_exactly}
use Rattle.meaning.proofs.Claims.{claim_of_file}
use Rattle.meaning.proofs.Records.{no_lines, no_rows, unsupplied}
use Rattle.meaning.proofs.Held.{filled_at, tables_held}

-- ---- rule 4

module _ (files : List (List ℕ)) where
  pub passes : (room : ℕ) → rule4 files 6 [] room ≡ false
  unfolding rule4 may_lack empty
  passes room = refl

  -- rule 4 on an empty calendar.txt asks file 6
  third : (room : ℕ) → rule4 files 3 [] room ≡ empty (file_of files 6)
  unfolding rule4 may_lack empty
  third room = go (empty (file_of files 6))
    where
      go : (t : Bool) → cond (empty []) (not (not t)) (not (ended [])) ≡ t
      go true = refl
      go false = refl

  pub others : (f room : ℕ) → (f ≡ 3 → ⊥) → (f ≡ 6 → ⊥) → rule4 files f [] room ≡ true
  unfolding rule4 may_lack empty
  others f room a b = rw (ne_eqb f 3 a, ne_eqb f 6 b)

  pub both_empty_lem : (rooms : List ℕ) → 6 ≤ length files → 6 ≤ length rooms → file_of files 3 ≡ [] → file_of files 6 ≡ [] → Memᴰ (claim 4 3 0 true) (claims files rooms)
  unfolding file_tests empty
  both_empty_lem rooms six enough a b =
      let e : rule4 files 3 (file_of files 3) (get_or rooms 2 0) ≡ true = rw a (third (get_or rooms 2 0) ∙ none b) in
      rw (← e)
      ((claim_of_file files rooms (claim 4 3 0 (rule4 files 3 (file_of files 3) (get_or rooms 2 0))) refl).1 (record {
        line = refl;
        from = omega arith;
        to = omega arith;
        room = omega arith;
        rule = Memᴰ.tail (Memᴰ.tail (Memᴰ.tail (Memᴰ.head refl)));
      }))
    where
      none : file_of files 6 ≡ [] → empty (file_of files 6) ≡ true
      none e = rw e

-- ---- no line, no reference

none_named : (v : List ℕ) (ids : List (List ℕ)) → ids ≡ [] → refer v ids ≡ 0
unfolding refer find place
none_named v ids e = rw e (go (empty v))
  where
    go : (t : Bool) → ◌≡◌ {A = ℕ} (cond t 0 0) 0
    go true = refl
    go false = refl

no_services : (files : List (List ℕ)) → file_of files 3 ≡ [] → service_ids (feed_of files) ≡ []
unfolding service_ids feed_of
no_services files e = rw (e, no_rows)

no_dates : (files : List (List ℕ)) → file_of files 6 ≡ [] → dated_ids (feed_of files) ≡ []
unfolding dated_ids feed_of
no_dates files e = rw (e, no_rows)

-- ---- rules 20 and 21

pub twice : (w : Feed) (i : ℕ) → rule20·dates w i ≡ true ↔ Again w i
unfolding rule20·dates same_service_and_date
twice w i = (there, back)
  where
    P : ℕ → Bool
    P j = same_service_and_date (row w.dates j) (row w.dates i)

    there : rule20·dates w i ≡ true → Again w i
    there e =
        let k = some_found P 0 i e in
        let h = and_both (same (exception_service (row w.dates k.place)) (exception_service (row w.dates i))) _ k.is in
        record { line = k.place; earlier = omega (arith, k.high); service = same_equal _ _ h.0; date = eqb-true _ _ h.1 }

    back : Again w i → rule20·dates w i ≡ true
    back a = found_some P 0 i a.line (omega arith) (omega (arith, a.earlier)) (rw (a.service, same_self (exception_service (row w.dates i)), eq-eqb _ _ a.date))

-- a value stands nowhere exactly where no line has it
stands_not : (v : List ℕ) (ids : List (List ℕ)) → stands v ids ≡ false ↔ NoLine v ids
unfolding stands
stands_not v ids = (
  λ e j h. untrue (same (get_or ids j []) v) (λ y. both (any (λ x. same x v) ids) (any_yes (λ x. same x v) [] ids j h y) e),
  any_no (λ x. same x v) [] ids,
)

dangling_not : (v : List ℕ) (ids : List (List ℕ)) → empty v ≡ false → dangling v ids ≡ true ↔ NoLine v ids
unfolding dangling
dangling_not v ids h = (λ e. (stands_not v ids).0 (flip (stands v ids) (rw h at e)), λ n. rw (h, (stands_not v ids).1 n))
  where
    flip : (t : Bool) → not t ≡ true → t ≡ false
    flip true e = sym e
    flip false e = refl

pub neither : (w : Feed) (v : List ℕ) → empty v ≡ false → in_neither w v ≡ true ↔ NoLine v (service_ids w) × NoLine v (dated_ids w)
unfolding in_neither
neither w v h = (
  λ e. let b = and_both (dangling v (service_ids w)) (dangling v (dated_ids w)) e in ((dangling_not v (service_ids w) h).0 b.0, (dangling_not v (dated_ids w) h).0 b.1),
  λ n. rw ((dangling_not v (service_ids w) h).1 n.0, (dangling_not v (dated_ids w) h).1 n.1),
)

-- ---- the outcome

module _ (files : List (List ℕ)) (tables : List (List ℤ)) (list : List ℤ) (p : Place) (asked : Profile) (six : length files ≡ 6) (lent : length tables ≡ 6) where
  -- a table whose file isn't supplied
  table_left : (k : ℕ) → k < 6 → get_or files k [] ≡ [] → get_or (outcome files tables list p asked).tables k [] ≡ get_or tables k []
  unfolding outcome read_outcome
  table_left k h e = go (verdict_of files (map length tables))
    where
      go : (v : Result Unit Refusal) → get_or (refused_or v (read_outcome files tables list p asked) tables list).tables k [] ≡ get_or tables k []
      go (Ok tt) = filled_at 1 (feed_of files) files tables k (omega arith) (omega arith) ∙ rw e (unsupplied (1 + k) (feed_of files) (get_or tables k []))
      go (Err r) = refl

  pub by_date : ByDate files tables (outcome files tables list p asked)
  unfolding file_of
  by_date = record {
    passes = passes files;
    only_if = λ room. (λ e. sym (third files room) ∙ e, λ e. third files room ∙ e);
    others = others files;
    both = both_empty_lem files (map length tables) (omega arith) (omega (arith, length-map tables length));
    unread = λ f e. rw e no_lines;
    left = λ f low high e. table_left (f - 1) (omega arith) e;
    none_in_3 = λ e v. none_named v (service_ids (feed_of files)) (no_services files e);
    none_in_6 = λ e v. none_named v (dated_ids (feed_of files)) (no_dates files e);
    twice = twice (feed_of files);
    neither = neither (feed_of files);
    eighth = λ reads i h. ((tables_held files tables list p asked six ((readable_exactly files (map length tables)).1 reads) lent).trips.records i h).dated;
  }
