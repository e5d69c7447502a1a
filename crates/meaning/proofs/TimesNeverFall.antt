-- Demand 2: in a feed with no finding, times never fall between any two timed lines of one trip, and no two lines of it share a sequence.
use Prim.Native.Nat.{ℕ, ◌+◌, ◌<◌}
use native.Mathlib.Omega.{arith}
use native.Mathlib.Nat.{add-sub_cancel}
use mathlib.Core.Path.{◌≡◌, refl}
use mathlib.Core.List.Memᴰ
use mathlib.Core.List.{List, [], Memᴰ}
use mathlib.Core.Bool.{Bool, true, false}
use lib.IntN.{ℤ}
use lib.ListN.{length}
use borrow.Author.Tests.{ltb-false, lt-ltb, eqb-false}
use Rattle.meaning.specs.declared.Place.{Place}
use Rattle.meaning.specs.declared.Profile.{Profile}
use Rattle.meaning.specs.Tables.{Feed, feed_of, rows_in}
use Rattle.meaning.specs.Refusals.{test}
use Rattle.meaning.specs.Rules.{sequence_at, is_of, outruns, rule28, rule29, time_rules, rules_of, record_count}
use Rattle.meaning.specs.Findings.{findings_of, answer_numbers}
use Rattle.meaning.specs.Outcome.{outcome}
use Rattle.meaning.specs.Promises.{says_accepted, TimesNeverFall, SequencesDiffer}
use Rattle.meaning.proofs.ListLaws.{and_second}
use Rattle.meaning.proofs.Tests.{some_none}
use Rattle.meaning.proofs.Pages.{accepted_exactly}
use Rattle.meaning.proofs.TheList.{listed_exactly}

-- ---- no finding: no rule is broken anywhere

module _ (asked : Profile) (w : Feed) (clean : findings_of asked w ≡ []) where
  pub unbroken : (f i r : ℕ) (t : Bool) → i < record_count w f → Memᴰ (test r t) (rules_of asked w f i) → t ≡ false
  unbroken f i r true h m = absurd (Memᴰ.not-nil (rw clean at ((listed_exactly asked w f (i + 2) r).1 (record {
    from = omega arith;
    to = omega arith;
    rule = rw (add-sub_cancel i 2) m;
  }))))
  unbroken f i r false h m = refl

  no_28 : (j : ℕ) → j < length w.stop_times → rule28 w j ≡ false
  unfolding record_count rows_in rules_of time_rules
  no_28 j h = unbroken 5 j 28 (rule28 w j) h (Memᴰ.tail (Memᴰ.tail (Memᴰ.tail (Memᴰ.tail (Memᴰ.head refl)))))

  no_29 : (j : ℕ) → j < length w.stop_times → rule29 w j ≡ false
  unfolding record_count rows_in rules_of time_rules
  no_29 j h = unbroken 5 j 29 (rule29 w j) h (Memᴰ.tail (Memᴰ.tail (Memᴰ.tail (Memᴰ.tail (Memᴰ.tail (Memᴰ.head refl))))))

-- ---- between two lines of one trip

module _ (asked : Profile) (w : Feed) (clean : findings_of asked w ≡ []) where
  pub times_never_fall : TimesNeverFall w
  unfolding rule29 is_of outruns sequence_at
  times_never_fall i j a b s t u l =
      let none = and_second _ _ (no_29 asked w clean j b) u in
      let here = and_second _ _ (some_none _ 0 (length w.stop_times) none i (omega arith) (omega arith)) s in
      ltb-false _ _ (and_second _ _ (and_second _ _ here t) (lt-ltb _ _ l))

  pub sequences_differ : SequencesDiffer w
  unfolding rule28 is_of sequence_at
  sequences_differ i j a b s e =
      let none = some_none _ 0 j (no_28 asked w clean j b) i (omega arith) (omega arith) in
      eqb-false _ _ (and_second _ _ none s) e

module _ (files : List (List ℕ)) (tables : List (List ℤ)) (list : List ℤ) (p : Place) (asked : Profile)
    (e : answer_numbers (outcome files tables list p asked).answer ≡ says_accepted) where
  pub accepted_times : TimesNeverFall (feed_of files)
  accepted_times = times_never_fall asked (feed_of files) ((accepted_exactly files tables list p asked).0 e).1

  pub accepted_sequences : SequencesDiffer (feed_of files)
  accepted_sequences = sequences_differ asked (feed_of files) ((accepted_exactly files tables list p asked).0 e).1
