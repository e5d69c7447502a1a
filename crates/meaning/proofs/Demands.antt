-- The three demands hold of every outcome of six files and six tables.
use Prim.Native.Nat.{ℕ}
use native.Mathlib.Omega.{arith}
use mathlib.Core.Path.{◌≡◌}
use mathlib.Core.List.{List, map}
use lib.IntN.{ℤ}
use lib.ListN.{length}
use Rattle.meaning.specs.declared.Place.{Place}
use Rattle.meaning.specs.declared.Profile.{Profile}
use Rattle.std.specs.Prelude.{Ok}
use Rattle.meaning.specs.Tables.{feed_of}
use Rattle.meaning.specs.Refusals.{verdict_of}
use Rattle.meaning.specs.Outcome.{outcome}
use Rattle.meaning.specs.Demands.{Reads, Demand1, Demand2, Demand3}
use Rattle.meaning.proofs.FirstBroken.{first_broken, readable_exactly}
use Rattle.meaning.proofs.Claims.{claims_ordered, claims_exactly}
use Rattle.meaning.proofs.Readable.{values_kept}
use Rattle.meaning.proofs.TheList.{listed_exactly, list_ordered, refused_answer, refused_untouched, answer_ends}
use Rattle.meaning.proofs.Pages.{page_told, accepted_exactly}
use Rattle.meaning.proofs.TimesNeverFall.{accepted_times, accepted_sequences}
use Rattle.meaning.proofs.Held.{tables_held, tables_long, list_long}
use Rattle.meaning.proofs.Calls.{findings_join}

module _ (files : List (List ℕ)) (tables : List (List ℤ)) (list : List ℤ) (p : Place) (asked : Profile) where
  -- the verdict says whether the files can be read
  readable : Reads files tables → verdict_of files (map length tables) ≡ Ok tt
  readable = (readable_exactly files (map length tables)).1

  pub demand_1 : Demand1 files tables list (outcome files tables list p asked)
  demand_1 =
      let refused = refused_answer files tables list p asked in
      let broken = first_broken files (map length tables) in
      record {
        ends = answer_ends files tables list p asked;
        first = λ r. (λ e. (broken r).0 ((refused r).0 e), λ b. (refused r).1 ((broken r).1 b));
        order = claims_ordered files (map length tables);
        all = claims_exactly files (map length tables);
        untouched = refused_untouched files tables list p asked;
      }

  module _ (six : length files ≡ 6) (lent : length tables ≡ 6) where
    pub demand_2 : Demand2 files tables asked (outcome files tables list p asked)
    demand_2 =
        let exactly = accepted_exactly files tables list p asked in
        let read = readable_exactly files (map length tables) in
        record {
          values = λ n f i k low high inside known. values_kept files (map length tables) (readable n) f low (omega arith) i inside k known;
          held = λ n. tables_held files tables list p asked six (readable n) lent;
          long = tables_long files tables list p asked six;
          accepted = (λ e. let k = exactly.0 e in (read.0 k.0, k.1), λ k. exactly.1 (read.1 k.0, k.1));
          times = accepted_times files tables list p asked;
          sequences = accepted_sequences files tables list p asked;
        }

    pub demand_3 : Demand3 files tables list p asked (outcome files tables list p asked)
    demand_3 = record {
      all = listed_exactly asked (feed_of files);
      ordered = list_ordered asked (feed_of files);
      handed_out = λ n. page_told files tables list p asked (readable n);
      long = list_long files tables list p asked;
      joins = λ n room. findings_join asked files six tables list lent (readable n) room;
    }
