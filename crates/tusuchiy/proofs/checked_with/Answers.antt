-- `tusuchiy::checked_with` meets its contract.
use mathlib.Core.Path.{◌≡◌, refl}
use mathlib.Core.List.{map}
use lib.ListN.{length, length-map}
use Rattle.lent.specs.Lent.{held}
use Rattle.meaning.specs.Refusals.{may_lack}
use Rattle.rules.specs.Tabled.{table_of}
use native.Mathlib.Omega.{arith}
use Rattle.tusuchiy.proofs.Bounds.{small_findings}
use Rattle.tusuchiy.proofs.Laws.{covered, fits, roomy, few_lines_lem, tabled, outcome_read}
use Rattle.tusuchiy.proofs.checked_with.Goals as goal

pub fill_all-requires : goal.fill_all-requires
unfolding table_of may_lack
fill_all-requires c =
    let files = map (λ x. x.now) c.args.files in
    let tables = held c.args.tables.now in
    let six : length files ≡ 6 = omega (arith, length-map c.args.files (λ x. x.now)) in record {
      room = roomy files tables six refl c.requires.read 1 (omega arith) (omega arith) refl;
      room_2 = roomy files tables six refl c.requires.read 2 (omega arith) (omega arith) refl;
      fits = fits files tables six refl c.requires.read 3 (omega arith) (omega arith);
      room_3 = roomy files tables six refl c.requires.read 4 (omega arith) (omega arith) refl;
      room_4 = roomy files tables six refl c.requires.read 5 (omega arith) (omega arith) refl;
      fits_2 = fits files tables six refl c.requires.read 6 (omega arith) (omega arith);
      blank = (c.requires.blank.0, covered c.args.marks.now files _ c.requires.counts_value c.requires.blank.1);
    }

pub list_findings-requires : goal.list_findings-requires
list_findings-requires c =
    let files = map (λ x. x.now) c.args.files in
    let six : length files ≡ 6 = omega (arith, length-map c.args.files (λ x. x.now)) in
    few_lines_lem files (held c.args.tables.now) six refl c.requires.read _ c.requires.counts_value

pub returns : goal.returns
returns c =
    let files = map (λ x. x.now) c.args.files in
    let tables = held c.args.tables.now in
    let six : length files ≡ 6 = omega (arith, length-map c.args.files (λ x. x.now)) in
    let h = c.list_findings.ensures.result_after _ (tabled files tables six refl c.requires.read _ c.fill_all.ensures.tables_after _ c.requires.counts_value _ c.fill_all.ensures.noted.0 c.fill_all.ensures.noted.1) in record {
      same = c.fill_all.ensures.same;
      asked_value = outcome_read files tables six refl c.requires.read _ c.fill_all.ensures.tables_after _ _ c.args.from c.args.asked _ _ h c.answer_of.ensures;
      small = small_findings c.args.from _ _ _ _ _ h c.list_findings.ensures.total_bound c.answer_of.ensures;
    }
