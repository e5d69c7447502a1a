-- `tusuchiy::checked_from` meets its contract: the lines of a feed that can be read are few enough.
use mathlib.Core.Path.{◌≡◌, refl}
use mathlib.Core.List.{map}
use lib.ListN.{length, length-map}
use Rattle.lent.specs.Lent.{held}
use Rattle.tusuchiy.proofs.Laws.{few_lines_lem}
use native.Mathlib.Omega.{arith}
use Rattle.tusuchiy.proofs.+checked_from.Goals as goal

pub checked_up_to-requires-then-counts-i-gt-FEW_LINES-clause-by_index : goal.checked_up_to-requires-then-counts-i-gt-FEW_LINES-clause-by_index
checked_up_to-requires-then-counts-i-gt-FEW_LINES-clause-by_index t c =
    let files = map (λ x. x.now) c.args.files in
    let six : length files ≡ 6 = omega (arith, length-map c.args.files (λ x. x.now)) in
    few_lines_lem files (held c.args.tables.now) six refl c.requires.read _ c.requires.counts_value
