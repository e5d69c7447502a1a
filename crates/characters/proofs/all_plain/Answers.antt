-- `characters::all_plain` meets its contract.
use Rattle.std.proofs.Common.{rules, tests}
use Rattle.std.proofs.lemmas.Iterator.{YieldsList-from_slice}
use Rattle.std.proofs.lemmas.Iterator.Consumers.{fold_from_yields_List}
use Rattle.characters.proofs.Laws.{plain_folded}
use lib.Dec.{leb, ltb}
use mathlib.Core.Path.{◌∙◌}
use mathlib.Core.Bool.{true, ◌&&◌}
use Rattle.characters.proofs.all_plain.Goals as goal

pub returns : goal.returns
returns c =
    fold_from_yields_List _ (λ a b. a && (leb 0x20 b && ltb b 0x80)) true _ c.fold.ensures.ran (YieldsList-from_slice _ c.iter.ensures.rest) (λ a x b q k. search (rules, tests)) ∙ plain_folded true c.args.s.now
