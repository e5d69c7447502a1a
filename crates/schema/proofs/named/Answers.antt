-- `schema::named` meets its contract.
use Rattle.schema.proofs.Laws.{Told, named_told}
use Rattle.std.proofs.Common.{rules, tests}
use Rattle.std.proofs.lemmas.Iterator.{YieldsList-from_slice}
use Rattle.std.proofs.lemmas.Iterator.Search.{position_from_yields_List}
use Rattle.meaning.specs.Lists.{same}
use Rattle.meaning.specs.Bytes.{value}
use Rattle.schema.proofs.named.Goals as goal

pub returns : goal.returns
returns c =
    named_told _ _ c.columns_of.ensures _ _
    (position_from_yields_List (λ (x : Told). same (value c.args.raw.now) x.0.now) _ _ c.position.result c.position.ensures.ran (YieldsList-from_slice _ c.iter.ensures.rest) (λ x b q k. search (rules, tests)))
