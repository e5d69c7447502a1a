-- `schema::known` meets its contract.
use Rattle.schema.proofs.Laws.{known_some, known_none}
use Rattle.schema.proofs.known.Goals as goal

pub returns-in-Some : goal.returns-in-Some
returns-in-Some c =
    let e = c.in-Some.ensures.lookup in
    known_some _ _ c.columns_of.ensures _ _ e.3.0 e.1

pub returns-in-None : goal.returns-in-None
returns-in-None c = known_none _ _ c.columns_of.ensures _ c.in-None.ensures.lookup.3
