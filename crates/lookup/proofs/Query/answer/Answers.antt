-- `lookup::Query::answer` meets its contract.
use Rattle.lookup.proofs.Laws.{version_is, sought_none, sought_some}
use native.Mathlib.Omega.{arith}
use Rattle.lookup.proofs.Query.answer.Goals as goal

pub number_at-n-requires : goal.number_at-n-requires
number_at-n-requires c = omega arith

pub returns-then-n-eq0 : goal.returns-then-n-eq0
returns-then-n-eq0 c =
    let q = c.args.self.now in
    sought_none q.file.now q.table.now q.index.now q.code.now _ (version_is _ _ _ c.version_named-v.ensures c.pair_at.ensures.0) _ c.number_at-n.ensures.0 c.if-n-eq0.true

pub seek-requires : goal.seek-requires
seek-requires c =
    let m = c.if-n-eq0.false in
    (omega (arith, m), c.number_at-n.ensures.1)

pub returns : goal.returns
returns c =
    let q = c.args.self.now in
    sought_some q.file.now q.table.now q.index.now q.code.now _ (version_is _ _ _ c.version_named-v.ensures c.pair_at.ensures.0) _ c.number_at-n.ensures.0 c.if-n-eq0.false _ c.seek.ensures
