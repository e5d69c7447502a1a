-- `memo::first_record` meets its contract.
use Rattle.memo.proofs.Laws.{hit_first, ready_set, found_own}
use Rattle.memo.proofs.first_record.Goals as goal

pub returns-then-is_hit : goal.returns-then-is_hit
returns-then-is_hit c =
    let f = hit_first _ _ _ _ _ _ c.slot-h.result _ c.requires.known c.recall-r.ensures.0 (c.is_hit.ensures c.if-is_hit.true) in record {
      first = f.0;
      upper_bound = f.1;
      ready = c.requires;
    }

pub first_record-q-requires : goal.first_record-q-requires
first_record-q-requires c = let p = c.requires in (p.placed, p.arranged)

pub returns : goal.returns
returns c =
    let p = c.requires in record {
      first = c.first_record-q.ensures.first;
      upper_bound = c.first_record-q.ensures.upper_bound;
      ready = ready_set _ _ _ _ _ _ _ _ p (found_own _ _ _ _ _ _ p.placed c.first_record-q.ensures.first c.first_record-q.ensures.upper_bound) c.remember.ensures;
    }
