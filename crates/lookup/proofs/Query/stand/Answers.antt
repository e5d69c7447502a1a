-- `lookup::Query::stand` meets its contract.
use Rattle.lookup.proofs.Laws.{place_read}
use Rattle.lookup.proofs.Laws.{stand_outside, stand_misplaced, stand_at}
use mathlib.Core.Path.{sym, ◌∙◌}
use Rattle.lookup.proofs.Query.stand.Goals as goal

pub returns-then-self-r : goal.returns-then-self-r
returns-then-self-r c = stand_outside _ _ _ _ c.if-self-r.true

pub returns-then-is_misplaced : goal.returns-then-is_misplaced
returns-then-is_misplaced c = stand_misplaced _ _ _ _ c.if-self-r.false (sym (place_read c.args.self.now.file.now c.args.self.now.table.now c.args.self.now.code.now c.args.r _ _ c.is_misplaced-arg-1.given c.is_misplaced-arg-2-1.given c.is_misplaced.ensures) ∙ c.if-is_misplaced.true)

pub returns : goal.returns
returns c = stand_at _ _ _ _ c.if-self-r.false (sym (place_read c.args.self.now.file.now c.args.self.now.table.now c.args.self.now.code.now c.args.r _ _ c.is_misplaced-arg-1.given c.is_misplaced-arg-2-1.given c.is_misplaced.ensures) ∙ c.if-is_misplaced.false) _ (rw c.raw_id.ensures at c.stand_to.ensures)
