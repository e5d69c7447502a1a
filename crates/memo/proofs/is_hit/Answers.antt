-- `memo::is_hit` meets its contract.
use Rattle.memo.proofs.Laws.{hit_is}
use Rattle.meaning.proofs.ListLaws.{both}
use mathlib.Core.Path.{refl}
use mathlib.Core.Bool.{false}
use Rattle.memo.proofs.is_hit.Goals as goal

pub returns-then-r-eq0 : goal.returns-then-r-eq0
returns-then-r-eq0 c = λ e. both false e refl

pub returns : goal.returns
returns c = λ e. hit_is _ _ c.args.w c.args.r _ _ _ c.if-r-eq0.false c.raw_id.ensures c.same_values.ensures e
