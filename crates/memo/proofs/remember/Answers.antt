-- `memo::remember` meets its contract.
use lib.Seq.{set_out}
use mathlib.Core.Path.{sym}
use Rattle.memo.proofs.remember.Goals as goal

pub returns-else-h-memo : goal.returns-else-h-memo
returns-else-h-memo c = sym (set_out c.args.memo.now _ _ c.if-h-memo.false)
