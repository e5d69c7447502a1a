-- `text::note` meets its contract.
use mathlib.Core.Path.{sym}
use lib.Seq.{set_out}
use Rattle.text.proofs.note.Goals as goal

pub returns-else-n-t : goal.returns-else-n-t
returns-else-n-t c = sym (set_out _ _ _ c.if-n-t.false)
