-- `text::Cursor::next` meets its contract.
use Rattle.meaning.specs.Bytes.{quoting}
use mathlib.Core.Path.{refl}
use Rattle.text.proofs.Cursor.next.Goals as goal

pub next_by-requires : goal.next_by-requires
unfolding quoting
next_by-requires c = refl
