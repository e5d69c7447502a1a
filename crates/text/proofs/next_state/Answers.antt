-- `text::next_state` meets its contract.
use Rattle.text.proofs.Fields.{next_at}
use Rattle.text.proofs.next_state.Goals as goal

pub returns : goal.returns
returns c =
    rw c.requires.0 (next_at c.args.q c.args.b _ c.class_of-c.ensures.0)
