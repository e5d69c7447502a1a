-- `characters::next_state` meets its contract.
use Rattle.characters.proofs.Laws.{next_at}
use native.Mathlib.Omega.{arith}
use Rattle.characters.proofs.next_state.Goals as goal

pub returns : goal.returns
returns c =
    rw c.requires.0 (next_at c.args.q c.args.b _ (omega arith) (omega arith) c.class_of-c.ensures.0)
