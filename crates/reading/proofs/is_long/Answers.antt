-- `reading::is_long` meets its contract.
use Rattle.reading.proofs.is_long.Goals as goal

pub returns-then-ident : goal.returns-then-ident
returns-then-ident c = rw c.if-ident.true
