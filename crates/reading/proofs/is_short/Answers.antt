-- `reading::is_short` meets its contract.
use Rattle.reading.proofs.Files.{wide, short_is}
use Rattle.reading.proofs.is_short.Goals as goal

pub nonzero_div-result : goal.nonzero_div-result
nonzero_div-result c = rw c.width_of-w.ensures (wide c.args.f c.requires.0 c.requires.1)

pub returns : goal.returns
returns c = rw c.width_of-w.ensures (short_is _ _ _ c.requires.0 c.requires.1)
