-- `reading::whole_of` meets its contract.
use Rattle.reading.specs.Wholes.{whole_of}
use Rattle.meaning.specs.Refusals.{rule1, rule2, rule3}
use Rattle.reading.proofs.whole_of.Goals as goal

pub returns : goal.returns
unfolding whole_of rule1 rule2 rule3
returns c files e = rw (← c.is_unended-unended.ensures files _ e, ← c.requires.2, ← c.is_short-short.ensures)
