-- `forms::sequence_of` meets its contract.
use Rattle.std.specs.Prelude.{None}
use Rattle.forms.proofs.Laws.{raw_is, number_fits}
use Rattle.forms.proofs.NoMark.{sequence_marked}
use Rattle.forms.specs.Bounds.{NumberFits}
use Rattle.meaning.specs.Forms.{sequence_of, sequence_text}
use Rattle.forms.proofs.sequence_of.Goals as goal

pub returns : goal.returns
unfolding sequence_of
returns c = raw_is None sequence_text sequence_marked NumberFits number_fits _ _ c.content_of.ensures.0 _ c.number.ensures.0
