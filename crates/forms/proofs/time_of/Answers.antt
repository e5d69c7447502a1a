-- `forms::time_of` meets its contract.
use Rattle.forms.proofs.Laws.{raw_is, time_fits}
use Rattle.forms.proofs.NoMark.{time_marked}
use Rattle.forms.specs.Bounds.{TimeFits}
use Rattle.meaning.specs.Forms.{time_of, time_text}
use Rattle.meaning.specs.declared.Time.TheVariants.{NoTime}
use Rattle.forms.proofs.time_of.Goals as goal

pub returns : goal.returns
unfolding time_of
returns c = raw_is NoTime time_text time_marked TimeFits time_fits _ _ c.content_of.ensures.0 _ c.time_text.ensures
