-- `forms::latitude_of` meets its contract.
use Rattle.std.specs.Prelude.{None}
use Rattle.forms.proofs.Laws.{raw_is, degrees_fits}
use Rattle.forms.proofs.NoMark.{degrees_marked}
use Rattle.forms.specs.Bounds.{DegreesFits}
use Rattle.meaning.specs.Forms.{latitude_of, degrees_text}
use Rattle.forms.proofs.latitude_of.Goals as goal

pub returns : goal.returns
unfolding latitude_of
returns c = raw_is None (degrees_text 90) (degrees_marked 90) (DegreesFits 90) (degrees_fits 90) _ _ c.content_of.ensures.0 _ c.degrees_text.ensures
