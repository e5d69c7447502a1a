-- `forms::longitude_of` meets its contract.
use Rattle.std.specs.Prelude.{None}
use Rattle.forms.proofs.Laws.{raw_is, degrees_fits}
use Rattle.forms.proofs.NoMark.{degrees_marked}
use Rattle.forms.specs.Bounds.{DegreesFits}
use Rattle.meaning.specs.Forms.{longitude_of, degrees_text}
use Rattle.forms.proofs.longitude_of.Goals as goal

pub returns : goal.returns
unfolding longitude_of
returns c = raw_is None (degrees_text 180) (degrees_marked 180) (DegreesFits 180) (degrees_fits 180) _ _ c.content_of.ensures.0 _ c.degrees_text.ensures
