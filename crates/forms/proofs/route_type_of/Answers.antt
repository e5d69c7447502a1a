-- `forms::route_type_of` meets its contract.
use Rattle.std.specs.Prelude.{None}
use Rattle.forms.proofs.Laws.{raw_is, route_fits}
use Rattle.forms.proofs.NoMark.{route_marked}
use Rattle.forms.specs.Bounds.{ChoiceFits}
use Rattle.meaning.specs.Forms.{route_type_of, route_type_text}
use Rattle.forms.proofs.route_type_of.Goals as goal

pub returns : goal.returns
unfolding route_type_of
returns c = raw_is None route_type_text route_marked (ChoiceFits 12) route_fits _ _ c.content_of.ensures.0 _ c.route_type_text.ensures
