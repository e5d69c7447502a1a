-- `forms::date_of` meets its contract.
use Rattle.std.specs.Prelude.{None}
use Rattle.forms.proofs.Laws.{raw_is, date_fits}
use Rattle.forms.proofs.NoMark.{date_marked}
use Rattle.forms.specs.Bounds.{DateFits}
use Rattle.meaning.specs.Forms.{date_of, date_text}
use Rattle.forms.proofs.date_of.Goals as goal

pub returns : goal.returns
unfolding date_of
returns c = raw_is None date_text date_marked DateFits date_fits _ _ c.content_of.ensures.0 _ c.date_text.ensures
