-- `forms::exception_of` meets its contract.
use Rattle.std.specs.Prelude.{None}
use Rattle.forms.proofs.Laws.{raw_is, choice_fits}
use Rattle.forms.proofs.NoMark.{digit_marked}
use Rattle.forms.specs.Bounds.{ChoiceFits}
use Rattle.meaning.specs.Forms.{exception_of, digit_text}
use Rattle.forms.proofs.exception_of.Goals as goal

pub returns : goal.returns
unfolding exception_of
returns c = raw_is None (digit_text 1 2) (digit_marked 1 2) (ChoiceFits 2) (choice_fits 1 2) _ _ c.content_of.ensures.0 _ c.digit_text.ensures
