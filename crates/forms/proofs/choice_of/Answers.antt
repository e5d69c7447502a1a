-- `forms::choice_of` meets its contract.
use Rattle.std.specs.Prelude.{None}
use Rattle.forms.proofs.Laws.{raw_is, choice_fits}
use Rattle.forms.proofs.NoMark.{digit_marked}
use Rattle.forms.specs.Bounds.{ChoiceFits}
use Rattle.meaning.specs.Forms.{choice_of, digit_text}
use Rattle.forms.proofs.choice_of.Goals as goal

pub returns : goal.returns
unfolding choice_of
returns c =
    let m = c.args.m in
    raw_is None (digit_text 0 m) (digit_marked 0 m) (ChoiceFits m) (choice_fits 0 m) _ _ c.content_of.ensures.0 _ c.digit_text.ensures
