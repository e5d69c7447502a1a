-- `forms::to_point` meets its contract.
use Rattle.forms.proofs.Laws.{point_is}
use Rattle.meaning.proofs.Coordinates.{point_within}
use Rattle.std.proofs.Common.{◌≡◌, sym, ◌∙◌, rules}
use borrow.Author.Tests.{tests}
use Rattle.std.proofs.lemmas.Iterator.{IsFirst-from_position, YieldsList-from_slice}
use Rattle.forms.proofs.to_point.Goals as goal

pub returns : goal.returns
returns c =
    let v = c.args.v.now in
    let e = point_is v c.position.result
    (IsFirst-from_position _ _ _ (λ x. x ≡ 46) (λ x. x ≡ 46 → ⊥) c.position.ensures.ran (YieldsList-from_slice v cc) (λ x q k. search (rules, tests)) (λ x q k. search (rules, tests))) in
    (c.unwrap_or.ensures ∙ sym e, rw (c.unwrap_or.ensures ∙ sym e) (point_within v))
