-- `tables::placing::order_services` meets its contract.
use Rattle.tables.proofs.Feeds.{fits_room}
use Rattle.tables.proofs.Marking.{marking_none}
use mathlib.Core.Path.{refl}
use native.Mathlib.Omega.{arith}
use Rattle.tables.proofs.placing.order_services.Goals as goal

pub returns-then-s-eq0 : goal.returns-then-s-eq0
returns-then-s-eq0 c =
    let e = c.if-s-eq0.true in record {
      ordered_if = record { supplied = λ h. absurd (omega arith); lacking = λ z. (refl, refl) };
      marking = marking_none 3 _ _ e;
    }

pub order_file-requires : goal.order_file-requires
order_file-requires c = (omega arith, (omega arith, fits_room 3 _ _ c.requires (omega (arith, c.if-s-eq0.false))))

pub returns : goal.returns
returns c = record {
  ordered_if = record { supplied = λ h. c.order_file.ensures.ordered; lacking = λ z. absurd (c.if-s-eq0.false z) };
  marking = c.order_file.ensures.marking;
}
