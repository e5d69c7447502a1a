-- `listing::Listing::note` meets its contract.
use mathlib.Core.Path.{◌∙◌, refl}
use native.Mathlib.Omega.{arith}
use mir.Syntax.{w32}
use mir.ValLaws.{to_z_pos}
use Rattle.listing.specs.Handing.{noted}
use Rattle.listing.proofs.Listing.note.Goals as goal

pub returns-then-broken : goal.returns-then-broken
unfolding noted
returns-then-broken c =
    let small = c.requires.file_bound in
    let e =
    simp (to_z_pos w32 _ small.0, to_z_pos w32 _ small.1.0, to_z_pos w32 _ small.1.1) at c.hand_out.ensures.result_after in record {
      same_list = c.hand_out.ensures.same_list;
      result_after = e ∙ rw c.if-broken.true;
      total_bound_2 = omega arith;
    }

pub returns-else-broken : goal.returns-else-broken
unfolding noted
returns-else-broken c = record {
  same_list = (refl, refl);
  result_after = rw c.if-broken.false;
  total_bound_2 = omega arith;
}
