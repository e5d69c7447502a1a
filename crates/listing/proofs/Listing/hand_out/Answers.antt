-- `listing::Listing::hand_out` meets its contract.
use mathlib.Core.Path.{◌∙◌, sym, refl}
use native.Mathlib.Omega.{arith}
use borrow.Author.Tests.{lt-ltb, le-ltb}
use lib.ListN.{length}
use Rattle.meaning.specs.Pages.{room_for}
use Rattle.listing.specs.Handing.{state}
use Rattle.listing.proofs.Laws.{same_state, added_in, added_full, added_before, within_room}
use borrow.Author.Rules.{rules}
use Rattle.listing.proofs.Listing.hand_out.Goals as goal
use Rattle.listing.proofs.Listing.hand_out.Goals.{else-comes_after-via-then-comes_after+else-written-self, else-comes_after-via-else-comes_after}

pub overflow_mul-written : goal.overflow_mul-written
overflow_mul-written c =
    let l = c.args.self.now in
    let h = within_room l.sink.written (length c.args.e.now) (length l.out.now) (omega (arith, c.requires.in_bounds)) c.if-written-self.true in
    search rules

pub store-requires : goal.store-requires
store-requires c =
    let l = c.args.self.now in
    let h = within_room l.sink.written (length c.args.e.now) (length l.out.now) (omega (arith, c.requires.in_bounds)) c.if-written-self.true in
    search rules

pub returns-then-written-self : goal.returns-then-written-self
unfolding room_for
returns-then-written-self c =
    let l = c.args.self.now in record {
      same_list = (refl, refl);
      result_after = same_state c.store.ensures refl refl
          ∙ sym (added_in l.from c.args.e.now (state l.out.now l.sink) (sym c.comes_after.ensures ∙ c.if-comes_after.true) (lt-ltb _ _ c.if-written-self.true));
      total_value = refl;
    }

pub returns-else-comes_after : goal.returns-else-comes_after
unfolding room_for
returns-else-comes_after c =
    let l = c.args.self.now in
    let e = c.args.e.now in record {
      same_list = (refl, refl);
      result_after = elim c.else-comes_after.branch [
        | else-comes_after-via-then-comes_after+else-written-self w ↦
            sym (added_full l.from e (state l.out.now l.sink) (sym c.comes_after.ensures ∙ w.if-comes_after.true) (le-ltb _ _ w.if-written-self.false))
        | else-comes_after-via-else-comes_after w ↦
            sym (added_before l.from e (state l.out.now l.sink) (sym c.comes_after.ensures ∙ w.if-comes_after.false))
      ];
      total_value = refl;
    }
