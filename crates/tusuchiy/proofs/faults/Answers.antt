-- `tusuchiy::faults` meets its contract.
use Prim.Native.Nat.{ℕ, ◌+◌}
use mathlib.Core.Path.{◌≡◌, refl, sym, ap, ◌∙◌}
use mathlib.Core.List.{List, map}
use mathlib.Core.Bool.{not}
use native.Mathlib.Omega.{arith}
use lib.ListN.{length, length-map, get_or-map}
use Rattle.std.proofs.Common.{rules}
use Rattle.meaning.specs.Lists.{empty}
use Rattle.meaning.specs.Tables.{file_of}
use Rattle.listing.specs.Handing.{state, adding}
use Rattle.faults.specs.List.{file_faults}
use Rattle.faults.specs.Told.{quad}
use Rattle.tusuchiy.proofs.AllFaults.{told_next, told_over, told_in, all_told, told_within}
use Rattle.tusuchiy.proofs.faults.Goals as goal

pub loop-i-init : goal.loop-i-init
loop-i-init c = ((refl, refl), (omega arith, (omega arith, all_told _ _ _)))

pub list_faults-requires : goal.list_faults-requires
list_faults-requires c = (omega arith, (omega arith, omega (arith, c.loop-i.invariant.1.1.0)))

pub loop-i-preserved : goal.loop-i-preserved
unfolding file_of empty
loop-i-preserved c =
    let files = map (λ x. x.now) c.args.files in
    let six : length files ≡ 6 = omega (arith, length-map c.args.files (λ x. x.now)) in
    let h = c.loop-i.invariant in
    let more = c.list_faults.ensures in
    let y = rw h.0.1 at (more.by_index files (ap (λ (s : List ℕ). not (empty s)) (sym (get_or-map (λ x. x.now) c.args.files 5 _)))) in (
      (more.same_list.0 ∙ h.0.0, more.same_list.1 ∙ h.0.1),
      (
        omega arith,
        (
          omega (arith, h.1.1.0, more.total_bound),
          told_next c.args.from files c.loop-i.i _ _ h.1.1.1 (omega arith) _ (y ∙ ap (λ (s : List ℕ). adding quad c.args.from (file_faults files (c.loop-i.i + 1) s) (state c.loop-i.told.out.now c.loop-i.told.sink)) (sym (get_or-map (λ x. x.now) c.args.files c.loop-i.i _))),
        ),
      ),
    )

pub returns : goal.returns
returns c =
    let files = map (λ x. x.now) c.args.files in
    let six : length files ≡ 6 = omega (arith, length-map c.args.files (λ x. x.now)) in
    let h = c.loop-i.invariant in
    let e = told_over c.args.from files c.loop-i.i (state c.loop-i.told.out.now c.loop-i.told.sink) _ h.1.1.1 (omega arith) in record {
      result_after = told_in c.args.from files _ _ _ _ e (search rules);
      written_le_total = (told_within c.args.from files _ _ e, omega (arith, h.1.1.0));
    }
