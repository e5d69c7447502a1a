-- `file_rules::list_file` meets its contract. The loop's invariant: what is left of the findings brings the list to what all of them are to bring it to.
use Prim.Native.Nat.{◌<◌}
use mathlib.Core.Path.{refl, ◌∙◌}
use native.Mathlib.Omega.{arith}
use Rattle.meaning.specs.declared.Profile.TheVariants.{Boards}
use Rattle.file_rules.proofs.Walk.{left_first, left_next, left_last, count_first, count_next, count_last, count_small, most_asked, few_asked}
use Rattle.file_rules.proofs.list_file.Goals as goal

pub loop-i-init : goal.loop-i-init
loop-i-init c =
    ((refl, refl), (λ asked e w h. left_first asked _ _ _ _, (omega arith, count_first _ _)))

pub note_line-requires : goal.note_line-requires
note_line-requires c =
    let few = few_asked c.args.asked _ _ c.numbers_of-numbers.ensures in
    let inv = c.loop-i.invariant.1.1 in
    let small = count_small _ _ _ _ inv.1 (most_asked Boards _).1 in
    let q = c.requires in record {
      file_bound = omega (arith, q.1.0);
      count_bound = (few.1, omega (arith, few.1, small, inv.0, q.1.1));
    }

pub loop-i-preserved : goal.loop-i-preserved
loop-i-preserved c =
    let few = few_asked c.args.asked _ _ c.numbers_of-numbers.ensures in
    let h = c.loop-i.invariant in
    let more = c.note_line.ensures in
    let below : c.loop-i.i < c.args.n = omega arith in (
      (more.same_list.0 ∙ h.0.0, more.same_list.1 ∙ h.0.1),
      (
        λ asked e w ready.
            left_next asked _ _ w _ _ _ ready c.loop-i.i below _ _ e (c.judge_line-broken.ensures w _ ready below) _ _ _ _ (rw h.0.1 at more.result_after) (h.1.0 asked e w ready),
        (omega arith, count_next _ _ _ _ _ h.1.1.1 (omega (arith, more.total_bound, few.0))),
      ),
    )

pub returns : goal.returns
returns c =
    let inv = c.loop-i.invariant in record {
      same_list = inv.0;
      result_after = λ w h. left_last _ _ _ w _ _ _ h c.loop-i.i (omega arith) _ _ _ (inv.1.0 _ c.numbers_of-numbers.ensures w h);
      total_bound = count_last _ _ c.loop-i.i _ _ inv.1.1.1 inv.1.1.0;
    }
