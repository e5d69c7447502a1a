-- `noting::note_line` meets its contract. The loop's invariant: the first i rules are noted.
use mathlib.Core.Path.{refl, ◌∙◌}
use native.Mathlib.Omega.{arith}
use borrow.Author.Rules.{rules}
use Rattle.noting.proofs.Laws.{none_noted, note_turn}
use Rattle.noting.proofs.note_line.Goals as goal

pub loop-i-init : goal.loop-i-init
loop-i-init c = ((refl, refl), (none_noted _ _ _ _ _ _, omega arith))

pub loop-i-preserved : goal.loop-i-preserved
loop-i-preserved c =
    let h = c.loop-i.invariant in
    let same = c.note.ensures.same_list in (
      (same.0 ∙ h.0.0, same.1 ∙ h.0.1),
      (note_turn _ _ _ _ _ _ _ _ _ _ h.1.0 c.from.ensures (rw h.0.1 at c.note.ensures.result_after), search rules),
    )
