-- `text::Cursor::next_by` meets its contract.
use Rattle.text.proofs.Fields.{step_over, step_to, end_within}
use Rattle.text.proofs.Spans.{left_kept, left_over, left_asked, out_ended, out_over}
use Rattle.meaning.specs.Bytes.{start}
use mathlib.Core.Path.{refl}
use native.Mathlib.Omega.{arith}
use Rattle.text.proofs.Cursor.next_by.Goals as goal
use Rattle.text.proofs.Cursor.next_by.Goals.{else-loop-q-test, then-loop-q-test+then-l-i}

pub returns-then-l-at : goal.returns-then-l-at
returns-then-l-at c = step_over _ _ c.if-l-at.true

pub overflow_add-result : goal.overflow_add-result
overflow_add-result c = omega (arith, c.well_formed)

pub returns-then-l-at-2 : goal.returns-then-l-at-2
returns-then-l-at-2 c =
    step_to _ _ _ _ c.if-l-at.false (left_over c.args.l.now start _ _ _ (refl, refl) (omega arith))

pub next_state-q-requires : goal.next_state-q-requires
next_state-q-requires c = (c.requires, omega arith)

pub loop-q-init : goal.loop-q-init
loop-q-init c =
    let e = c.next_state-q.ensures in
    (e.1, omega arith, left_asked _ start _ _ _ (refl, refl) (omega arith) _ e.0)

pub next_state-q-requires-in-loop-q : goal.next_state-q-requires-in-loop-q
next_state-q-requires-in-loop-q c =
    (c.requires, c.loop-q.invariant.0)

pub loop-q-smaller : goal.loop-q-smaller
loop-q-smaller c = omega (arith, c.asked_from-i.ensures.1)

pub loop-q-preserved : goal.loop-q-preserved
loop-q-preserved c =
    let t = c.loop-q-test.true in
    let v = c.loop-q.invariant in
    let e = c.next_state-q-in-loop-q.ensures in
    (e.1, c.if-l-i.false, left_asked _ _ _ _ _ (left_kept _ _ _ _ _ _ v.0 t c.asked_from-i.ensures.0 (v.2.1 t)) c.if-l-i.false _ e.0)

pub overflow_add-result-2 : goal.overflow_add-result-2
overflow_add-result-2 c =
    let v = c.loop-q.invariant in
    let z = end_within c.args.l.now c.args.self.at _ c.if-l-at.false refl in
    elim c.loop-q-test.branch [
      | else-loop-q-test w ↦ let e = out_ended _ _ _ _ _ v.2 _ w.loop-q-test.false w.i-is in omega (arith, e.0, c.well_formed)
      | then-loop-q-test+then-l-i w ↦
          let e = out_over _ _ _ _ _ v.2 _ v.0 w.loop-q-test.true _ w.asked_from-i.ensures.0 w.if-l-i.true w.i-is in
          omega (arith, e.0, c.well_formed)
    ]

pub returns : goal.returns
returns c =
    let v = c.loop-q.invariant in
    step_to _ _ _ _ c.if-l-at.false
    (elim c.loop-q-test.branch [
      | else-loop-q-test w ↦ out_ended _ _ _ _ _ v.2 _ w.loop-q-test.false w.i-is
      | then-loop-q-test+then-l-i w ↦
          out_over _ _ _ _ _ v.2 _ v.0 w.loop-q-test.true _ w.asked_from-i.ensures.0 w.if-l-i.true w.i-is
    ])
