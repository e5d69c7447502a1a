-- `text::walk_fields` meets its contract.
use Rattle.text.proofs.Fields.{from_start, field_found, field_none}
use Rattle.text.proofs.Spans.{note_length, told_first, told_next, told_last, told_rest, count_first, count_on, count_last, count_rest, note_on, note_last, note_rest, up_some}
use Rattle.meaning.specs.Bytes.{quoting}
use mathlib.Core.Path.{◌≡◌, refl, sym, ◌∙◌}
use Prim.Native.Nat.{◌+◌}
use native.Mathlib.Omega.{arith}
use Rattle.text.proofs.walk_fields.Goals as goal

pub loop-n-init : goal.loop-n-init
loop-n-init c =
    let l = c.args.l.now in
    let e = c.new-c.ensures in
    (refl, omega arith, told_first _ _ e, omega (arith, count_first l _ e.0), rw (e.0, from_start))

pub next_by-requires : goal.next_by-requires
unfolding quoting
next_by-requires c = refl

pub loop-n-preserved : goal.loop-n-preserved
loop-n-preserved c =
    let p = sym c.next_by.ensures ∙ c.in-Some.is in
    let s = field_found _ _ _ _ _ p in (
      note_length c.loop-n.starts _ (c.loop-n.n + 1) _ _ c.note.ensures c.loop-n.invariant.0,
      omega (arith, c.loop-n-test.true),
      told_next _ _ c.loop-n.invariant.2 _ _ _ p,
      count_on _ _ _ _ _ s _ _ c.loop-n.invariant.3,
      note_on _ _ _ _ _ s _ _ _ _ c.loop-n-test.true c.note.ensures c.loop-n.invariant.4,
    )

pub ends_good-requires : goal.ends_good-requires
ends_good-requires c = c.loop-n.invariant.2.0

pub returns-in_default : goal.returns-in_default
returns-in_default c =
    let l = c.args.l.now in
    let o = field_none _ _ (sym c.next_by.ensures ∙ c.in_default.is) in
    let k = count_last l _ _ _ o c.loop-n-test.true c.loop-n.invariant.3 in record {
      good_value = (told_last l _ c.loop-n.invariant.2 _ o c.ends_good.ensures, k, (up_some _ _ k).0, (up_some _ _ k).1);
      starts_after = note_last l _ c.loop-n.n _ _ c.loop-n.invariant.4 o;
    }

pub last_state-state-requires : goal.last_state-state-requires
last_state-state-requires c = c.loop-n.invariant.2.0

pub ends_good-requires-2 : goal.ends_good-requires-2
ends_good-requires-2 c = c.last_state-state.ensures.1

pub returns : goal.returns
returns c =
    let m : c.loop-n.n ≡ 33 = omega (arith, c.loop-n-test.false, c.loop-n.invariant.1) in
    let k = count_rest _ _ _ _ m c.loop-n.invariant.3 in record {
      good_value = (told_rest _ _ c.loop-n.invariant.2 _ _ c.last_state-state.ensures.0 c.ends_good-2.ensures, k, (up_some _ _ k).0, (up_some _ _ k).1);
      starts_after = note_rest _ _ c.loop-n.n _ _ c.loop-n.invariant.4 m;
    }
