-- `index_check::judge` meets its contract.
use Rattle.index_check.proofs.Laws.{size_is, speaks, silent, told_40, told_41, told_42, told_43, told_44, told_none}
use mathlib.Core.Path.{sym, ◌∙◌}
use native.Mathlib.Omega.{arith}
use Rattle.index_check.proofs.judge.Goals as goal

pub returns-then-is_unmarked : goal.returns-then-is_unmarked
returns-then-is_unmarked c = speaks c.args.f c.args.s.now c.args.b.now c.args.n c.requires.1 40 (omega arith) (told_40 c.args.f c.args.s.now c.args.b.now c.args.n c.requires.1 (sym c.is_unmarked.ensures ∙ c.if-is_unmarked.true))

pub returns-then-is_unknown : goal.returns-then-is_unknown
returns-then-is_unknown c = speaks c.args.f c.args.s.now c.args.b.now c.args.n c.requires.1 41 (omega arith) (told_41 c.args.f c.args.s.now c.args.b.now c.args.n c.requires.1 (sym c.is_unmarked.ensures ∙ c.if-is_unmarked.false) (sym c.is_unknown.ensures ∙ c.if-is_unknown.true))

pub returns-then-is_other : goal.returns-then-is_other
returns-then-is_other c = speaks c.args.f c.args.s.now c.args.b.now c.args.n c.requires.1 42 (omega arith) (told_42 c.args.f c.args.s.now c.args.b.now c.args.n c.requires.1 (sym c.is_unmarked.ensures ∙ c.if-is_unmarked.false) (sym c.is_unknown.ensures ∙ c.if-is_unknown.false) _ c.version_of.ensures (sym c.is_other.ensures ∙ c.if-is_other.true))

pub returns-then-has_stray : goal.returns-then-has_stray
returns-then-has_stray c = speaks c.args.f c.args.s.now c.args.b.now c.args.n c.requires.1 43 (omega arith) (told_43 c.args.f c.args.s.now c.args.b.now c.args.n c.requires.1 (sym c.is_unmarked.ensures ∙ c.if-is_unmarked.false) (sym c.is_unknown.ensures ∙ c.if-is_unknown.false) _ c.version_of.ensures (sym c.is_other.ensures ∙ c.if-is_other.false) (sym c.has_stray.ensures ∙ c.if-has_stray.true))

pub is_falling-requires : goal.is_falling-requires
is_falling-requires c = record {
  size = size_is _ _ c.args.f _ (sym c.is_other.ensures ∙ c.if-is_other.false);
  known = sym c.has_stray.ensures ∙ c.if-has_stray.false;
}

pub returns-then-is_falling : goal.returns-then-is_falling
returns-then-is_falling c = speaks c.args.f c.args.s.now c.args.b.now c.args.n c.requires.1 44 (omega arith) (told_44 c.args.f c.args.s.now c.args.b.now c.args.n c.requires.1 (sym c.is_unmarked.ensures ∙ c.if-is_unmarked.false) (sym c.is_unknown.ensures ∙ c.if-is_unknown.false) _ c.version_of.ensures (sym c.is_other.ensures ∙ c.if-is_other.false) (sym c.has_stray.ensures ∙ c.if-has_stray.false) (sym c.is_falling.ensures ∙ c.if-is_falling.true))

pub returns : goal.returns
returns c = silent c.args.f c.args.s.now c.args.b.now c.args.n c.requires.1 (told_none c.args.f c.args.s.now c.args.b.now c.args.n c.requires.1 (sym c.is_unmarked.ensures ∙ c.if-is_unmarked.false) (sym c.is_unknown.ensures ∙ c.if-is_unknown.false) _ c.version_of.ensures (sym c.is_other.ensures ∙ c.if-is_other.false) (sym c.has_stray.ensures ∙ c.if-has_stray.false) (sym c.is_falling.ensures ∙ c.if-is_falling.false))
