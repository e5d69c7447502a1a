-- `alone::read_alone` meets its contract.
use Rattle.alone.proofs.Laws.{long, many, unended, lines}
use mathlib.Core.Path.{sym, ◌∙◌}
use native.Mathlib.Omega.{arith}
use Rattle.alone.proofs.read_alone.Goals as goal

pub returns-then-s-gt-MAX_BYTES : goal.returns-then-s-gt-MAX_BYTES
returns-then-s-gt-MAX_BYTES c = long _ _ _ c.if-s-gt-MAX_BYTES.true c.refused.ensures

pub returns-then-lf-gt-MAX_LINES : goal.returns-then-lf-gt-MAX_LINES
returns-then-lf-gt-MAX_LINES c =
    many _ _ _ c.if-s-gt-MAX_BYTES.false (omega (arith, c.requires.2, c.if-lf-gt-MAX_LINES.true)) c.refused-then-lf-gt-MAX_LINES.ensures

pub returns-then-ends_with_lf : goal.returns-then-ends_with_lf
returns-then-ends_with_lf c =
    lines _ _ _ c.if-s-gt-MAX_BYTES.false (omega (arith, c.requires.2, c.if-lf-gt-MAX_LINES.false)) c.requires.1 (sym c.ends_with_lf.ensures ∙ c.if-ends_with_lf.true) c.read_file.ensures

pub returns : goal.returns
returns c =
    unended _ _ _ c.if-s-gt-MAX_BYTES.false (omega (arith, c.requires.2, c.if-lf-gt-MAX_LINES.false)) c.requires.1 (sym c.ends_with_lf.ensures ∙ c.if-ends_with_lf.false) c.refused-2.ensures
