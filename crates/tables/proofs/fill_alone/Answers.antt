-- `tables::fill_alone` meets its contract.
use Rattle.records.proofs.References.{refers_none, indexed_none}
use Rattle.tables.proofs.Written.{written_filled}
use Rattle.tables.proofs.Feeds.{fits_room, filled_none}
use mathlib.Core.Path.{◌∙◌}
use native.Mathlib.Omega.{arith}
use Rattle.tables.proofs.fill_alone.Goals as goal

pub returns-then-s-eq0 : goal.returns-then-s-eq0
returns-then-s-eq0 c = λ w settled. filled_none _ w _ _ c.if-s-eq0.true

pub fill-requires : goal.fill-requires
fill-requires c = record {
  le_f = (c.requires.le_f.0.0, (c.requires.le_f.0.1, fits_room _ _ _ c.requires.fits (omega (arith, c.if-s-eq0.false))));
  count_le_max_lines = (omega arith, omega arith);
  indexed = indexed_none _ _ _ c.requires.le_f.1.0 c.requires.le_f.1.1;
}

pub returns : goal.returns
returns c =
    λ w settled.
    c.fill.ensures.t_after w (refers_none _ _ _ c.requires.le_f.1.0 c.requires.le_f.1.1 w) settled
    ∙ written_filled _ c.requires.le_f.1.1 w _ (c.requires.fits.lines (omega (arith, c.if-s-eq0.false))) _
