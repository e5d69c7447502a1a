-- `tusuchiy_c::refused` meets its contract.
use mathlib.Core.Path.{refl}
use native.Mathlib.Omega.{arith}
use mir.ValLaws.{to_z_pos}
use mir.Syntax.{w32}
use Rattle.meaning.specs.Findings.{answer_numbers}
use Rattle.tusuchiy_c.proofs.Laws.{still_zero}
use Rattle.tusuchiy_c.proofs.refused.Goals as goal

pub returns : goal.returns
unfolding answer_numbers
returns c =
    let d = c.default.ensures.1.1.1.1.1 in record {
      verdict = refl;
      number = to_z_pos w32 _ (omega arith);
      file = to_z_pos w32 _ (omega arith);
      line = to_z_pos w32 _ (omega arith);
      column = to_z_pos w32 _ (omega arith);
      written = still_zero _ d.0;
      total = still_zero _ d.1;
    }
