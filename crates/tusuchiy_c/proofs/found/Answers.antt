-- `tusuchiy_c::found` meets its contract.
use mathlib.Core.Path.{refl}
use native.Mathlib.Omega.{arith}
use mir.ValLaws.{to_z_pos}
use mir.Syntax.{w32}
use Rattle.meaning.specs.Findings.{answer_numbers}
use Rattle.tusuchiy_c.proofs.Laws.{still_zero}
use Rattle.tusuchiy_c.proofs.found.Goals as goal

pub returns : goal.returns
unfolding answer_numbers
returns c =
    let d = c.default.ensures.1 in record {
      verdict = refl;
      number = still_zero _ d.0;
      file = still_zero _ d.1.0;
      line = still_zero _ d.1.1.0;
      column = still_zero _ d.1.1.1.0;
      written = to_z_pos w32 _ (omega arith);
      total = to_z_pos w32 _ (omega arith);
    }
