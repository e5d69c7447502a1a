-- `records::FileLine::field_place` meets its contract.
use mathlib.Core.Path.{refl}
use native.Mathlib.Omega.{arith}
use Rattle.records.proofs.FileLine.field_place.Goals as goal

pub overflow_add-result : goal.overflow_add-result
overflow_add-result c = let h = c.args.self.now in omega (arith, h.lies, h.located.within c.args.k)

pub overflow_add-result-2 : goal.overflow_add-result-2
overflow_add-result-2 c = let h = c.args.self.now in omega (arith, h.lies, h.located.within c.args.k)

pub returns : goal.returns
returns c =
    let h = c.args.self.now in
    let w = h.located.within c.args.k in record {
      start_value = (refl, refl);
      start_le_max_bytes = (omega (arith, h.lies, w.0, w.1), omega (arith, h.lies, w.1));
    }
