-- `id_places::place_ids` meets its contract.
use Rattle.id_places.proofs.Walk.{own_starts, own_is}
use native.Mathlib.Omega.{arith}
use Rattle.id_places.proofs.place_ids.Goals as goal

pub returns : goal.returns
returns c =
    let h = c.read_header-h.ensures in record {
      ids = own_starts _ _ _ _ _ _ _ h c.place_lines.ensures.result_value.0 (own_is _ _ _ _ _ h c.id_column-own.ensures.0) (λ k a b. c.place_lines.ensures.by_index k a (omega (arith, b)));
      t_len_unchanged = c.place_lines.ensures.result_value.1;
    }
