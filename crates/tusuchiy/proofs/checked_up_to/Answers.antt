-- `tusuchiy::checked_up_to` meets its contract.
use native.Mathlib.Omega.{arith}
use Rattle.tusuchiy.proofs.checked_up_to.Goals as goal

pub checked_with-requires : goal.checked_with-requires
checked_with-requires g c = record {
  read = c.requires.read;
  counts_value = c.requires.counts_value;
  blank = (c.blank-marks.ensures, λ i h. omega (arith, c.requires.by_index i h));
}

pub returns : goal.returns
returns g c = record {
  same = c.checked_with.ensures.same;
  asked_value = c.checked_with.ensures.asked_value;
  small = c.checked_with.ensures.small;
}
