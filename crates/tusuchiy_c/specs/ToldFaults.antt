-- The numbers of a call for faults, for C, and what the lent list holds after it, are those of the state that the call comes to.
use Rattle.std.specs.Prelude.{◌≡◌, List, ℤ, pos}
use Rattle.listing.specs.Handing.{State}
use Rattle.tusuchiy_c.specs.declared.TusuchiyFaultsAnswer.{TusuchiyFaultsAnswer}

pub record ToldFaults (o : State) (r : TusuchiyFaultsAnswer) (list : List ℤ) : Type 0 where
  pub written : r.written ≡ pos o.written
  pub total : r.total ≡ pos o.total
  pub holds : list ≡ o.out
