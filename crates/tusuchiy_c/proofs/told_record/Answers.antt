-- `tusuchiy_c::told_record` meets its contract.
use borrow.Author.Tests.{lt-ltb, le-ltb}
use Rattle.lookups.specs.Lookup.{lookup_numbers}
use Rattle.tusuchiy_c.proofs.told_record.Goals as goal

pub returns-then-r-lt2147483648 : goal.returns-then-r-lt2147483648
unfolding lookup_numbers
returns-then-r-lt2147483648 c = record { number = rw (lt-ltb _ _ c.if-r-lt2147483648.true) c.looked_up.ensures.0; row = rw (lt-ltb _ _ c.if-r-lt2147483648.true) c.looked_up.ensures.1 }

pub returns : goal.returns
unfolding lookup_numbers
returns c = record { number = rw (le-ltb _ _ c.if-r-lt2147483648.false) c.looked_up-2.ensures.0; row = rw (le-ltb _ _ c.if-r-lt2147483648.false) c.looked_up-2.ensures.1 }
