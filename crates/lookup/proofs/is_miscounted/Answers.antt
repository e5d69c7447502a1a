-- `lookup::is_miscounted` meets its contract.
use Rattle.lookup.proofs.Laws.{version_is, miscounted_version, miscounted_length}
use native.Mathlib.Omega.{arith}
use Rattle.lookup.proofs.is_miscounted.Goals as goal

pub number_at-n-requires : goal.number_at-n-requires
number_at-n-requires c = omega arith

pub returns-then-own-k : goal.returns-then-own-k
returns-then-own-k c =
    miscounted_version _ _ (version_is _ _ _ c.version_named-v.ensures c.requires) _ c.number_at-n.ensures.0 _ c.version_of-own.ensures _ c.requires c.if-own-k.true

pub length_of-requires : goal.length_of-requires
length_of-requires c = c.number_at-n.ensures.1

pub returns : goal.returns
returns c =
    miscounted_length _ _ (version_is _ _ _ c.version_named-v.ensures c.requires) _ c.number_at-n.ensures.0 _ c.version_of-own.ensures _ c.requires c.if-own-k.false _ c.length_of.ensures.0
