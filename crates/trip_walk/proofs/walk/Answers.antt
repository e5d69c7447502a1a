-- `trip_walk::walk` meets its contract.
use Rattle.trip_walk.proofs.Walking.{table_start, table_turn, table_end}
use native.Mathlib.Omega.{arith}
use Rattle.trip_walk.proofs.walk.Goals as goal

pub loop-k-init : goal.loop-k-init
loop-k-init c = table_start _ _ _ c.requires.ranged.0 _ c.requires.by_index

pub turn-next-requires : goal.turn-next-requires
turn-next-requires c = c.loop-k.invariant.low

pub tell-requires : goal.tell-requires
tell-requires c = (omega arith, omega arith)

pub loop-k-preserved : goal.loop-k-preserved
loop-k-preserved c =
    table_turn _ _ _ c.requires.ranged.0 c.loop-k.k _ _ _ _ _ c.loop-k.invariant (omega (arith, c.loop-k-test.true)) c.requires.ranged.1 c.turn-next.ensures (c.close.ensures _) c.line_at.ensures c.tell.ensures

pub returns : goal.returns
returns c = let every = table_end _ _ _ c.requires.ranged.0 c.loop-k.k _ _ _ (omega (arith, c.loop-k-test.false)) c.loop-k.invariant (c.close-2.ensures c.args.s.now) in record {
  told = every.0;
  kept_marks = every.1;
}
