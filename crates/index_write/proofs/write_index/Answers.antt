-- `index_write::write_index` meets its contract.
use Rattle.index_write.proofs.Answers.{reads_it, wrote_outside, wrote_unread, wrote_read}
use mathlib.Core.Path.{◌≡◌, sym, ◌∙◌}
use mathlib.Core.Logic.{◌⊎◌, inl, inr}
use Prim.Native.Nat.{ℕ, ◌≤◌, ◌<◌}
use native.Mathlib.Omega.{arith}
use Rattle.index_write.proofs.write_index.Goals as goal

-- a file number that is 0, or else above 4, isn't from 1 to 4
outside : {f : ℕ} → (f ≡ 0) ⊎ ((f ≡ 0 → ⊥) × (4 < f)) → (1 ≤ f) × (f ≤ 4) → ⊥
outside (inl e) h = omega (arith, h.0, e)
outside (inr e) h = omega (arith, h.1, e.1)

pub returns-then-f-eq0 : goal.returns-then-f-eq0
returns-then-f-eq0 c = let every = wrote_outside c.args.f c.args.s.now c.args.b.now (outside c.then-f-eq0.either) in record {
  value = every.0;
  b_after = every.1;
}

pub write_alone-requires : goal.write_alone-requires
write_alone-requires c = (reads_it _ _ c.args.b.now (omega (arith, c.if-f-eq0.false), c.if-f-gt4.false) (sym c.read_alone.ensures ∙ c.in-Ok.is), c.count_lf-lf.ensures.0)

pub returns-in-Ok : goal.returns-in-Ok
returns-in-Ok c = let every = wrote_read _ _ _ (omega (arith, c.if-f-eq0.false), c.if-f-gt4.false) (sym c.read_alone.ensures ∙ c.in-Ok.is) _ _ c.write_alone.ensures.value c.write_alone.ensures.b_after in record {
  value = every.0;
  b_after = every.1;
}

pub returns-in-Err : goal.returns-in-Err
returns-in-Err c = let every = wrote_unread _ _ _ (omega (arith, c.if-f-eq0.false), c.if-f-gt4.false) _ (sym c.read_alone.ensures ∙ c.in-Err.is) in record {
  value = every.0;
  b_after = every.1;
}
