-- `index_check::Beside::is_other` meets its contract.
use Rattle.index_check.proofs.Laws.{other_version_lem, other_file_lem, other_length, other_count, fewer}
use mathlib.Core.Path.{sym, ◌∙◌}
use Rattle.index_check.proofs.Beside.is_other.Goals as goal

pub returns-then-pair_at-self : goal.returns-then-pair_at-self
returns-then-pair_at-self c = other_version_lem _ _ _ _ (λ e. c.if-pair_at-self.true (c.pair_at.ensures.0 ∙ e))

pub returns-then-byte_at-self : goal.returns-then-byte_at-self
returns-then-byte_at-self c = other_file_lem _ _ _ _ (sym c.pair_at.ensures.0 ∙ c.if-pair_at-self.false) (λ e. c.if-byte_at-self.true (c.byte_at.ensures.0 ∙ e))

pub length_of-requires : goal.length_of-requires
length_of-requires c = let x = c.args.self.now in fewer x.file x.bytes.now x.records (record { asked = x.asked; verdict = x.verdict }) x.count

pub returns-then-self-length_of : goal.returns-then-self-length_of
returns-then-self-length_of c = other_length _ _ _ _ (sym c.pair_at.ensures.0 ∙ c.if-pair_at-self.false) (sym c.byte_at.ensures.0 ∙ c.if-byte_at-self.false) (λ e. c.if-self-length_of.true (e ∙ sym c.length_of.ensures.0))

pub returns : goal.returns
returns c = other_count _ _ _ _ (sym c.pair_at.ensures.0 ∙ c.if-pair_at-self.false) (sym c.byte_at.ensures.0 ∙ c.if-byte_at-self.false) (c.if-self-length_of.false ∙ c.length_of.ensures.0) _ c.number_at.ensures.0
