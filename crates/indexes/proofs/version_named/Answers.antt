-- `indexes::version_named` meets its contract.
use mathlib.Core.Path.{ap}
use borrow.Author.Tests.{eq-eqb, ne_eqb}
use Rattle.indexes.specs.Index.{version_named}
use Rattle.indexes.proofs.Versions.{one_version}
use Rattle.indexes.proofs.version_named.Goals as goal
use Rattle.indexes.proofs.version_named.Goals.{then-k-eq1, else-k-eq1}

pub returns : goal.returns
unfolding version_named
returns c =
    elim c.if-k-eq1.branch [ then-k-eq1 w ↦ rw (eq-eqb _ _ w.if-k-eq1.true) (one_version _ _ (ap (λ r. r.0) w.result-is) (ap (λ r. r.1.0) w.result-is)) | else-k-eq1 w ↦ rw (ne_eqb _ _ w.if-k-eq1.false) (one_version _ _ (ap (λ r. r.0) w.result-is) (ap (λ r. r.1.0) w.result-is)) ]
