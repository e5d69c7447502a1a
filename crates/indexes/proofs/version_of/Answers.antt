-- `indexes::version_of` meets its contract.
use mathlib.Core.Path.{ap}
use borrow.Author.Tests.{lt-ltb, le-ltb}
use Rattle.indexes.specs.Index.{version_of}
use Rattle.indexes.proofs.Versions.{one_version}
use Rattle.indexes.proofs.version_of.Goals as goal
use Rattle.indexes.proofs.version_of.Goals.{then-n-lt65536, else-n-lt65536}

pub returns : goal.returns
unfolding version_of
returns c =
    elim c.if-n-lt65536.branch [ then-n-lt65536 w ↦ rw (lt-ltb _ _ w.if-n-lt65536.true) (one_version _ _ (ap (λ r. r.0) w.result-is) (ap (λ r. r.1.0) w.result-is)) | else-n-lt65536 w ↦ rw (le-ltb _ _ w.if-n-lt65536.false) (one_version _ _ (ap (λ r. r.0) w.result-is) (ap (λ r. r.1.0) w.result-is)) ]
