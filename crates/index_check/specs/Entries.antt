-- The record numbers of an index, once 42 and 43 are passed.
use Rattle.std.specs.Prelude.{ℕ, ◌≡◌, false, List, length}
use Rattle.indexes.specs.declared.version.Version.{Version}
use Rattle.indexes.specs.Index.{index_length, rule43}

-- n record numbers, each of a record that there is
pub record Entries (v : Version) (n : ℕ) (b : List ℕ) : Type 0 where
  pub size : length b ≡ index_length v n
  pub known : rule43 v n b ≡ false
