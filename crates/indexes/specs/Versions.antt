-- What reader and writer ask of a version: that it is one of the two.
use Rattle.std.specs.Prelude.{◌≡◌, ◌⊎◌}
use Rattle.indexes.specs.declared.version.Version.{Version}
use Rattle.indexes.specs.Index.{version1, version2}

abbrev pub Known : Version → Type 0
Known v = (v ≡ version1) ⊎ (v ≡ version2)
