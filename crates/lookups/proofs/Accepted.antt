-- An index that is accepted beside file 1 isn't answered 50, and its entries are the records that it lists.
use mathlib.Core.Path.{◌≡◌, refl, ap, ◌∙◌}
use mathlib.Core.Bool.{Bool, true, false, cond}
use mathlib.Core.List.{List}
use Prim.Native.Nat.{ℕ, ◌^◌, ◌<◌}
use native.Mathlib.Omega.{arith}
use lib.Dec.{ltb, eqb}
use lib.ListN.{length, get_or}
use borrow.Author.Tests.{le-ltb, eq-eqb}
use Rattle.meaning.proofs.ListLaws.{same_self}
use Rattle.indexes.specs.declared.version.Version.{Version}
use Rattle.indexes.specs.Index.{version1, version2, version_of, version_named, mark, index_length, entry, rule40}
use Rattle.indexes.specs.Promises.{Lists}
use Rattle.indexes.proofs.Accepted.{Sound, index_sound, entry_at}
use Rattle.indexes.proofs.Versions.{known_of, version_fits, known_silent}
use Rattle.lookups.specs.Lookup.{named, own_count, miscounted, barred}

named_for : (n : ℕ) → version_named (version_of n).number ≡ version_of n
unfolding version_named version_of
named_for n = go (ltb n 65536)
  where
    go : (t : Bool) → cond (eqb (cond t version1 version2).number 1) version1 version2 ≡ cond t version1 version2
    go true = refl
    go false = refl

module _ (ids : List (List ℕ)) (b : List ℕ) (few : length ids < 2 ^ 32) (lists : Lists 1 ids b) where
  abbrev v : Version
  v = version_of (length ids)

  sound : Sound v 1 ids b
  sound =
      let w = version_fits v (length ids) refl few in
      rw lists.bytes (index_sound v 1 ids lists.records lists.rising (omega (arith, w.1)) w.0)

  version : named b ≡ v
  version = rw sound.version (named_for (length ids))

  pub count_is : own_count b ≡ length ids
  unfolding own_count
  count_is = rw version sound.count

  pub not_barred : barred b ≡ false
  unfolding barred miscounted rule40
  not_barred =
      rw (le-ltb _ _ sound.long, sound.marked, same_self mark, known_silent v b (known_of (length ids)) sound.version, count_is, version, sound.version, sound.file, eq-eqb v.number v.number refl, eq-eqb (length b) (index_length v (length ids)) sound.size)

  pub entries : (k : ℕ) → k < length lists.records → entry (named b) b k ≡ get_or lists.records k 0
  entries k h =
      let w = version_fits v (length ids) refl few in
      rw version (ap (λ (c : List ℕ). entry v c k) lists.bytes ∙ entry_at v 1 ids lists.records lists.rising (omega (arith, w.1)) w.0 k h)
