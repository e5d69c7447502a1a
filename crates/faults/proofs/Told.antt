-- The list of faults is handed out like the findings: what one call gives, and that calls give the whole list.
use Prim.Native.Nat.{◌≤◌}
use native.Mathlib.Omega.{arith}
use mathlib.Core.Path.{◌≡◌, refl}
use mathlib.Core.Bool.{true}
use mathlib.Core.List.Memᴰ
use mathlib.Core.List.{List, [], ◌∷◌}
use lib.IntN.{ℤ}
use lib.ListN.{length}
use borrow.Author.Tests.{lt-ltb}
use Prim.Native.Nat.{ℕ}
use Rattle.meaning.specs.declared.Place.{Place}
use Rattle.meaning.specs.Pages.{place_in, above, behind, room_for, last_place}
use Rattle.meaning.specs.Promises.{Each, beginning}
use Rattle.meaning.proofs.ListLaws.{behind_sooner, sooner_once}
use Rattle.meaning.proofs.Handing.{Kind, page_given, handed_long, handed_rows, room_one, Chain, calls_join}
use Rattle.listing.specs.Handing.{State}
use Rattle.faults.specs.List.{faults_of}
use Rattle.faults.specs.Promises.{fault_before}
use Rattle.faults.specs.Told.{quad, told, wrote_in, fault_calls, HandedOut}
use Rattle.faults.proofs.Rises.{list_rises}
use Rattle.faults.proofs.Numbers.{fault_numbers}

-- faults are entries of four numbers
pub faults_kind : Kind quad 4 fault_before
unfolding fault_before
faults_kind = record {
  wide = λ d. refl;
  holds = omega arith;
  order = λ d e. behind_sooner d.file d.line d.number e.file e.line e.number;
  once = λ d e h. sooner_once d.file d.line d.number e.file e.line e.number h;
}

module _ (files : List (List ℕ)) where
  -- every fault comes after the list's beginning
  from_beginning : Each (λ d. behind beginning (place_in (quad d)) ≡ true) (faults_of files)
  unfolding behind above
  from_beginning d m = rw (lt-ltb 0 d.file (fault_numbers files d m).file.0)

  -- each call leaves off where the next begins
  chain : (lists : List (List ℤ)) (p : Place) → Each (λ l. 4 ≤ length l) lists
      → Chain faults_kind (faults_of files) (list_rises files) wrote_in (λ (o : State). o.written) (λ (o : State). o.total) p (fault_calls files p lists)
  unfolding fault_calls
  chain [] p room = tt
  chain (l ∷ r) p room = (
    record {
      room = room_for 4 l;
      one = room_one faults_kind (faults_of files) p l (room l (Memᴰ.head refl));
      numbers = handed_rows faults_kind (faults_of files) p l;
      many = refl;
      all = refl;
    },
    chain r (last_place 4 p (wrote_in (told files p l))) (λ x m. room x (Memᴰ.tail m)),
  )

  -- The list of faults is handed out as the words say.
  pub handed_out : HandedOut files
  handed_out = record {
    page = λ p lent. page_given faults_kind (faults_of files) p lent;
    total = λ p lent. refl;
    long = λ p lent. handed_long faults_kind (faults_of files) p lent;
    joins = λ lists room.
        calls_join faults_kind (faults_of files) (list_rises files) wrote_in (λ (o : State). o.written) (λ (o : State). o.total) beginning from_beginning (fault_calls files beginning lists) (chain lists beginning room);
  }
