-- Bad UTF-8 is held: each sentence of document 02's E6.
use Prim.Native.Nat.{ℕ, ◌-◌}
use mathlib.Core.Path.{◌≡◌, refl}
use mathlib.Core.Logic.{◌↔◌}
use mathlib.Core.Bool.{Bool, true, false, cond}
use mathlib.Core.List.{List, map, Memᴰ}
use lib.IntN.{ℤ}
use lib.ListN.{length, get_or}
use lib.Dec.{eqb}
use borrow.Author.Tests.{not-false}
use Rattle.meaning.specs.Lists.{place}
use Rattle.meaning.specs.Bytes.{Line, lines_of}
use Rattle.meaning.specs.Columns.{places, header_of}
use Rattle.meaning.specs.Characters.{well_formed, Written}
use Rattle.meaning.specs.Tables.{file_of}
use Rattle.meaning.specs.Refusals.{test, claim, claims, rule14, text_tests, head_tests, line_tests}
use Rattle.meaning.specs.Promises.{line_order, turn, field_count, tests_on, no_line, speaks_before}
use Rattle.meaning.specs.BadUtf8.{text_of, HasLine, BadUtf8}
use Rattle.meaning.proofs.Laws.{sooner_same}
use Rattle.meaning.proofs.Claims.{claim_of_line}
use Rattle.meaning.proofs.Characters.{well_formed_exactly, characters_encoded}

rule14_exactly : (l : List ℕ) → rule14 l ≡ false ↔ Written l
unfolding rule14
rule14_exactly l = (λ e. (well_formed_exactly l).0 (not-false (well_formed l) e), λ w. rw ((well_formed_exactly l).1 w))

-- rule 14 is among the tests of every line, the header's too
tested : (f : ℕ) (ls : List Line) (n : ℕ) (l : Line) → Memᴰ (test 14 (rule14 l.text)) (tests_on f ls n l)
unfolding tests_on head_tests line_tests text_tests
tested f ls n l = go (eqb n 1)
  where
    go : (first : Bool) → Memᴰ (test 14 (rule14 l.text)) (cond first (head_tests f l.text) (line_tests f (places f (header_of ls)) (field_count ls) l.text))
    go true = Memᴰ.tail (Memᴰ.head refl)
    go false = Memᴰ.tail (Memᴰ.head refl)

-- two rules of one line, by their turns
module _ (f n : ℕ) (b d : Bool) where
  after_5 : speaks_before (claim 5 f n b) (claim 14 f n d) ≡ true
  unfolding speaks_before turn place line_order
  after_5 = sooner_same f f _ refl (sooner_same n n _ refl refl)

  before_6 : speaks_before (claim 14 f n b) (claim 6 f n d) ≡ true
  unfolding speaks_before turn place line_order
  before_6 = sooner_same f f _ refl (sooner_same n n _ refl refl)

module _ (files : List (List ℕ)) (tables : List (List ℤ)) where
  claimed : (f n : ℕ) → HasLine files f n → Memᴰ (claim 14 f n (rule14 (text_of files f n))) (claims files (map length tables))
  claimed f n h =
      let ls = lines_of (file_of files f) in
      let l = get_or ls (n - 1) no_line in
      (claim_of_line files (map length tables) (claim 14 f n (rule14 (text_of files f n))) h.first).1 (record {
        from = h.from;
        to = h.to;
        first = h.first;
        last = h.last;
        rule = tested f ls n l;
      })

  pub bad_utf8 : BadUtf8 files tables
  bad_utf8 = record {
    each = claimed;
    table = rule14_exactly;
    characters = characters_encoded;
    after_5 = after_5;
    before_6 = before_6;
    held = λ reads f n h. (rule14_exactly (text_of files f n)).0 (reads (claim 14 f n (rule14 (text_of files f n))) (claimed f n h));
  }
