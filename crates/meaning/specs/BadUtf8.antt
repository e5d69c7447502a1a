-- Bad UTF-8 is held, document 02's E6, sentence by sentence, of calls that are lent these files and tables.
use Rattle.std.specs.Prelude.{ℕ, ◌-◌, ◌≤◌, ◌≡◌, ◌↔◌, Bool, true, false, ℤ, length, get_or}
use mathlib.Core.List.{List, map, Memᴰ}
use Rattle.meaning.specs.Bytes.{lines_of}
use Rattle.meaning.specs.Characters.{is_character, Written, Encoded}
use Rattle.meaning.specs.Tables.{file_of}
use Rattle.meaning.specs.Refusals.{claim, claims, rule14}
use Rattle.meaning.specs.Promises.{no_line, speaks_before}
use Rattle.meaning.specs.Demands.{Reads}

-- the text of line n of file f
abbrev pub text_of : List (List ℕ) → ℕ → ℕ → List ℕ
text_of files f n = (get_or (lines_of (file_of files f)) (n - 1) no_line).text

-- line n is one of file f, and file f one of the files
pub record HasLine (files : List (List ℕ)) (f n : ℕ) : Type 0 where
  pub from : 1 ≤ f
  pub to : f ≤ length files
  pub first : 1 ≤ n
  pub last : n ≤ length (lines_of (file_of files f))

pub record BadUtf8 (files : List (List ℕ)) (tables : List (List ℤ)) : Type 0 where
  -- each line, header too, must be well-formed UTF-8; the refusal is number 14
  pub each : (f n : ℕ) → HasLine files f n → Memᴰ (claim 14 f n (rule14 (text_of files f n))) (claims files (map length tables))
  -- by the Unicode standard's table of byte sequences
  pub table : (l : List ℕ) → rule14 l ≡ false ↔ Written l
  -- no overlong forms, no surrogates, nothing above U+10FFFF
  pub characters : (c : List ℕ) → is_character c ≡ true ↔ Encoded c
  -- on a line it is tested after 5
  pub after_5 : (f n : ℕ) (b d : Bool) → speaks_before (claim 5 f n b) (claim 14 f n d) ≡ true
  -- and before 6, despite its number
  pub before_6 : (f n : ℕ) (b d : Bool) → speaks_before (claim 14 f n b) (claim 6 f n d) ≡ true
  -- so that no line of a feed that is read has half a character
  pub held : Reads files tables → (f n : ℕ) → HasLine files f n → Written (text_of files f n)
