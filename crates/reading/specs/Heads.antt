-- Under what the lines of a file are read.
use Rattle.std.specs.Prelude.{ℕ, List, length, Option, Some, None, Result, Ok, Err}
use Rattle.meaning.specs.Bytes.{fields, values}
use Rattle.meaning.specs.Refusals.{head_tests}
use Rattle.columns.specs.declared.Columns.{Columns}
use Rattle.columns.specs.Columns.{places_of}
use Rattle.reading.specs.declared.Fault.{Fault}
use Rattle.reading.specs.Tests.{first}

-- a header's fault where it has one, else the columns
abbrev pub unless : Option Fault → Columns → Result Columns Fault
unless None c = Ok c
unless (Some t) c = Err t

-- under a header with text h that breaks no rule
abbrev pub columns_in : ℕ → List ℕ → Columns
columns_in f h = record { at = places_of f (values h); count = length (fields h) }

-- what any header with text h tells
unfoldable pub columns_under : ℕ → List ℕ → Result Columns Fault
columns_under f h = unless (first (head_tests f h)) (columns_in f h)
