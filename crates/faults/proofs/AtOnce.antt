-- Every refusal named at once: what is promised of the list holds of every feed.
use Prim.Native.Nat.{ℕ}
use mathlib.Core.List.{List}
use Rattle.faults.specs.Promises.{AtOnce}
use Rattle.faults.proofs.LastLf.{after_last, texts_ended, texts_unended}
use Rattle.faults.proofs.Exactly.{faults_exactly, one_fault, empty_faults}
use Rattle.faults.proofs.Rises.{list_rises}
use Rattle.faults.proofs.Verdict.{readable_empty, verdict_listed}
use Rattle.faults.proofs.Numbers.{fault_numbers}

pub at_once : (files : List (List ℕ)) → AtOnce files
at_once files = record {
  texts = λ s. record { ended = texts_ended s; unended = texts_unended s };
  after_lf_lem = after_last;
  exactly = faults_exactly files;
  rises = list_rises files;
  one = one_fault files;
  empty = empty_faults files;
  readable = readable_empty files;
  verdict = verdict_listed files;
  numbers = fault_numbers files;
}
