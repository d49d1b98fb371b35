-- A run with written lists: its vectors are of a heap.
use Rattle.std.proofs.Common.{◌<◌, ◌^◌, List, length, refl, Vec, Global}
use Rattle.std.proofs.Math.Nat.{le_refl}
use Rattle.std.specs.Ptr.{null_ptr}
use Rattle.pa_trace.specs.declared.script.Trace.{Trace}
use Rattle.pa_trace.specs.Limits.{IsWithinLimits}
use Rattle.pa_record.specs.declared.entry.Entry.{Entry}
use Rattle.pa_record.specs.declared.history.CellEntry.{CellEntry}
use Rattle.pa_record.specs.declared.pool.PoolEntry.{PoolEntry}
use Rattle.pa_record.specs.declared.root.RootEntry.{RootEntry}
use Rattle.pa_record.specs.declared.report.ReportLine.{ReportLine}
use Rattle.pa_record.specs.declared.run.Run.{Run}
use Rattle.pa_record.specs.Bits.{RunInBits}
use Rattle.pa_examples.specs.Worked.{IsTold}

-- the lists are short enough for vectors
abbrev pub AreFew : List Entry → List (List RootEntry) → List PoolEntry → List (List CellEntry) → List ReportLine → Type 0
AreFew told journals pools exchanged heaps = (length told < 2 ^ 63) × (length journals < 2 ^ 63) × (length pools < 2 ^ 63) ×
    (length exchanged < 2 ^ 63) × (length heaps < 2 ^ 63)

abbrev vec_of : {X : Type 0} → Global → (xs : List X) → length xs < 2 ^ 63 → Vec X Global
vec_of heap xs few = record {
  ptr = null_ptr;
  len = length xs;
  cap = length xs;
  alloc = heap;
  items = xs;
  ok = (refl, le_refl (length xs));
  small = few;
}

module _ (told : List Entry) (journals : List (List RootEntry)) (pools : List PoolEntry) (exchanged : List (List CellEntry))
    (heaps : List ReportLine)
    (few : AreFew told journals pools exchanged heaps) where
  abbrev pub run_of : Global → Run
  run_of heap =
      record {
        entries = vec_of heap told few.0;
        roots = vec_of heap journals few.1;
        pool = vec_of heap pools few.2;
        cells = vec_of heap exchanged few.3;
        report = vec_of heap heaps few.4;
      }

  pub told_by : (t : Trace) → IsWithinLimits t → ((heap : Global) → RunInBits (run_of heap)) → IsTold t told journals pools exchanged heaps
  told_by t limits fits = record {
    limits = limits;
    run = λ heap. (run_of heap, fits heap, record { entries = refl; roots = refl; pool = refl; cells = refl; report = refl });
  }
