use Rattle.std.proofs.Common.{◌≡◌, ◌*◌, ◌^◌, ◌≤◌, take}
use Rattle.std.specs.Prelude.{sum_by, count_by}
use Rattle.pa_buckets.specs.declared.spans.State.TheVariants as state
use Rattle.pa_record.specs.Spans.{Span, is_in}
use Rattle.pa_record.specs.Census.{kept_of}
use Rattle.pa_place.specs.Scans.{bytes_kept}
use Rattle.pa_place.proofs.looks.sums_of.Given as goal

abbrev pub invariant-loop-span : goal.invariant-loop-span
invariant-loop-span l = record {
  slots : l.slots ≡ sum_by kept_of (take l.span-index l.spans);
  most_slots : l.slots ≤ 2 ^ 32 * l.span-index;
  bytes : l.bytes ≡ sum_by bytes_kept (take l.span-index l.spans);
  pages : l.pages ≡ sum_by (λ (s : Span). s.committed) (take l.span-index l.spans);
  most_pages : l.pages ≤ 2 ^ 32 * l.span-index;
  full : l.full ≡ count_by (is_in state.Full) (take l.span-index l.spans);
  most_full : l.full ≤ l.span-index;
  active : l.active ≡ count_by (is_in state.Active) (take l.span-index l.spans);
  most_active : l.active ≤ l.span-index;
  empty : l.empty ≡ count_by (is_in state.Empty) (take l.span-index l.spans);
  most_empty : l.empty ≤ l.span-index;
  decommitted : l.decommitted ≡ count_by (is_in state.Decommitted) (take l.span-index l.spans);
  most_decommitted : l.decommitted ≤ l.span-index;
}
