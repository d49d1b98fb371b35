use Rattle.std.proofs.Common.{◌≡◌, ◌*◌, ◌^◌, ◌≤◌, take}
use Rattle.std.specs.Prelude.{sum_by}
use Rattle.pa_slot.specs.declared.title.Title.{Title}
use Rattle.pa_layout.specs.Pages.{supers_for}
use Rattle.pa_record.proofs.census.mapped_of.Given as goal

abbrev pub invariant-loop-map : goal.invariant-loop-map
invariant-loop-map l = record {
  bytes : l.bytes ≡ sum_by (λ (t : Title). t.len) (take l.map-index l.maps);
  low_bytes : l.bytes ≤ 2 ^ 32 * l.map-index;
  supers : l.supers ≡ sum_by (λ (t : Title). supers_for t.len) (take l.map-index l.maps);
  low_supers : l.supers ≤ 2049 * l.map-index;
}
