-- What a root has: its free slots, its bytes, and its spans by their states.
use Rattle.std.specs.Prelude.{ℕ, ◌+◌, ◌-◌, ◌*◌, length, sum_by, count_by}
use Rattle.pa_layout.specs.Pages.{supers_for}
use Rattle.pa_buckets.specs.declared.spans.State.{State}
use Rattle.pa_buckets.specs.declared.spans.State.TheVariants as state
use Rattle.pa_buckets.specs.Table.{slot_of}
use Rattle.pa_record.specs.declared.report.Tally.{Tally}
use Rattle.pa_record.specs.declared.census.Census.{Census}
use Rattle.pa_record.specs.Spans.{Span, is_in}
use Rattle.pa_record.specs.Root.{Root}

-- the slots of a span that were made and are with the root, listed or in decommitted pages
abbrev pub kept_of : Span → ℕ
kept_of s = s.made - s.allocated

-- how many slots the root's spans keep, and how many bytes these have together
abbrev pub root_tally : Root → Tally
root_tally r = record { slots = sum_by kept_of r.spans; bytes = sum_by (λ s. slot_of s.class * kept_of s) r.spans }

-- the bytes of the committed system pages of the spans, and of the slots of the direct maps
abbrev pub committed_bytes : Root → ℕ
committed_bytes r = 4096 * sum_by (λ (s : Span). s.committed) r.spans + sum_by (λ t. t.len) r.maps

-- the bytes of the super pages
abbrev pub reserved_bytes : Root → ℕ
reserved_bytes r = 2097152 * (length r.supers + sum_by (λ t. supers_for t.len) r.maps)

-- how many spans are in a state
abbrev pub count_in : State → Root → ℕ
count_in a r = count_by (is_in a) r.spans

-- all that is counted of a root
abbrev pub census : Root → Census
census r =
    record {
      root = root_tally r;
      committed = committed_bytes r;
      reserved = reserved_bytes r;
      full = count_in state.Full r;
      active = count_in state.Active r;
      empty = count_in state.Empty r;
      decommitted = count_in state.Decommitted r;
    }
