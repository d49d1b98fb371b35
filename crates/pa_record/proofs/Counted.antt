-- The census of a root from its numbers.
use Rattle.std.proofs.Common.{◌≡◌, ℕ, ◌+◌, ◌*◌, length, refl}
use Rattle.std.specs.Prelude.{sum_by}
use Rattle.pa_slot.specs.declared.title.Title.{Title}
use Rattle.pa_layout.specs.Pages.{supers_for}
use Rattle.pa_buckets.specs.declared.spans.State.TheVariants as state
use Rattle.pa_buckets.specs.Table.{slot_of}
use Rattle.pa_record.specs.declared.census.Census.{Census}
use Rattle.pa_record.specs.Census.{kept_of, count_in, census}
use Rattle.pa_record.specs.Root.{Root}
use Rattle.pa_record.specs.Spans.{Span}

pub census_by : (r : Root) (slots bytes pages mapped n supers full active empty gone k m : ℕ) → slots ≡ sum_by kept_of r.spans →
    bytes ≡ sum_by (λ (s : Span). slot_of s.class * kept_of s) r.spans → pages ≡ sum_by (λ (s : Span). s.committed) r.spans →
    mapped ≡ sum_by (λ (t : Title). t.len) r.maps → n ≡ length r.supers → supers ≡ sum_by (λ (t : Title). supers_for t.len) r.maps →
    full ≡ count_in state.Full r → active ≡ count_in state.Active r → empty ≡ count_in state.Empty r → gone ≡ count_in state.Decommitted r →
    k ≡ 4096 → m ≡ 2097152 →
    (let x : Census = record {
      root = record { slots = slots; bytes = bytes };
      committed = k * pages + mapped;
      reserved = m * (n + supers);
      full = full;
      active = active;
      empty = empty;
      decommitted = gone;
    } in x ≡ census r)
census_by r slots bytes pages mapped n supers full active empty gone k m a b c d e f g h i j p q =
    rw (a, b, c, d, e, f, g, h, i, j, p, q) refl
