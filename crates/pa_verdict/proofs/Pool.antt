-- The clause of the pool, entry by entry.
use Rattle.std.proofs.Common.{◌≡◌, ℕ, zero, suc, List, [], ◌∷◌, take, Some, refl, subst}
use Rattle.std.specs.Prelude.{slice_get}
use Rattle.pa_trace.specs.declared.script.Trace.{Trace}
use Rattle.pa_record.specs.declared.pool.PoolEntry.{PoolEntry}
use Rattle.pa_record.specs.Pool.{PoolState, PoolActFits, PoolReplays, new_pool, pool_next, pool_replayed}
use Rattle.pa_lists.proofs.Members.{of_some, not_some}
use Rattle.pa_rules.specs.declared.played.Played.{Played}
use Rattle.pa_rules.specs.declared.verdict.Clause.TheVariants as clauses
use Rattle.pa_rules.specs.declared.verdict.Place.TheVariants as places
use Rattle.pa_rules.specs.Told.{Told, records_of}
use Rattle.pa_rules.specs.Roots.{Journals, IsPoolOf}
use Rattle.pa_rules.specs.HeapDemands.{IsPoolEntry, PoolEntryFits}
use Rattle.pa_verdict.specs.Clauses.{IsMet, PoolIsPlaces}
use Rattle.pa_verdict.proofs.Ordering.{due_differ, order_meets, order_whole}

replays_at : (pools es : List PoolEntry) (s : PoolState) (j : ℕ) (e : PoolEntry) → PoolReplays pools es s → slice_get es j ≡ Some e
    → PoolActFits pools e.partition e.act (pool_replayed (take j es) s)
replays_at pools [] s j e h at = absurd (not_some e at)
replays_at pools (d ∷ es) s zero e h at = subst (λ (z : PoolEntry). PoolActFits pools z.partition z.act s) (of_some d e at) h.0
replays_at pools (d ∷ es) s (suc j) e h at = replays_at pools es (pool_next d.act s) j e h.1 at

replays_whole : (pools es : List PoolEntry) (s : PoolState) →
    ((j : ℕ) (e : PoolEntry) → slice_get es j ≡ Some e → PoolActFits pools e.partition e.act (pool_replayed (take j es) s))
    → PoolReplays pools es s
replays_whole pools [] s h = tt
replays_whole pools (d ∷ es) s h = (h 0 d refl, replays_whole pools es (pool_next d.act s) (λ j. h (suc j)))

abbrev pool_line : PoolEntry → ℕ
pool_line e = e.line

pool_entry_fits : (supers : ℕ) (ps : List Played) (pools : List PoolEntry) (roots : Journals) (j : ℕ) (e : PoolEntry) →
    IsPoolOf supers ps pools roots → IsPoolEntry pools j e
    → PoolEntryFits supers ps pools roots j e
pool_entry_fits supers ps pools roots j e h at = record {
  fits = replays_at pools pools (new_pool supers) j e h.fits at;
  named = h.named j e at;
  once = λ p q i k first second. h.once j p q i k e at first second;
  order = order_meets ps pool_line pools j h.order;
}

pool_meets : (t : Trace) (r : Told) → IsPoolOf t.region (records_of t r) r.pools r.roots → IsMet clauses.Pool t r
pool_meets t r h (places.Pool j) = λ e at. pool_entry_fits t.region (records_of t r) r.pools r.roots j e h at
pool_meets t r h (places.Record i) = tt
pool_meets t r h (places.Root p j) = tt
pool_meets t r h (places.Cell k j) = tt
pool_meets t r h (places.Report i) = tt

pub pool_is_places : PoolIsPlaces
pool_is_places t r due = (
  pool_meets t r,
  λ met.
      let ps = records_of t r in
      let fits : (j : ℕ) (e : PoolEntry) → IsPoolEntry r.pools j e →
      PoolEntryFits t.region ps r.pools r.roots j e = λ j. met (places.Pool j) in
      record {
        fits = replays_whole r.pools r.pools (new_pool t.region) (λ j e at. (fits j e at).fits);
        named = λ j e at. (fits j e at).named;
        once = λ j p q i k e at. (fits j e at).once p q i k;
        order = order_whole ps pool_line r.pools (due_differ t r due) (λ j e at. (fits j e at).order);
      },
)
