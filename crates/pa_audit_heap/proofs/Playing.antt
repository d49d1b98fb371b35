-- The pool's entries, one by one.
use Rattle.std.proofs.Common.{◌≡◌, ℕ, ◌+◌, ◌<◌, ◌≤◌, List, length, get_or, take, map, Some, None, sym, ◌∙◌, ap, subst}
use Rattle.std.specs.Prelude.{slice_get, option_map}
use Rattle.std.proofs.lemmas.List.{length-take-le}
use Rattle.std.proofs.lemmas.Option.{slice_get-get_or, slice_get-map}
use Rattle.pa_record.specs.declared.pool.PoolEntry.{PoolEntry}
use Rattle.pa_record.specs.declared.pool.PoolAct.TheVariants.{Take}
use Rattle.pa_record.specs.Pool.{PoolState, PoolActFits, new_pool, pool_next, pool_replayed}
use Rattle.pa_record.proofs.PoolSteps.{pool_replayed_push, pool_is_sound}
use Rattle.pa_rules.specs.declared.played.Played.{Played}
use Rattle.pa_rules.specs.declared.verdict.Place.TheVariants as places
use Rattle.pa_rules.specs.Roots.{Journals}
use Rattle.pa_rules.specs.HeapDemands.{PoolDemand}
use Rattle.pa_audit_heap.specs.Parts.{FitsPool, IsNamedAt, ComesAt}
use Rattle.pa_audit_heap.proofs.Listed.{front_more}
use Rattle.pa_lists.proofs.Indexed.{one_at, none_past, map_at}
use Rattle.pa_lists.proofs.Tests.{met_more}

-- the plan is that of the first entries, all of which fit
pub record IsPlayed (supers : ℕ) (pools : List PoolEntry) (i : ℕ) (plan : PoolState) : Type 0 where
  pub plan_is : plan ≡ pool_replayed (take i pools) (new_pool supers)
  pub met : (j : ℕ) → j < i → FitsPool supers pools j

pub played_entries : (supers : ℕ) (pools : List PoolEntry) (i : ℕ) (plan : PoolState) → i ≤ length pools →
    plan ≡ pool_replayed (take i pools) (new_pool supers) → plan.entries ≡ i
played_entries supers pools i plan within is =
    ap (λ (s : PoolState). s.entries) is ∙ pool_is_sound.counted supers (take i pools) ∙ length-take-le i pools within

pub played_next : (supers : ℕ) (pools : List PoolEntry) (i : ℕ) (plan next : PoolState) (e : PoolEntry) → slice_get pools i ≡ Some e
    → plan ≡ pool_replayed (take i pools) (new_pool supers) → next ≡ pool_next e.act plan →
    next ≡ pool_replayed (take (i + 1) pools) (new_pool supers)
played_next supers pools i plan next e at is after =
    after ∙ ap (pool_next e.act) is ∙ sym (pool_replayed_push (take i pools) e (new_pool supers))
    ∙ ap (λ es. pool_replayed es (new_pool supers)) (sym (front_more pools i e at))

fits_here : (supers : ℕ) (pools : List PoolEntry) (i : ℕ) (plan : PoolState) (e : PoolEntry) → slice_get pools i ≡ Some e →
    plan ≡ pool_replayed (take i pools) (new_pool supers)
    → PoolActFits pools e.partition e.act plan → FitsPool supers pools i
fits_here supers pools i plan e at is fits d at' =
    subst (λ (z : PoolEntry). PoolActFits pools z.partition z.act (pool_replayed (take i pools) (new_pool supers)))
    (one_at pools i e d at at')
    (subst (PoolActFits pools e.partition e.act) is fits)

pub played_more : (supers : ℕ) (pools : List PoolEntry) (i : ℕ) (plan next : PoolState) (e : PoolEntry) →
    IsPlayed supers pools i plan → slice_get pools i ≡ Some e
    → PoolActFits pools e.partition e.act plan → next ≡ pool_next e.act plan → IsPlayed supers pools (i + 1) next
played_more supers pools i plan next e h at fits after = record {
  plan_is = played_next supers pools i plan next e at h.plan_is after;
  met = met_more (FitsPool supers pools) i h.met (fits_here supers pools i plan e at h.plan_is fits);
}

pub played_misfit : (supers : ℕ) (pools : List PoolEntry) (i : ℕ) (plan : PoolState) (e : PoolEntry) →
    IsPlayed supers pools i plan → slice_get pools i ≡ Some e
    → (PoolActFits pools e.partition e.act plan → ⊥) → FitsPool supers pools i → ⊥
played_misfit supers pools i plan e h at misfit fits = misfit (subst (PoolActFits pools e.partition e.act) (sym h.plan_is) (fits e at))

pub fits_past : (supers : ℕ) (pools : List PoolEntry) (i : ℕ) → length pools ≤ i → FitsPool supers pools i
fits_past supers pools i past e at = absurd (none_past pools i e past at)

-- what fills a place past the end
abbrev pub no_entry : PoolEntry
no_entry = record { line = 0; partition = 0; act = Take 0 None }

pub entry_at : (pools : List PoolEntry) (i : ℕ) → i < length pools → slice_get pools i ≡ Some (get_or pools i no_entry)
entry_at pools i within = slice_get-get_or pools i no_entry within

pub line_there : (pools : List PoolEntry) (i : ℕ) → i < length pools →
    slice_get (map (λ (e : PoolEntry). e.line) pools) i ≡ Some (get_or pools i no_entry).line
line_there pools i within =
    slice_get-map (λ (e : PoolEntry). e.line) pools i ∙ ap (option_map (λ (e : PoolEntry). e.line)) (entry_at pools i within)

-- what the pool's clause asks is what the three passes ask
pub parts_are : (supers : ℕ) (ps : List Played) (pools : List PoolEntry) (roots : Journals) (j : ℕ) →
    FitsPool supers pools j × (IsNamedAt pools roots j × ComesAt ps pools j)
    → PoolDemand supers ps pools roots (places.Pool j)
parts_are supers ps pools roots j (fits, both) e at = record {
  fits = fits e at;
  named = (both.0 e at).named;
  once = (both.0 e at).once;
  order = both.1;
}

comes_at : (supers : ℕ) (ps : List Played) (pools : List PoolEntry) (roots : Journals) (j : ℕ) →
    PoolDemand supers ps pools roots (places.Pool j) → ComesAt ps pools j
comes_at supers ps pools roots j demand i m n x y at at' =
    let (e, there, same) = map_at (λ (e : PoolEntry). e.line) pools j n at' in
    (demand e there).order i m n x y at at'

pub are_parts : (supers : ℕ) (ps : List Played) (pools : List PoolEntry) (roots : Journals) (j : ℕ) →
    PoolDemand supers ps pools roots (places.Pool j)
    → FitsPool supers pools j × (IsNamedAt pools roots j × ComesAt ps pools j)
are_parts supers ps pools roots j demand = (
  λ e at. (demand e at).fits,
  (λ e at. record { named = (demand e at).named; once = (demand e at).once }, comes_at supers ps pools roots j demand),
)
