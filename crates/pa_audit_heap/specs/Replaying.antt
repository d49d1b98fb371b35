-- A root and its pool, after the first entries of a journal.
use Rattle.std.specs.Prelude.{◌≡◌, ℕ, ◌+◌, ◌*◌, ◌<◌, ◌≤◌, ◌⊎◌, List, Some, take, slice_get}
use Rattle.pa_record.specs.declared.pool.PoolEntry.{PoolEntry}
use Rattle.pa_record.specs.declared.root.RootEntry.{RootEntry}
use Rattle.pa_record.specs.Root.{asked_by, new_root, root_replayed}
use Rattle.pa_audit_heap.specs.declared.replay.Replay.{Replay}
use Rattle.pa_audit_heap.specs.Replayed.{IsInStep}

-- entry i, one of the first j, names entry a of the pool
pub record HasAsked (es : List RootEntry) (j a : ℕ) : Type 0 where
  pub index : ℕ
  pub entry : RootEntry
  pub below : index < j
  pub at : slice_get es index ≡ Some entry
  pub names : asked_by entry.act ≡ Some a

-- The first j entries were played: `least` is the first entry of the pool that the next one may name.
pub record IsReplayed (supers : ℕ) (pools : List PoolEntry) (es : List RootEntry) (j : ℕ) (r : Replay) (least : ℕ) : Type 0 where
  pub root : r.root ≡ root_replayed pools (take j es) new_root
  pub supers_are : r.plan.supers ≡ supers
  pub step : IsInStep pools r.plan r.root
  pub turn : r.root.turn ≤ 32 * j
  pub low : r.plan.entries ≤ least
  pub above : (a : ℕ) → HasAsked es j a → a < least
  pub reached : (least ≡ 0) ⊎ ((a : ℕ) × HasAsked es j a × (least ≡ a + 1))
