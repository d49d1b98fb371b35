-- A root and its pool, entry by entry of a journal.
use Rattle.std.specs.Prelude.{◌≡◌, ℕ, ◌+◌, ◌%◌, ◌<◌, ◌≤◌, Bool, true, false, List, length, take}
use Rattle.pa_layout.specs.Limits.{most_supers}
use Rattle.pa_layout.specs.Pages.{supers_for}
use Rattle.pa_record.specs.declared.pool.PoolEntry.{PoolEntry}
use Rattle.pa_record.specs.declared.root.RootAct.{RootAct}
use Rattle.pa_record.specs.declared.root.RootAct.TheVariants.{Fill, Map, Full, Give, Unmap, Purge}
use Rattle.pa_record.specs.Pool.{PoolState, new_pool, pool_replayed}
use Rattle.pa_record.specs.Root.{Root, root_next, RootActFits, asked_by}
use Rattle.pa_record.specs.Sound.{IsBornBelow, AsksFrom, least_after}
use Rattle.pa_audit_heap.specs.Parts.{FitsPool}

-- each entry of the pool fits the pool as the entries before it leave it
abbrev pub DoAllFit : ℕ → List PoolEntry → Type 0
DoAllFit supers pools = (j : ℕ) → FitsPool supers pools j

-- the plan is that of the pool's first entries, and the root has none of its super pages by later ones
pub record IsInStep (pools : List PoolEntry) (plan : PoolState) (r : Root) : Type 0 where
  pub plan_is : plan ≡ pool_replayed (take plan.entries pools) (new_pool plan.supers)
  pub entries : plan.entries ≤ length pools
  pub born : IsBornBelow plan.entries r

-- a direct map has the size of a shape
abbrev pub HasMapSize : RootAct → Type 0
HasMapSize (Fill class asked slots) = Unit {0}
HasMapSize (Map asked slot len) = (len % 4096 ≡ 0) × (0 < len) × (supers_for len ≤ most_supers)
HasMapSize (Full class asked) = Unit {0}
HasMapSize (Give slots) = Unit {0}
HasMapSize (Unmap asked slot) = Unit {0}
HasMapSize Purge = Unit {0}

-- what an entry leaves that fits: the next root, with the plan in step, which is not past the entry that is named
pub record IsPlayedBy (pools : List PoolEntry) (act : RootAct) (plan : PoolState) (r : Root) (next : PoolState)
    (after : Root) : Type 0 where
  pub root : after ≡ root_next pools act r
  pub step : IsInStep pools next after
  pub supers : next.supers ≡ plan.supers
  pub turn : after.turn ≤ r.turn + 32
  pub least : (n : ℕ) → plan.entries ≤ n → AsksFrom n (asked_by act) → next.entries ≤ least_after n (asked_by act)

-- With true, the entry fits and was played. With false, it doesn't fit.
abbrev pub TellsPlay : List PoolEntry → RootAct → PoolState → Root → PoolState → Root → Bool → Type 0
TellsPlay pools act plan r next after true = RootActFits pools act r × IsPlayedBy pools act plan r next after
TellsPlay pools act plan r next after false = RootActFits pools act r → ⊥
