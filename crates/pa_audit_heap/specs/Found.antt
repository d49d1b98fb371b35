-- What the walk over a journal returns.
use Rattle.std.specs.Prelude.{◌≡◌, ℕ, List, Some, length}
use Rattle.pa_record.specs.declared.pool.PoolEntry.{PoolEntry}
use Rattle.pa_rules.specs.declared.played.Played.{Played}
use Rattle.pa_rules.specs.declared.verdict.Place.TheVariants as places
use Rattle.pa_rules.specs.HeapDemands.{RootsDemand}
use Rattle.pa_rules.specs.Roots.{Journals}
use Rattle.pa_rules.specs.Tells.{TellsFirst}
use Rattle.pa_audit_heap.specs.declared.roots.JournalFound.{JournalFound}
use Rattle.pa_audit_heap.specs.declared.roots.JournalFound.TheVariants.{Misfit, Meets}
use Rattle.pa_audit_heap.specs.Censuses.{HaveCensuses}

-- This is the first entry that doesn't meet its clause, or each does and the root has this at the end of each phase.
abbrev pub TellsJournal : ℕ → ℕ → List Played → List PoolEntry → Journals → ℕ → JournalFound → Type 0
TellsJournal partitions phases ps pools roots p (Misfit j) =
    TellsFirst (λ i. RootsDemand partitions ps pools roots (places.Root p i)) (Some j)
TellsJournal partitions phases ps pools roots p (Meets censuses) =
    ((i : ℕ) → RootsDemand partitions ps pools roots (places.Root p i)) × HaveCensuses ps pools roots p censuses
    × (length censuses ≡ phases)
