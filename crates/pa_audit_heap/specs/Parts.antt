-- The parts of what the clause of the pool requires of an entry, each of which has a pass of its own,
-- and what the clause of the roots requires of a record.
use Rattle.std.specs.Prelude.{◌≡◌, ℕ, List, map, take}
use Rattle.pa_record.specs.declared.pool.PoolEntry.{PoolEntry}
use Rattle.pa_trace.specs.declared.script.Op.TheVariants as ops
use Rattle.pa_record.specs.declared.entry.Answer.TheVariants as answers
use Rattle.pa_record.specs.declared.root.RootEntry.{RootEntry}
use Rattle.pa_record.specs.Pool.{PoolActFits, new_pool, pool_replayed}
use Rattle.pa_rules.specs.declared.played.Played.{Played}
use Rattle.pa_rules.specs.RecordDemands.{ComesInOrder}
use Rattle.pa_rules.specs.Roots.{Journals, IsEntry, IsFull}
use Rattle.pa_rules.specs.HeapDemands.{IsPoolEntry}
use Rattle.pa_audit_heap.specs.Namings.{IsNamed}

-- entry j fits the pool as the entries before it leave it
abbrev pub FitsPool : ℕ → List PoolEntry → ℕ → Type 0
FitsPool supers pools j =
    (e : PoolEntry) → IsPoolEntry pools j e → PoolActFits pools e.partition e.act (pool_replayed (take j pools) (new_pool supers))

-- the journals name entry j of the pool exactly once, with its partition and line
abbrev pub IsNamedAt : List PoolEntry → Journals → ℕ → Type 0
IsNamedAt pools roots j = (e : PoolEntry) → IsPoolEntry pools j e → IsNamed roots j e

-- no entry of the pool before entry j should come after it
abbrev pub ComesAt : List Played → List PoolEntry → ℕ → Type 0
ComesAt ps pools j = ComesInOrder ps (map (λ (e : PoolEntry). e.line) pools) j

-- a record with the answer Full names a Full of its line
abbrev pub NamesFull : Journals → Played → Type 0
NamesFull roots x =
    (j reg p size : ℕ) → x.answer ≡ answers.Full j → x.op ≡ ops.Alloc reg p size
    → (e : RootEntry) × IsEntry roots p j e × (e.line ≡ x.line) × IsFull e.act
