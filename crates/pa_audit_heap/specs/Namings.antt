-- Which entries of the journals name an entry of the pool.
use Rattle.std.specs.Prelude.{◌≡◌, ℕ, ◌<◌, List, length, Some, slice_index_or}
use Rattle.pa_record.specs.declared.pool.PoolEntry.{PoolEntry}
use Rattle.pa_record.specs.declared.root.RootEntry.{RootEntry}
use Rattle.pa_record.specs.Root.{asked_by}
use Rattle.pa_rules.specs.RecordDemands.{IsAbove}
use Rattle.pa_rules.specs.Roots.{Journals, IsEntry, Names}
use Rattle.pa_audit_heap.specs.declared.namings.Naming.{Naming}
use Rattle.pa_audit_heap.specs.declared.namings.Naming.TheVariants.{Nobody, Once, Again}

-- entry i of partition p's journal, which comes above entry n of partition q's, names entry j of the pool
abbrev pub NamesAbove : Journals → ℕ → ℕ → ℕ → ℕ → ℕ → Type 0
NamesAbove roots q n p i j = IsAbove p i q n × Names roots p i j

-- How the entries above entry n of partition q's journal name entry j of the pool: none does,
-- just one does and is of this partition and line, or two do.
abbrev pub IsNaming : Journals → ℕ → ℕ → ℕ → Naming → Type 0
IsNaming roots q n j Nobody = (p i : ℕ) → NamesAbove roots q n p i j → ⊥
IsNaming roots q n j (Once partition line) =
    (i : ℕ) × (f : RootEntry) × IsAbove partition i q n × IsEntry roots partition i f × (asked_by f.act ≡ Some j) × (f.line ≡ line)
    × ((p k : ℕ) → NamesAbove roots q n p k j → (p ≡ partition) × (k ≡ i))
IsNaming roots q n j Again =
    (p i r k : ℕ) × NamesAbove roots q n p i j × NamesAbove roots q n r k j × ((p ≡ r) × (i ≡ k) → ⊥)

-- the namings are those of the pool's first entries, by the entries above entry n of partition q's journal
pub record AreNamings (roots : Journals) (q n size : ℕ) (namings : List Naming) : Type 0 where
  pub many : length namings ≡ size
  pub each : (j : ℕ) → j < size → IsNaming roots q n j (slice_index_or namings j Nobody)

-- just one entry of the journals names entry j of the pool, which is e, and it is of e's partition and line
pub record IsNamed (roots : Journals) (j : ℕ) (e : PoolEntry) : Type 0 where
  pub named : (i : ℕ) × (f : RootEntry) × IsEntry roots e.partition i f × (asked_by f.act ≡ Some j) × (f.line ≡ e.line)
  pub once : (p q i k : ℕ) → Names roots p i j → Names roots q k j → (p ≡ q) × (i ≡ k)

-- what a naming becomes if one more entry of a journal names the same entry of the pool
abbrev pub named_by : Naming → Naming → Naming
named_by Nobody next = next
named_by (Once partition line) next = Again
named_by Again next = Again
