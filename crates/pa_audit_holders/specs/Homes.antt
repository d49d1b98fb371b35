-- The owner of a free slot: the lists of its partition and class, or its root.
use Rattle.std.specs.Prelude.{◌≡◌, ℕ, ◌<◌, nat_lt, if◌then◌else◌, List, Option, Some, None, IsSome, Contains}
use Rattle.pa_buckets.specs.Limits.{class_count}
use Rattle.pa_buckets.specs.Table.{slot_of}
use Rattle.pa_slot.specs.declared.word.SlotName.{SlotName}
use Rattle.pa_record.specs.declared.pool.PoolEntry.{PoolEntry}
use Rattle.pa_record.specs.declared.root.RootEntry.{RootEntry}
use Rattle.pa_record.specs.declared.root.RootAct.{RootAct}
use Rattle.pa_record.specs.declared.root.RootAct.TheVariants.{Fill, Map, Full, Give, Unmap, Purge}
use Rattle.pa_record.specs.Laws.{leaves_by}
use Rattle.pa_rules.specs.RecordDemands.{IsAbove}
use Rattle.pa_rules.specs.declared.played.Played.{Played}
use Rattle.pa_rules.specs.Roots.{Journals, IsEntry, AreRoots, IsPoolOf}
use Rattle.pa_rules.specs.Caches.{IsOfClass, IsDirect}
use Rattle.pa_rules.specs.Report.{HasSize}
use Rattle.pa_rules.specs.Sizes.{HasClass}
use Rattle.pa_audit_records.specs.Keys.{name_key}
use Rattle.pa_audit_holders.specs.declared.homes.Home.{Home}

-- a fill gave the slot this partition and class, or it is a direct map of this partition
abbrev pub IsHomeIn : Journals → SlotName → ℕ → Option ℕ → Type 0
IsHomeIn roots s p (Some class) = IsOfClass roots s p class × (class < class_count)
IsHomeIn roots s p None = IsDirect roots s p

-- the slot has the partition and the class of this home, and its bytes
pub record IsHomeOf (roots : Journals) (s : SlotName) (h : Home) : Type 0 where
  pub goes : IsHomeIn roots s h.partition h.class
  pub size : HasSize roots h.partition s h.bytes

-- The slot has one home: fills give it one partition and class, of the version, direct maps one partition, and it isn't both.
pub record HasOneHome (version : ℕ) (roots : Journals) (s : SlotName) : Type 0 where
  pub class : (p q c d : ℕ) → IsOfClass roots s p c → IsOfClass roots s q d → (p ≡ q) × (c ≡ d)
  pub real : (p c : ℕ) → IsOfClass roots s p c → HasClass version c
  pub direct : (p q : ℕ) → IsDirect roots s p → IsDirect roots s q → p ≡ q
  pub either : (p q c : ℕ) → IsOfClass roots s p c → IsDirect roots s q → ⊥

-- each slot of the journals has one home, if the records are of one version and the clauses of the pool and the roots hold
abbrev pub OneHome : Type 0
OneHome =
    (version supers partitions : ℕ) (ps : List Played) (pools : List PoolEntry) (roots : Journals) (s : SlotName) →
    ((x : Played) → Contains ps x → x.rules.version ≡ version) → AreRoots partitions ps pools roots → IsPoolOf supers ps pools roots →
    HasOneHome version roots s

-- no entry of a journal handed the slot out
pub record IsHomeless (roots : Journals) (s : SlotName) : Type 0 where
  pub class : (p class : ℕ) → IsOfClass roots s p class → ⊥
  pub direct : (p : ℕ) → IsDirect roots s p → ⊥

-- The slot has this home. If there is none, no entry of a journal handed the slot out.
abbrev pub TellsHome : Journals → SlotName → Option Home → Type 0
TellsHome roots s None = IsHomeless roots s
TellsHome roots s (Some h) = IsHomeOf roots s h

-- what a table has by the numbers of slots' names are homes
abbrev pub HasHomes : Journals → (ℕ → Option Home) → Type 0
HasHomes roots at = (k : ℕ) (h : Home) → at k ≡ Some h → (s : SlotName) × (name_key s ≡ k) × (s.start < 4294967296) × IsHomeOf roots s h

-- the table has a home for each of these slots
abbrev pub HasAll : (ℕ → Option Home) → List SlotName → Type 0
HasAll at slots = (s : SlotName) → Contains slots s → IsSome (at (name_key s)) × (s.start < 4294967296)

-- the table keeps the homes that it had, and has one for each of these slots
pub record EntersSlots (before after : ℕ → Option Home) (slots : List SlotName) : Type 0 where
  pub kept : (k : ℕ) → IsSome (before k) → IsSome (after k)
  pub has : HasAll after slots

-- the table has a home for each slot that the entries above entry n of partition q's journal handed out
abbrev pub HasAbove : Journals → ℕ → ℕ → (ℕ → Option Home) → Type 0
HasAbove roots q n at = (p i : ℕ) (e : RootEntry) → IsAbove p i q n → IsEntry roots p i e → HasAll at (leaves_by e.act)

-- the table has the home of each slot that was handed out
pub record KnowsHomes (roots : Journals) (at : ℕ → Option Home) : Type 0 where
  pub homes : HasHomes roots at
  pub all : (p i : ℕ) (e : RootEntry) → IsEntry roots p i e → HasAll at (leaves_by e.act)

-- the home that the table has for a slot, and none for a slot that starts at 2^32 or above
abbrev pub home_at : (ℕ → Option Home) → SlotName → Option Home
home_at at s = if nat_lt s.start 4294967296 then at (name_key s) else None

-- the home that an entry gives the slots that it hands out
abbrev pub home_by : ℕ → RootAct → Home
home_by p (Fill class asked slots) = record { partition = p; class = Some class; bytes = slot_of class }
home_by p (Map asked slot len) = record { partition = p; class = None; bytes = len }
home_by p (Full class asked) = record { partition = p; class = None; bytes = 0 }
home_by p (Give slots) = record { partition = p; class = None; bytes = 0 }
home_by p (Unmap asked slot) = record { partition = p; class = None; bytes = 0 }
home_by p Purge = record { partition = p; class = None; bytes = 0 }

-- each slot's home is the one that each entry of the partition's journal gave it that handed it out
abbrev pub AreHomedIn : Journals → (ℕ → Option Home) → ℕ → Type 0
AreHomedIn roots at p =
    (i : ℕ) (e : RootEntry) (s : SlotName) → IsEntry roots p i e → Contains (leaves_by e.act) s → at (name_key s) ≡ Some (home_by p e.act)
