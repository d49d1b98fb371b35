-- The report: the heap of each partition after each phase.
use Rattle.std.specs.Prelude.{◌≡◌, ◌≢◌, ℕ, zero, suc, ◌+◌, ◌*◌, ◌<◌, ◌≤◌, ◌↔◌, ◌⊎◌, nat_le, List, [], ◌∷◌, ◌++◌, map, length, Contains, All, AllPairs, filter, sum}
use Rattle.std.specs.List.{AllZip}
use Rattle.pa_slot.specs.declared.word.SlotName.{SlotName}
use Rattle.pa_slot.specs.Run.{IsRunFrom, IsLive, IsQuarantined}
use Rattle.pa_buckets.specs.Limits.{class_count}
use Rattle.pa_buckets.specs.Table.{slot_of}
use Rattle.pa_record.specs.declared.pool.PoolEntry.{PoolEntry}
use Rattle.pa_record.specs.declared.report.ReportLine.{ReportLine}
use Rattle.pa_record.specs.declared.report.Tally.{Tally}
use Rattle.pa_record.specs.declared.root.RootEntry.{RootEntry}
use Rattle.pa_record.specs.declared.root.RootAct.TheVariants.{Map}
use Rattle.pa_record.specs.declared.census.Census.{Census}
use Rattle.pa_record.specs.Root.{new_root, root_replayed}
use Rattle.pa_record.specs.Census.{census}
use Rattle.pa_rules.specs.declared.played.Played.{Played}
use Rattle.pa_rules.specs.Played.{marks_of}
use Rattle.pa_rules.specs.Roots.{Journals}
use Rattle.pa_rules.specs.Order.{IsOfLine}
use Rattle.pa_rules.specs.Caches.{Caches, CachesTo, no_caches, IsOfClass, listed_slots}

-- the records up to the end of a phase
abbrev pub until : ℕ → List Played → List Played
until phase ps = filter (λ (x : Played). nat_le x.phase phase) ps

-- the slot is partition p's, and has this many bytes
abbrev pub HasSize : Journals → ℕ → SlotName → ℕ → Type 0
HasSize roots p s len =
    ((class : ℕ) × IsOfClass roots s p class × (len ≡ slot_of class))
    ⊎ ((e : RootEntry) × (asked : ℕ) × Contains (roots p) e × (e.act ≡ Map asked s len))

-- the last word of a run that begins at u
abbrev pub last_word : ℕ → List ℕ → ℕ
last_word u [] = u
last_word u (v ∷ vs) = last_word v vs

-- the word of a slot after these records
abbrev pub HasWord : List Played → SlotName → ℕ → Type 0
HasWord ps s w = (vs : List ℕ) × IsRunFrom (marks_of ps) s 0 vs × (w ≡ last_word 0 vs)

-- these are the slots of partition p whose words after these records meet the condition, each once
pub record AreSlots (P : ℕ → Type 0) (roots : Journals) (ps : List Played) (p : ℕ) (slots : List SlotName) (sizes : List ℕ) : Type 0 where
  pub once : AllPairs ◌≢◌ slots
  pub all : (s : SlotName) → Contains slots s ↔ ((len w : ℕ) × HasSize roots p s len × HasWord ps s w × P w)
  pub sized : AllZip (HasSize roots p) slots sizes

-- the tally has the number of these slots of partition p, and their bytes
abbrev pub IsTally : (ℕ → Type 0) → Journals → List Played → ℕ → Tally → Type 0
IsTally P roots ps p tally =
    (slots : List SlotName) × (sizes : List ℕ) × AreSlots P roots ps p slots sizes × (tally.slots ≡ length slots)
    × (tally.bytes ≡ sum sizes)

-- how many bytes the slots of `n` classes from one on have, by how many slots each class has
unfoldable pub listed_bytes : (ℕ → ℕ) → ℕ → ℕ → ℕ
listed_bytes counts class zero = 0
listed_bytes counts class (suc n) = slot_of class * counts class + listed_bytes counts (class + 1) n

-- how many slots the lists of partition p have, of all classes, of the threads below a number
abbrev pub cached_slots : Caches → ℕ → ℕ → ℕ
cached_slots all p zero = 0
cached_slots all p (suc t) = listed_slots (all t p) 0 class_count + cached_slots all p t

-- how many bytes the lists of partition p have, of all classes, of the threads below a number
abbrev pub cached_bytes : Caches → ℕ → ℕ → ℕ
cached_bytes all p zero = 0
cached_bytes all p (suc t) = listed_bytes (λ class. length (all t p class)) 0 class_count + cached_bytes all p t

-- the caches after these records hold this tally of partition p
abbrev pub IsCached : ℕ → ℕ → Journals → List Played → ℕ → Tally → Type 0
IsCached partitions threads roots ps p tally =
    (all : Caches) × CachesTo partitions roots no_caches ps all × (tally.slots ≡ cached_slots all p threads)
    × (tally.bytes ≡ cached_bytes all p threads)

-- the entry's record is in this phase or an earlier one
abbrev pub InPhases : List Played → ℕ → RootEntry → Type 0
InPhases ps phase e = (x : Played) × IsOfLine ps e.line x × (x.phase ≤ phase)

-- the entry's record is in a later phase
abbrev pub PastPhases : List Played → ℕ → RootEntry → Type 0
PastPhases ps phase e = (x : Played) × IsOfLine ps e.line x × (phase < x.phase)

-- the journal is `before`, which is its entries up to the end of the phase, and then entries of later phases
pub record AreUntil (ps : List Played) (phase : ℕ) (journal before : List RootEntry) : Type 0 where
  pub rest : List RootEntry
  pub parts : journal ≡ before ++ rest
  pub in_phases : All (InPhases ps phase) before
  pub past_phases : All (PastPhases ps phase) rest

-- what the root of partition p has at the end of a phase
abbrev pub HasCensus : List Played → List PoolEntry → Journals → ℕ → ℕ → Census → Type 0
HasCensus ps pools roots phase p c =
    (before : List RootEntry) × AreUntil ps phase (roots p) before × (c ≡ census (root_replayed pools before new_root))

-- what a line of the report says of its partition's root
abbrev pub census_of : ReportLine → Census
census_of l =
    record {
      root = l.root;
      committed = l.committed;
      reserved = l.reserved;
      full = l.full;
      active = l.active;
      empty = l.empty;
      decommitted = l.decommitted;
    }

-- a line of the report: live and quarantined slots by their words, cached ones by the threads' lists, and the census
pub record IsReportLine (partitions threads : ℕ) (ps : List Played) (pools : List PoolEntry) (roots : Journals)
    (l : ReportLine) : Type 0 where
  pub live : IsTally IsLive roots (until l.phase ps) l.partition l.live
  pub quarantined : IsTally IsQuarantined roots (until l.phase ps) l.partition l.quarantined
  pub cached : IsCached partitions threads roots (until l.phase ps) l.partition l.cached
  pub root : HasCensus ps pools roots l.phase l.partition (census_of l)

-- the pairs of this phase and each of `n` partitions from p on, in order
abbrev pub partitions_of : ℕ → ℕ → ℕ → List (ℕ × ℕ)
partitions_of phase p zero = []
partitions_of phase p (suc n) = (phase, p) ∷ partitions_of phase (p + 1) n

-- the pairs of phase and partition, for `n` phases from one on and all partitions in each, in order
abbrev pub phases_of : ℕ → ℕ → ℕ → List (ℕ × ℕ)
phases_of partitions phase zero = []
phases_of partitions phase (suc n) = partitions_of phase 0 partitions ++ phases_of partitions (phase + 1) n

-- the report has one line for each phase and partition, in order, and each is right
pub record IsReport (phases partitions threads : ℕ) (ps : List Played) (pools : List PoolEntry) (roots : Journals)
    (report : List ReportLine) : Type 0 where
  pub places : map (λ (l : ReportLine). (l.phase, l.partition)) report ≡ phases_of partitions 1 phases
  pub right : All (IsReportLine partitions threads ps pools roots) report
