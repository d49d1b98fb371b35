-- What a slot is: of one partition, and of one class or a direct map of one length.
use Rattle.std.specs.Prelude.{◌≡◌, ℕ, List, Contains}
use Rattle.pa_slot.specs.declared.word.SlotName.{SlotName}
use Rattle.pa_record.specs.declared.pool.PoolEntry.{PoolEntry}
use Rattle.pa_rules.specs.declared.played.Played.{Played}
use Rattle.pa_rules.specs.Roots.{Journals, AreRoots, IsPoolOf}
use Rattle.pa_rules.specs.Caches.{IsOfClass, IsDirect}
use Rattle.pa_rules.specs.Report.{HasSize}
use Rattle.pa_rules.specs.Sizes.{HasClass}

-- A slot of the journals, which are those of some records, has one kind.
--   class: fills give it one partition and class
--   real: the class is one of the version of a record
--   direct: direct maps give it one partition
--   either: a slot of a class is no direct map
--   size: it has one length
pub record HasOneKind (ps : List Played) (roots : Journals) (s : SlotName) : Type 0 where
  pub class : (p q c d : ℕ) → IsOfClass roots s p c → IsOfClass roots s q d → (p ≡ q) × (c ≡ d)
  pub real : (p c : ℕ) → IsOfClass roots s p c → (x : Played) × Contains ps x × HasClass x.rules.version c
  pub direct : (p q : ℕ) → IsDirect roots s p → IsDirect roots s q → p ≡ q
  pub either : (p q c : ℕ) → IsOfClass roots s p c → IsDirect roots s q → ⊥
  pub size : (p q len more : ℕ) → HasSize roots p s len → HasSize roots q s more → (p ≡ q) × (len ≡ more)

-- every slot has one kind, if the journals and the pool are those of some records
abbrev pub OneKind : Type 0
OneKind =
    (supers partitions : ℕ) (ps : List Played) (pools : List PoolEntry) (roots : Journals) (s : SlotName) →
    AreRoots partitions ps pools roots → IsPoolOf supers ps pools roots → HasOneKind ps roots s
