-- The tallies of live and quarantined slots, as sums over the steps of some records.
use Rattle.std.specs.Prelude.{◌≡◌, ◌≢◌, ℕ, ◌+◌, ◌≤◌, ◌==◌, Bool, if◌then◌else◌, List, Contains, AllPairs, sum_by}
use Rattle.pa_slot.specs.declared.word.SlotName.{SlotName}
use Rattle.pa_slot.specs.declared.word.Step.{Step}
use Rattle.pa_slot.specs.Kinds.{issues, frees, enters, leaves}
use Rattle.pa_slot.specs.Run.{Mark, Slots, IsLive, IsQuarantined}
use Rattle.pa_record.specs.declared.pool.PoolEntry.{PoolEntry}
use Rattle.pa_record.specs.declared.report.Tally.{Tally}
use Rattle.pa_rules.specs.declared.played.Played.{Played}
use Rattle.pa_rules.specs.Played.{marks_of}
use Rattle.pa_rules.specs.Roots.{Journals, AreRoots, IsPoolOf}
use Rattle.pa_rules.specs.Report.{HasSize, IsTally}
use Rattle.pa_rules.specs.Flow.{at_step}

-- the total weight of the slots of those marks whose step passes the test
abbrev pub weight_of : (Step → ℕ → Bool) → (SlotName → ℕ) → List Mark → ℕ
weight_of test weight ms = sum_by (λ (m : Mark). if at_step test m.found m.step then weight m.slot else 0) ms

-- each slot that was stepped on or looked at has this partition and this length
abbrev pub AreHomes : Journals → (SlotName → ℕ) → (SlotName → ℕ) → List Mark → Type 0
AreHomes roots home size ms = (m : Mark) → Contains ms m → HasSize roots (home m.slot) m.slot (size m.slot)

-- 1 for a slot of partition p, and 0 for any other
abbrev pub one_of : (SlotName → ℕ) → ℕ → SlotName → ℕ
one_of home p s = if home s == p then 1 else 0

-- the bytes of a slot of partition p, and 0 for any other
abbrev pub bytes_of : (SlotName → ℕ) → (SlotName → ℕ) → ℕ → SlotName → ℕ
bytes_of home size p s = if home s == p then size s else 0

-- the tally is what was added and not removed, in slots and in bytes
pub record IsLeft (into out : Step → ℕ → Bool) (home size : SlotName → ℕ) (p : ℕ) (ms : List Mark) (tally : Tally) : Type 0 where
  pub slots : tally.slots + weight_of out (one_of home p) ms ≡ weight_of into (one_of home p) ms
  pub bytes : tally.bytes + weight_of out (bytes_of home size p) ms ≡ weight_of into (bytes_of home size p) ms

-- no more was removed than added, in slots and in bytes
pub record WentIn (into out : Step → ℕ → Bool) (home size : SlotName → ℕ) (p : ℕ) (ms : List Mark) : Type 0 where
  pub slots : weight_of out (one_of home p) ms ≤ weight_of into (one_of home p) ms
  pub bytes : weight_of out (bytes_of home size p) ms ≤ weight_of into (bytes_of home size p) ms

-- What is given: a run's journals and pool, and some records each with a line of its own, and with one run for each slot.
pub record IsTallied (supers partitions : ℕ) (ps xs : List Played) (pools : List PoolEntry) (roots : Journals) : Type 0 where
  pub journals : AreRoots partitions ps pools roots
  pub pool : IsPoolOf supers ps pools roots
  pub lines : AllPairs (λ (x y : Played). x.line ≢ y.line) xs
  pub slots : Slots (marks_of xs)

-- If what IsTallied asks is given, what was issued and not freed is the tally of a partition's live slots after these records,
-- and what entered the quarantine and didn't leave it is that of the quarantined ones. No more slots were freed than issued,
-- and no more left the quarantine than entered it.
pub record TalliesFollow : Type 0 where
  pub live : (supers partitions p : ℕ) (ps xs : List Played) (pools : List PoolEntry) (roots : Journals)
      (home size : SlotName → ℕ) (tally : Tally) → IsTallied supers partitions ps xs pools roots →
      AreHomes roots home size (marks_of xs) → IsLeft issues frees home size p (marks_of xs) tally → IsTally IsLive roots xs p tally
  pub quarantined : (supers partitions p : ℕ) (ps xs : List Played) (pools : List PoolEntry) (roots : Journals)
      (home size : SlotName → ℕ) (tally : Tally) → IsTallied supers partitions ps xs pools roots →
      AreHomes roots home size (marks_of xs) → IsLeft enters leaves home size p (marks_of xs) tally →
      IsTally IsQuarantined roots xs p tally
  pub freed : (supers partitions p : ℕ) (ps xs : List Played) (pools : List PoolEntry) (roots : Journals) (home size : SlotName → ℕ) →
      IsTallied supers partitions ps xs pools roots → WentIn issues frees home size p (marks_of xs)
  pub left : (supers partitions p : ℕ) (ps xs : List Played) (pools : List PoolEntry) (roots : Journals) (home size : SlotName → ℕ) →
      IsTallied supers partitions ps xs pools roots → WentIn enters leaves home size p (marks_of xs)
