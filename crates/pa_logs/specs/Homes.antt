-- The partition of each slot, from the journals. Each slot which a record stepped on or looked at has one, and a length.
use Rattle.std.specs.Prelude.{◌≡◌, ℕ, zero, suc, nat_le, ◌<◌, if◌then◌else◌, Contains, List, length}
use Rattle.std.specs.List.{list_any}
use Rattle.pa_slot.specs.declared.title.Title.{Title}
use Rattle.pa_slot.specs.declared.word.SlotName.{SlotName}
use Rattle.pa_slot.specs.Run.{Slots, same_slot}
use Rattle.pa_trace.specs.declared.script.Rules.{Rules}
use Rattle.pa_record.specs.declared.entry.Seen.{Seen}
use Rattle.pa_record.specs.declared.entry.Answer.TheVariants.{Made}
use Rattle.pa_record.specs.declared.pool.PoolEntry.{PoolEntry}
use Rattle.pa_record.specs.Spans.{name_of}
use Rattle.pa_region.specs.History.{Done}
use Rattle.pa_rules.specs.declared.played.Played.{Played}
use Rattle.pa_rules.specs.Played.{marks_of}
use Rattle.pa_rules.specs.Registers.{plain_in}
use Rattle.pa_rules.specs.Roots.{Journals, AreRoots, IsPoolOf}
use Rattle.pa_rules.specs.Report.{HasSize}
use Rattle.pa_legal.specs.Flows.{IsMadeFor}
use Rattle.pa_legal.specs.Known.{FindsInUse}
use Rattle.pa_legal.specs.Tallies.{AreHomes}
use Rattle.pa_logs.specs.Lengths.{titles_by, lengths_by}
use Rattle.pa_logs.specs.Steps.{AreSteps}

-- the last of the first partitions with a journal that makes a title of that name, 0 if none does
abbrev pub homes_by : ℕ → List PoolEntry → Journals → SlotName → ℕ
homes_by zero pools roots s = 0
homes_by (suc n) pools roots s =
    if list_any (λ (t : Title). same_slot (name_of t) s) (titles_by pools (roots n)) then n else homes_by n pools roots s

-- What is known of a run: its journals and pool, that a slot which a record made is of the partition from which its op asked for it,
-- each slot's run, and that looks find words in use.
pub record HaveSlots (supers partitions : ℕ) (ps : List Played) (pools : List PoolEntry) (roots : Journals) : Type 0 where
  pub journals : AreRoots partitions ps pools roots
  pub pool : IsPoolOf supers ps pools roots
  pub made : (x : Played) (seen : Seen) (usable : ℕ) → Contains ps x → x.answer ≡ Made seen usable → IsMadeFor roots x seen.slot
  pub slots : Slots (marks_of ps)
  pub used : (x : Played) → Contains ps x → FindsInUse x

-- Each slot that a record stepped on or looked at is one that a journal made and handed out.
--   named: a slot of a partition has that one
--   homes: the partition and the length that the journals give are those of each slot of a record
--   plain: a slot that was stepped on is plain, by the record that made it, exactly if its partition is, by the rules of all records
pub record HomesFollow : Type 0 where
  pub named : (supers partitions p len : ℕ) (ps : List Played) (pools : List PoolEntry) (roots : Journals) (s : SlotName) →
      AreRoots partitions ps pools roots → IsPoolOf supers ps pools roots → HasSize roots p s len → homes_by partitions pools roots s ≡ p
  pub homes : (supers partitions : ℕ) (ps : List Played) (pools : List PoolEntry) (roots : Journals) →
      HaveSlots supers partitions ps pools roots →
      AreHomes roots (homes_by partitions pools roots) (lengths_by partitions pools roots) (marks_of ps)
  pub plain : (supers partitions : ℕ) (rules : Rules) (ps : List Played) (pools : List PoolEntry) (roots : Journals) (s : SlotName)
      (history : List Done) → HaveSlots supers partitions ps pools roots → ((x : Played) → Contains ps x → x.rules ≡ rules) →
      AreSteps ps s history → 0 < length history → plain_in ps s ≡ nat_le rules.plain_from (homes_by partitions pools roots s)
