-- What a worker counts of its own steps: for each partition the slots that it made live, freed, quarantined by a free, and released
-- from quarantine by the last reset. Of their bytes it counts those that it owes to the totals words.
use Rattle.std.specs.Prelude.{◌≡◌, ℕ, ◌+◌, ◌*◌, ◌<◌, ◌≤◌, List, length, Bool, if◌then◌else◌, Option, Some, None, slice_index_or, slice_set}
use Rattle.pa_slot.specs.declared.word.SlotName.{SlotName}
use Rattle.pa_slot.specs.declared.word.Step.{Step}
use Rattle.pa_record.specs.declared.entry.Answer.{Answer}
use Rattle.pa_record.specs.declared.entry.Answer.TheVariants as answers
use Rattle.pa_record.specs.declared.entry.Seen.{Seen}
use Rattle.pa_trace.specs.Limits.{most_partitions}
use Rattle.pa_rules.specs.declared.played.Played.{Played}
use Rattle.pa_rules.specs.Played.{marks_of}
use Rattle.pa_slot.specs.Kinds.{issues, frees, enters, leaves}
use Rattle.pa_legal.specs.Tallies.{weight_of, one_of}
use Rattle.pa_cells.specs.declared.handle.Handle.{Handle}
use Rattle.pa_totals.specs.declared.owed.Owed.{Owed}
use Rattle.pa_totals.specs.Settled.{owed_at}
use Rattle.pa_op_specs.specs.declared.counts.Count.{Count}
use Rattle.pa_rules.specs.declared.register.Register.TheVariants.{Empty, Own, Ref, Freed, Cleared}
use Rattle.pa_op_specs.specs.Stocks.{StockRegister}

-- the count of a partition of which nothing was counted
abbrev pub no_count : Count
no_count = record { issued = 0; freed = 0; entered = 0; left = 0 }

-- the count of partition p, all 0 if there is none
abbrev pub counted_in : List Count → ℕ → Count
counted_in counts p = slice_index_or counts p no_count

-- this many more, if the test is true
abbrev pub more_if : Bool → ℕ → ℕ → ℕ
more_if test more n = if test then n + more else n

-- a partition's count after a step that found this word
abbrev pub after_step : Step → ℕ → Count → Count
after_step step found c =
    record {
      issued = more_if (issues step found) 1 c.issued;
      freed = more_if (frees step found) 1 c.freed;
      entered = more_if (enters step found) 1 c.entered;
      left = more_if (leaves step found) 1 c.left;
    }

-- what is owed to the words of a partition after such a step, on a slot of this many bytes
abbrev pub owed_after_step : Step → ℕ → ℕ → Owed → Owed
owed_after_step step found bytes o =
    record {
      issued = more_if (issues step found) bytes o.issued;
      freed = more_if (frees step found) bytes o.freed;
      entered = more_if (enters step found) bytes o.entered;
      left = more_if (leaves step found) bytes o.left;
    }

-- the counts after an op that made this step on the slot of a handle, if it made one
abbrev pub counts_after : Step → Option Handle → Option Seen → List Count → List Count
counts_after step None seen counts = counts
counts_after step (Some h) None counts = counts
counts_after step (Some h) (Some seen) counts =
    slice_set counts h.partition (after_step step seen.found.0 (counted_in counts h.partition))

-- what is owed after an op that made this step on the slot of a handle, if it made one
abbrev pub owed_after : Step → Option Handle → Option Seen → List Owed → List Owed
owed_after step None seen owed = owed
owed_after step (Some h) None owed = owed
owed_after step (Some h) (Some seen) owed =
    slice_set owed h.partition (owed_after_step step seen.found.0 h.title.len (owed_at owed h.partition))

-- the handle of a register that owns its slot, if it does
abbrev pub owned_in : StockRegister → Option Handle
owned_in Empty = None
owned_in (Own h) = Some h
owned_in (Ref h) = None
owned_in Freed = None
owned_in Cleared = None

-- the handle of a register that points to a slot without owning it, if it has one
abbrev pub pointed_in : StockRegister → Option Handle
pointed_in Empty = None
pointed_in (Own h) = None
pointed_in (Ref h) = Some h
pointed_in Freed = None
pointed_in Cleared = None

-- what an answer says was found by a step that was made
abbrev pub done_seen : Answer → Option Seen
done_seen (answers.Done seen) = Some seen
done_seen answer = None

-- what was found of the slot, if the answer says that one was made
abbrev pub made_seen : Answer → Option Seen
made_seen (answers.Made seen usable) = Some seen
made_seen answer = None

-- The counts are of at most this many steps: one slot each.
pub record AreOfSteps (steps : ℕ) (counts : List Count) : Type 0 where
  pub count : length counts ≡ most_partitions
  pub issued : (p : ℕ) → (counted_in counts p).issued ≤ steps
  pub freed : (p : ℕ) → (counted_in counts p).freed ≤ steps
  pub entered : (p : ℕ) → (counted_in counts p).entered ≤ steps
  pub left : (p : ℕ) → (counted_in counts p).left ≤ steps

-- At most this many steps owe that: less than 2^32 bytes each.
pub record IsOwedBySteps (steps : ℕ) (owed : List Owed) : Type 0 where
  pub count : length owed ≡ most_partitions
  pub issued : (p : ℕ) → (owed_at owed p).issued ≤ 4294967296 * steps
  pub freed : (p : ℕ) → (owed_at owed p).freed ≤ 4294967296 * steps
  pub entered : (p : ℕ) → (owed_at owed p).entered ≤ 4294967296 * steps
  pub left : (p : ℕ) → (owed_at owed p).left ≤ 4294967296 * steps

-- The number grew by the slots of partition p with a step in these records that passes.
abbrev pub GrewBy : (Step → ℕ → Bool) → (SlotName → ℕ) → ℕ → List Played → (before after : ℕ) → Type 0
GrewBy test home p xs before after = after ≡ before + weight_of test (one_of home p) (marks_of xs)

-- each of the four counts of each partition grew by these records, with this as the partition of each slot
pub record CountsBy (home : SlotName → ℕ) (xs : List Played) (before after : List Count) : Type 0 where
  pub issued : (p : ℕ) → p < most_partitions → GrewBy issues home p xs (counted_in before p).issued (counted_in after p).issued
  pub freed : (p : ℕ) → p < most_partitions → GrewBy frees home p xs (counted_in before p).freed (counted_in after p).freed
  pub entered : (p : ℕ) → p < most_partitions → GrewBy enters home p xs (counted_in before p).entered (counted_in after p).entered
  pub left : (p : ℕ) → p < most_partitions → GrewBy leaves home p xs (counted_in before p).left (counted_in after p).left
