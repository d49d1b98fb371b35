-- The state before a line, and the ledger that the core is to show then.
use Rattle.std.specs.Prelude.{ℕ, zero, suc}
use Rattle.pa_slot.specs.declared.word.SlotName.{SlotName}
use Rattle.pa_buckets.specs.Limits.{class_count}
use Rattle.pa_record.specs.declared.history.Held.{Held}
use Rattle.pa_trace.specs.Limits.{register_count, cell_count}
use Rattle.pa_rules.specs.Registers.{Reg, AllRegs, reg_of}
use Rattle.pa_rules.specs.Caches.{Caches}
use Rattle.pa_rules.specs.Flow.{listed_times}
use Rattle.pa_slot_effects.specs.Shown.{owns, points, over}
use Rattle.pa_core_run.specs.Ledger.{Ledger}

-- the registers of all threads, what each cell holds, the threads' lists, and each slot's word and content
pub record Standing : Type 0 where
  pub regs : AllRegs
  pub held : ℕ → Held
  pub caches : Caches
  pub word : SlotName → ℕ
  pub content : SlotName → ℕ

-- what an actor has in all its registers, by this count of each, with the cells as the registers of actor 0
abbrev pub in_registers : (Reg → ℕ) → Standing → ℕ → ℕ
in_registers f st zero = over cell_count (λ k. f (reg_of (st.held k)))
in_registers f st (suc k) = over register_count (λ r. f (st.regs k r))

-- how often an actor's lists have the slot, over all partitions, with no lists for actor 0
abbrev pub in_lists : ℕ → Standing → SlotName → ℕ → ℕ
in_lists partitions st x zero = 0
in_lists partitions st x (suc k) = over partitions (λ p. listed_times x (st.caches k p) 0 class_count)

-- the ledger of a state: the owners, the raw_ptrs and the free slots that each actor has, and the word and the content of each slot
abbrev pub ledger_of : ℕ → Standing → Ledger
ledger_of partitions st =
    record {
      own = λ k x. in_registers (owns x) st k;
      ref = λ k x. in_registers (points x) st k;
      free = λ k x. in_lists partitions st x k;
      word = st.word;
      content = st.content;
    }
