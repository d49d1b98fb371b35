-- The records that filled a slot, those that made it and those that freed it, by the number that they found there.
use Rattle.std.specs.Prelude.{◌≡◌, ℕ, ◌<◌, List, Option, Some, None}
use Rattle.pa_slot.specs.declared.word.SlotName.{SlotName}
use Rattle.pa_slot.specs.Count.{number_of}
use Rattle.pa_trace.specs.declared.script.Op.{Op}
use Rattle.pa_trace.specs.declared.script.Op.TheVariants as ops
use Rattle.pa_record.specs.declared.entry.Seen.{Seen}
use Rattle.pa_record.specs.declared.entry.Answer.{Answer}
use Rattle.pa_record.specs.declared.entry.Answer.TheVariants.{Made, Done}
use Rattle.pa_rules.specs.declared.played.Played.{Played}
use Rattle.pa_rules.specs.RecordDemands.{IsRecord}
use Rattle.pa_audit_records.specs.Keys.{word_key}
use Rattle.pa_audit_order.specs.declared.numbers.Kind.{Kind}
use Rattle.pa_audit_order.specs.declared.numbers.Kind.TheVariants.{Fill, Issue, Free}

-- What a record saw of the slot that it filled, issued or freed, as the kind says. A slot is filled as it is made or by a write.
abbrev pub seen_by : Kind → Op → Answer → Option Seen
seen_by Fill op (Made seen usable) = Some seen
seen_by Fill (ops.Write reg value) (Done seen) = Some seen
seen_by Issue op (Made seen usable) = Some seen
seen_by Free (ops.Free reg) (Done seen) = Some seen
seen_by kind op answer = None

-- the record filled, issued or freed slot s, as the kind says, and found number n there
abbrev pub DoesAt : Kind → Played → SlotName → ℕ → Type 0
DoesAt kind x s n = (seen : Seen) × (seen_by kind x.op x.answer ≡ Some seen) × (seen.slot ≡ s) × (number_of seen.found.0 ≡ n)

-- at most one record filled, issued or freed a slot at a number, as the kind says
abbrev pub IsOneAt : Kind → List Played → Type 0
IsOneAt kind ps =
    (i j : ℕ) (x y : Played) (s : SlotName) (n : ℕ) → IsRecord ps i x → IsRecord ps j y → DoesAt kind x s n → DoesAt kind y s n
    → i ≡ j

-- the table has the records before index k that filled, issued or freed a slot, as the kind says, each by its slot and number
pub record AreByNumber (kind : Kind) (ps : List Played) (at : ℕ → Option ℕ) (k : ℕ) : Type 0 where
  pub hit : (q i : ℕ) → at q ≡ Some i
      → (x : Played) × (s : SlotName) × (n : ℕ) × (i < k) × IsRecord ps i x × DoesAt kind x s n × (word_key s n ≡ q)
  pub whole : (i : ℕ) (x : Played) (s : SlotName) (n : ℕ) → i < k → IsRecord ps i x → DoesAt kind x s n
      → (s.start < 4294967296) × (n < 18446744073709551616) × (at (word_key s n) ≡ Some i)

-- what a record that filled a slot put into it: the value of a write, and 0 in a slot that is made
abbrev pub put_by : Op → Answer → ℕ
put_by (ops.Write reg value) (Done seen) = value
put_by op answer = 0
