-- Direct maps that an entry of a journal took away for good.
use Rattle.std.specs.Prelude.{◌≡◌, ℕ, ◌<◌, ◌≤◌, min, List, Option, Some, None, length, slice_get, slice_index_or}
use Rattle.pa_slot.specs.declared.word.SlotName.{SlotName}
use Rattle.pa_record.specs.declared.numbered.Numbered.{Numbered}
use Rattle.pa_record.specs.declared.root.RootEntry.{RootEntry}
use Rattle.pa_record.specs.declared.root.RootAct.TheVariants.{Unmap}
use Rattle.pa_rules.specs.Holders.{NamesSlot}
use Rattle.pa_audit_records.specs.Keys.{name_key}

-- an entry of the journal took the slot away at this number
abbrev pub IsUnmapped : List RootEntry → SlotName → ℕ → Type 0
IsUnmapped journal s k =
    (i asked : ℕ) × (e : RootEntry) × (slice_get journal i ≡ Some e) × (e.act ≡ Unmap asked (record { slot = s; number = k }))

-- the table has the least number at which an entry took each slot away
pub record HasGone (journal : List RootEntry) (at : ℕ → Option ℕ) : Type 0 where
  pub hit : (s : SlotName) (k : ℕ) → s.start < 4294967296 → at (name_key s) ≡ Some k → IsUnmapped journal s k
  pub least : (s : SlotName) (k n : ℕ) → s.start < 4294967296 → at (name_key s) ≡ Some k → IsUnmapped journal s n → k ≤ n
  pub miss : (s : SlotName) (n : ℕ) → s.start < 4294967296 → at (name_key s) ≡ None → IsUnmapped journal s n → ⊥

-- the entry names no slot that one of these took away
abbrev pub NamesNoneGone : List RootEntry → RootEntry → Type 0
NamesNoneGone before e = (s : SlotName) (n : ℕ) → NamesSlot e s → IsUnmapped before s n → ⊥

-- none of the entries before took one of these slots away
abbrev pub NoneGone : List RootEntry → List Numbered → Type 0
NoneGone before slots = (i n : ℕ) (d : Numbered) → i < length slots → IsUnmapped before (slice_index_or slots i d).slot n → ⊥

-- the lesser of a number and another one, if there is another
abbrev pub lesser_of : Option ℕ → ℕ → ℕ
lesser_of None n = n
lesser_of (Some k) n = min k n
