-- Records in the order of their lines, and entries in the order of their records.
use Rattle.std.specs.Prelude.{◌≡◌, ℕ, ◌<◌, ◌≤◌, ◌⊎◌, Bool, true, false, List, length, Option, Some, None, Contains, slice_get, slice_index, slice_set}
use Rattle.pa_trace.specs.Limits.{most_threads}
use Rattle.pa_rules.specs.declared.played.Played.{Played}
use Rattle.pa_rules.specs.Order.{IsOfLine}
use Rattle.pa_audit_heap.specs.declared.order.Order.{Order}

-- the records' threads are of the 16
abbrev pub AreOfThreads16 : List Played → Type 0
AreOfThreads16 ps = (x : Played) → Contains ps x → x.thread < most_threads

-- the one record of a line, and none if there is none
abbrev pub IsTheRecord : List Played → ℕ → Option Played → Type 0
IsTheRecord ps line None = (x : Played) → IsOfLine ps line x → ⊥
IsTheRecord ps line (Some x) = IsOfLine ps line x × ((y : Played) → IsOfLine ps line y → y ≡ x)

-- x is on no lower line than its thread's last one, and in no lower phase
pub record IsBehind (o : Order) (x : Played) : Type 0 where
  pub line : slice_index o.lines x.thread ≤ x.line
  pub phase : o.phase ≤ x.phase

-- the order after record x, which is the last one of its thread now
abbrev pub entered_by : Played → Order → Order
entered_by x o = record { lines = slice_set o.lines x.thread x.line; phase = x.phase }

-- With true, the line has no record and nothing changes, or its record comes in order and is the last one now.
-- With false, it doesn't come in order.
abbrev pub Admits : List Played → ℕ → Order → Order → Bool → Type 0
Admits ps line before after true =
    (((x : Played) → IsOfLine ps line x → ⊥) × (after ≡ before))
    ⊎ ((x : Played) × IsTheRecord ps line (Some x) × IsBehind before x × (after ≡ entered_by x before))
Admits ps line before after false = (x : Played) × IsTheRecord ps line (Some x) × (IsBehind before x → ⊥)

-- x is the record of one of the first j of these lines
pub record IsAmong (ps : List Played) (lines : List ℕ) (j : ℕ) (x : Played) : Type 0 where
  pub index : ℕ
  pub line : ℕ
  pub below : index < j
  pub at : slice_get lines index ≡ Some line
  pub holds : IsOfLine ps line x

-- The order has the greatest line of each thread and the greatest phase of the records
-- of the first j of these lines, and 0 if there is none.
pub record HasSeen (ps : List Played) (lines : List ℕ) (j : ℕ) (o : Order) : Type 0 where
  pub threads : length o.lines ≡ most_threads
  pub line : (x : Played) → IsAmong ps lines j x → x.line ≤ slice_index o.lines x.thread
  pub phase : (x : Played) → IsAmong ps lines j x → x.phase ≤ o.phase
  pub at_line : (t : ℕ) →
      (slice_index o.lines t ≡ 0) ⊎ ((x : Played) × IsAmong ps lines j x × (x.thread ≡ t) × (x.line ≡ slice_index o.lines t))
  pub at_phase : (o.phase ≡ 0) ⊎ ((x : Played) × IsAmong ps lines j x × (x.phase ≡ o.phase))
