-- The steps that lead to a record from those before it, as a walk goes them.
use Rattle.std.specs.Prelude.{◌≡◌, ◌≢◌, ℕ, ◌+◌, ◌<◌, ◌≤◌, ◌⊎◌, List, [], ◌∷◌, Option, Some, None, IfSome, Contains, length, slice_get}
use Rattle.pa_record.specs.declared.history.CellEntry.{CellEntry}
use Rattle.pa_record.specs.declared.history.Held.TheVariants.{Nothing}
use Rattle.pa_rules.specs.declared.played.Played.{Played}
use Rattle.pa_rules.specs.Cells.{IsExchange}
use Rattle.pa_rules.specs.Order.{StandsBefore}
use Rattle.pa_rules.specs.RecordDemands.{IsRecord}
use Rattle.pa_rules.specs.Seen.{HandsTo}

-- x comes before y in the order of threads and phases, or handed a handle over to y
abbrev pub IsStepTo : (ℕ → List CellEntry) → Played → Played → Type 0
IsStepTo cells x y = StandsBefore x y ⊎ HandsTo cells x y

-- the exchange before this one of the cell is of this line, and gave a handle
abbrev pub IsGiving : (ℕ → List CellEntry) → ℕ → ℕ → ℕ → Type 0
IsGiving cells k j line = (i : ℕ) × (e : CellEntry) × (j ≡ i + 1) × IsExchange cells k i e × (e.line ≡ line) × (e.gave ≢ Nothing)

-- of the records before index k the last one of the thread is this, or none is
abbrev pub IsLastOf : List Played → ℕ → ℕ → Option ℕ → Type 0
IsLastOf ps t k None = (j : ℕ) (x : Played) → j < k → IsRecord ps j x → x.thread ≡ t → ⊥
IsLastOf ps t k (Some i) =
    (x : Played) × IsRecord ps i x × (i < k) × (x.thread ≡ t) × ((j : ℕ) (y : Played) → i < j → j < k → IsRecord ps j y → y.thread ≡ t → ⊥)

-- the table has for each of that many records the one of its thread before it
pub record ArePrevious (ps : List Played) (table : List (Option ℕ)) (k : ℕ) : Type 0 where
  pub long : length table ≡ k
  pub last : (i : ℕ) (y : Played) (o : Option ℕ) → slice_get table i ≡ Some o → IsRecord ps i y → IsLastOf ps y.thread i o

-- a handle was handed over to this record by that one, or by none
pub record IsGiverOf (cells : ℕ → List CellEntry) (ps : List Played) (y : Played) (o : Option ℕ) : Type 0 where
  pub some : IfSome o (λ j. (x : Played) × IsRecord ps j x × HandsTo cells x y)
  pub all : (j : ℕ) (x : Played) → IsRecord ps j x → HandsTo cells x y → o ≡ Some j

-- the table has for each of that many records the one that handed over to it
pub record AreGivers (cells : ℕ → List CellEntry) (ps : List Played) (table : List (Option ℕ)) (k : ℕ) : Type 0 where
  pub long : length table ≡ k
  pub hands : (i : ℕ) (y : Played) (o : Option ℕ) → slice_get table i ≡ Some o → IsRecord ps i y → IsGiverOf cells ps y o

-- a record, if there is one, as a list
abbrev pub as_list : Option ℕ → List ℕ
as_list None = []
as_list (Some i) = i ∷ []

-- The indices from `low` to before `high`, with records that are all of an earlier phase, are added to the list.
pub record Adds (ps : List Played) (phase : ℕ) (old : List ℕ) (low : ℕ) (new : List ℕ) (high : ℕ) : Type 0 where
  pub from : low ≤ high
  pub within : high ≤ length ps
  pub passed : (j : ℕ) (x : Played) → low ≤ j → j < high → IsRecord ps j x → x.phase < phase
  pub kept : (j : ℕ) → Contains old j → Contains new j
  pub here : (j : ℕ) → low ≤ j → j < high → Contains new j
  pub only : (j : ℕ) → Contains new j → Contains old j ⊎ ((low ≤ j) × (j < high))
  pub few : length new + low ≡ length old + high

-- The indices from `low` on are added to the list, up to the first record that is
-- of this phase or a later one, or to the end of the records.
pub record AddsAll (ps : List Played) (phase : ℕ) (old : List ℕ) (low : ℕ) (new : List ℕ) (high : ℕ) : Type 0 where
  pub adds : Adds ps phase old low new high
  pub stop : (x : Played) → IsRecord ps high x → phase ≤ x.phase

-- The records from which the nearest steps lead to record i are added to the list. Those of earlier phases are below the floor.
pub record AddsSteps (cells : ℕ → List CellEntry) (ps : List Played) (i : ℕ) (old : List ℕ) (low : ℕ) (new : List ℕ)
    (high : ℕ) : Type 0 where
  pub previous : (j : ℕ) (y : Played) → IsRecord ps i y → IsLastOf ps y.thread i (Some j) → Contains new j
  pub giver : (j : ℕ) (x y : Played) → IsRecord ps j x → IsRecord ps i y → HandsTo cells x y → Contains new j
  pub phases : (j : ℕ) (x y : Played) → IsRecord ps j x → IsRecord ps i y → x.phase < y.phase → j < high
  pub floor : (j : ℕ) → j < high → (j < low) ⊎ Contains new j
  pub within : high ≤ length ps
  pub only : (j : ℕ) → Contains new j
      → Contains old j ⊎ ((x : Played) × (y : Played) × IsRecord ps j x × IsRecord ps i y × IsStepTo cells x y)
  pub kept : (j : ℕ) → Contains old j → Contains new j
  pub few : (low ≤ high) × (length new + low ≤ length old + high + 2)

-- no cell has an exchange
abbrev pub HasNoExchange : (ℕ → List CellEntry) → Type 0
HasNoExchange cells = (k i : ℕ) (e : CellEntry) → IsExchange cells k i e → ⊥
