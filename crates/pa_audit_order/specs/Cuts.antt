-- What a walk along the records of a thread knows: the records that are before those from some index on.
use Rattle.std.specs.Prelude.{◌≡◌, ℕ, ◌<◌, ◌≤◌, ◌⊎◌, if◌then◌else◌, Bool, List, Option, Some, None, Contains, length, min, sum_by}
use Rattle.pa_slot.specs.Run.{Mark}
use Rattle.pa_record.specs.declared.history.CellEntry.{CellEntry}
use Rattle.pa_rules.specs.declared.played.Played.{Played}
use Rattle.pa_rules.specs.RecordDemands.{IsRecord}
use Rattle.pa_rules.specs.Seen.{IsBefore, HandsTo}
use Rattle.pa_rules.specs.Rising.{RiseByLine}
use Rattle.pa_audit_order.specs.Looks.{IsMarked, AreLeft, FindsEnough}
use Rattle.pa_audit_records.specs.Cuts.{RiseByPhase}
use Rattle.pa_audit_order.specs.Steps.{IsLastOf, ArePrevious, AreGivers}

-- x is before each record of the thread from index k on
abbrev pub IsAhead : (ℕ → List CellEntry) → List Played → ℕ → ℕ → Played → Type 0
IsAhead cells ps t k x = (j : ℕ) (z : Played) → k ≤ j → IsRecord ps j z → z.thread ≡ t → IsBefore cells ps x z

-- x is before the record at index k and those of its thread after it
abbrev pub IsAheadAt : (ℕ → List CellEntry) → List Played → ℕ → Played → Type 0
IsAheadAt cells ps k x = (y : Played) → IsRecord ps k y → IsAhead cells ps y.thread k x

-- a nearest step leads from record j to record i
abbrev pub IsNear : (ℕ → List CellEntry) → List Played → ℕ → ℕ → Type 0
IsNear cells ps j i =
    (x : Played) × (y : Played) × IsRecord ps j x × IsRecord ps i y
    × (IsLastOf ps y.thread i (Some j) ⊎ HandsTo cells x y ⊎ (x.phase < y.phase))

-- index i is marked, or on the stack
abbrev pub IsTakenUp : List Bool → List ℕ → ℕ → Type 0
IsTakenUp marked stack i = IsMarked marked i ⊎ Contains stack i

-- Each index that is known, all of those below the floor among them, has a record that is ahead. The nearest steps to a marked
-- record come from indices that are known, but for one record. The table has what the marked ones left.
pub record IsGrown (cells : ℕ → List CellEntry) (ps : List Played) (Ahead : Played → Type 0) (but : ℕ) (marked : List Bool)
    (stack : List ℕ) (floor : ℕ) (left : ℕ → Option ℕ) : Type 0 where
  pub long : length marked ≡ length ps
  pub ground : floor ≤ length ps
  pub within : (i : ℕ) → Contains stack i → i < length ps
  pub ahead : (i : ℕ) (x : Played) → IsTakenUp marked stack i → IsRecord ps i x → Ahead x
  pub below : (i : ℕ) → i < floor → IsTakenUp marked stack i
  pub near : (i j : ℕ) → (i ≡ but → ⊥) → IsMarked marked i → IsNear cells ps j i → IsTakenUp marked stack j
  pub numbers : AreLeft ps marked left

-- how many indices aren't marked
abbrev pub unmarked : List Bool → ℕ
unmarked marked = sum_by (λ b. if b then 0 else 1) marked

-- What the walk finds ready: records in order, and for each record the one before it of its thread and the one that handed over to it.
pub record IsPrepared (cells : ℕ → List CellEntry) (ps : List Played) (previous givers : List (Option ℕ)) : Type 0 where
  pub rising : RiseByLine ps
  pub phases : RiseByPhase ps
  pub threads : ArePrevious ps previous (length ps)
  pub hands : AreGivers cells ps givers (length ps)

-- each record of thread t meets what is required, or record i doesn't and each of that thread before it does
abbrev pub TellsOf : List Played → ℕ → (ℕ → Type 0) → Option ℕ → Type 0
TellsOf ps t Meets None = (i : ℕ) (x : Played) → IsRecord ps i x → x.thread ≡ t → Meets i
TellsOf ps t Meets (Some i) = (Meets i → ⊥) × ((j : ℕ) (x : Played) → j < i → IsRecord ps j x → x.thread ≡ t → Meets j)

-- the record at index k isn't marked, and finds no lower number of its slot than is left
abbrev pub IsOrderly : List Bool → ℕ → (ℕ → Option ℕ) → Option Mark → Type 0
IsOrderly marked k left mark = (IsMarked marked k → ⊥) × FindsEnough left mark

-- each record of the threads below t meets what is required, or record i doesn't and each of those threads before it does
abbrev pub TellsBelow : List Played → ℕ → (ℕ → Type 0) → Option ℕ → Type 0
TellsBelow ps t Meets None = (i : ℕ) (x : Played) → IsRecord ps i x → x.thread < t → Meets i
TellsBelow ps t Meets (Some i) = (Meets i → ⊥) × ((j : ℕ) (x : Played) → j < i → IsRecord ps j x → x.thread < t → Meets j)

-- the lesser of two indices, or the only one
abbrev pub earlier_of : Option ℕ → Option ℕ → Option ℕ
earlier_of None told = told
earlier_of (Some a) None = Some a
earlier_of (Some a) (Some b) = Some (min a b)
