-- The way of a raw_ptr back to its copy, one step at a time, as a table of the records has it.
use Rattle.std.specs.Prelude.{◌≡◌, ℕ, ◌+◌, ◌*◌, ◌<◌, List, Option, Some, None, length, slice_get}
use Rattle.pa_record.specs.declared.history.CellEntry.{CellEntry}
use Rattle.pa_rules.specs.declared.played.Played.{Played}
use Rattle.pa_rules.specs.Cells.{IsExchange}
use Rattle.pa_rules.specs.RecordDemands.{IsRecord}
use Rattle.pa_audit_records.specs.Seeking.{IsOnLine}
use Rattle.pa_audit_records.specs.Tables.{Puts}
use Rattle.pa_dangle.specs.declared.ways.Way.{Way}
use Rattle.pa_dangle.specs.declared.ways.Way.TheVariants.{Unknown, Copied, Given}
use Rattle.pa_dangle.specs.Origins.{first_register, put_into, IsLastPut, IsCopy, IsGivenBy, HasOrigin}

-- record i made the exchange before this one with the cell
abbrev pub IsGiverAt : (ℕ → List CellEntry) → List Played → ℕ → ℕ → ℕ → Type 0
IsGiverAt cells ps k j i = (n : ℕ) × (e : CellEntry) × (j ≡ n + 1) × IsExchange cells k n e × IsOnLine ps e.line i

-- the way back from a record that put a raw_ptr into a register
abbrev pub IsWayBack : (ℕ → List CellEntry) → List Played → Played → Way → Type 0
IsWayBack cells ps y (Copied line) = IsCopy y × (line ≡ y.line)
IsWayBack cells ps y (Given i) = (z : Played) × IsGivenBy cells ps y z × IsRecord ps i z
IsWayBack cells ps y Unknown = (IsCopy y → ⊥) × ((z : Played) → IsGivenBy cells ps y z → ⊥)

-- of the records before index k the last one of the thread that put a raw_ptr into the register is this, or none did
abbrev pub IsLastPutAt : (ℕ → List CellEntry) → List Played → ℕ → ℕ → ℕ → Option ℕ → Type 0
IsLastPutAt cells ps t reg k None =
    (j : ℕ) (x : Played) → j < k → IsRecord ps j x → x.thread ≡ t → put_into cells x.op x.answer ≡ Some reg → ⊥
IsLastPutAt cells ps t reg k (Some i) =
    (x : Played) × IsRecord ps i x × (i < k) × (x.thread ≡ t) × (put_into cells x.op x.answer ≡ Some reg)
    × ((j : ℕ) (y : Played) → i < j → j < k → IsRecord ps j y → y.thread ≡ t → put_into cells y.op y.answer ≡ Some reg → ⊥)

-- the number of a thread's register, of which each thread has 64
abbrev pub register_key : ℕ → ℕ → ℕ
register_key t reg = 64 * t + reg

-- the table has for each register the last of the records before index k that put a raw_ptr into it
abbrev pub AreLastPuts : (ℕ → List CellEntry) → List Played → (ℕ → Option ℕ) → ℕ → Type 0
AreLastPuts cells ps at k = (t reg : ℕ) → reg < 64 → IsLastPutAt cells ps t reg k (at (register_key t reg))

-- the table after a record of that thread at index v, which put a raw_ptr into this register or into none
abbrev pub PutsInto : (f g : ℕ → Option ℕ) → ℕ → Option ℕ → ℕ → Type 0
PutsInto f g t None v = (q : ℕ) → g q ≡ f q
PutsInto f g t (Some reg) v = Puts f g (register_key t reg) v

-- of the records before index k, the last one that put a raw_ptr into the register that x's op names first, if there is such a record
abbrev pub IsPutFor : (ℕ → List CellEntry) → List Played → Played → ℕ → Option ℕ → Option ℕ → Type 0
IsPutFor cells ps x k None o = o ≡ None
IsPutFor cells ps x k (Some reg) o = IsLastPutAt cells ps x.thread reg k o

-- z gave what the last record before x that put a raw_ptr into x's first register found
pub record IsStepBack (cells : ℕ → List CellEntry) (ps : List Played) (x z : Played) : Type 0 where
  pub reg : ℕ
  pub put : Played
  pub first : first_register x.op ≡ Some reg
  pub last : IsLastPut cells ps x reg put
  pub given : IsGivenBy cells ps put z

-- the way back from record x
abbrev pub IsWayOf : (ℕ → List CellEntry) → List Played → Played → Way → Type 0
IsWayOf cells ps x (Copied line) = HasOrigin cells ps x line
IsWayOf cells ps x (Given i) = (z : Played) × IsRecord ps i z × IsStepBack cells ps x z
IsWayOf cells ps x Unknown = (line : ℕ) → HasOrigin cells ps x line → ⊥

-- the table has the way back from each of that many records
pub record AreWays (cells : ℕ → List CellEntry) (ps : List Played) (ways : List Way) (k : ℕ) : Type 0 where
  pub long : length ways ≡ k
  pub each : (i : ℕ) (x : Played) (w : Way) → slice_get ways i ≡ Some w → IsRecord ps i x → IsWayOf cells ps x w
