-- The exchanges of the cells, as the checker walks them.
use Rattle.std.specs.Prelude.{◌≡◌, ℕ, ◌<◌, ◌≤◌, ◌⊎◌, List, Option, Some, None, IsSome, Contains, slice_get}
use Rattle.std.specs.Option.{unwrap_or}
use Rattle.pa_trace.specs.declared.script.Op.{Op}
use Rattle.pa_trace.specs.declared.script.Op.TheVariants as ops
use Rattle.pa_record.specs.declared.entry.Answer.{Answer}
use Rattle.pa_record.specs.declared.entry.Answer.TheVariants.{Swapped}
use Rattle.pa_record.specs.declared.history.CellEntry.{CellEntry}
use Rattle.pa_record.specs.declared.history.Held.{Held}
use Rattle.pa_rules.specs.declared.played.Played.{Played}
use Rattle.pa_rules.specs.Cells.{IsExchange}
use Rattle.pa_rules.specs.RecordDemands.{IsAbove}

-- an answer names the exchange with the cell that has this line
abbrev pub NamesExchange : List CellEntry → Answer → ℕ → Type 0
NamesExchange es answer line = (j : ℕ) × (e : CellEntry) × (answer ≡ Swapped j) × (slice_get es j ≡ Some e) × (e.line ≡ line)

-- what a record's op requires of its answer, if it is an exchange
abbrev pub SwapFits : (ℕ → List CellEntry) → Op → Answer → ℕ → Type 0
SwapFits cells (ops.Alloc reg partition size) answer line = Unit {0}
SwapFits cells (ops.Copy from to) answer line = Unit {0}
SwapFits cells (ops.Reset reg) answer line = Unit {0}
SwapFits cells (ops.Free reg) answer line = Unit {0}
SwapFits cells (ops.Write reg value) answer line = Unit {0}
SwapFits cells (ops.Read reg place) answer line = Unit {0}
SwapFits cells (ops.Swap cell reg) answer line = NamesExchange (cells cell) answer line
SwapFits cells ops.Purge answer line = Unit {0}

-- the op exchanges with the cell
abbrev pub IsSwapOf : ℕ → Op → Type 0
IsSwapOf k op = (reg : ℕ) × (op ≡ ops.Swap k reg)

-- Nothing is found if each exchange meets what is required of it, and else the first one that doesn't.
abbrev pub TellsPair : (ℕ → ℕ → Type 0) → Option (ℕ × ℕ) → Type 0
TellsPair Meets None = (k j : ℕ) → Meets k j
TellsPair Meets (Some p) = (Meets p.0 p.1 → ⊥) × ((l i : ℕ) → IsAbove l i p.0 p.1 → Meets l i)

-- the table has the lines of the exchanges above exchange j of cell k
pub record AreLinesKnown (cells : ℕ → List CellEntry) (at : ℕ → Option ℕ) (k j : ℕ) : Type 0 where
  pub whole : (l i : ℕ) (f : CellEntry) → IsExchange cells l i f → IsAbove l i k j → IsSome (at f.line)
  pub only : (n : ℕ) → IsSome (at n) → (l i : ℕ) × (f : CellEntry) × IsExchange cells l i f × IsAbove l i k j × (f.line ≡ n)

-- x is the record of an exchange of the list before index j
abbrev pub IsEarlier : List Played → List CellEntry → ℕ → Played → Type 0
IsEarlier ps es j x = (i : ℕ) × (e : CellEntry) × (i < j) × (slice_get es i ≡ Some e) × Contains ps x × (x.line ≡ e.line)

-- the greatest line of each thread, and the greatest phase, of the records of the exchanges before index j
pub record HasLatest (ps : List Played) (es : List CellEntry) (j : ℕ) (last : ℕ → Option ℕ) (phase : ℕ) : Type 0 where
  pub lines : (x : Played) → IsEarlier ps es j x → (l : ℕ) × (last x.thread ≡ Some l) × (x.line ≤ l)
  pub phases : (x : Played) → IsEarlier ps es j x → x.phase ≤ phase
  pub line : (t l : ℕ) → last t ≡ Some l → (x : Played) × IsEarlier ps es j x × (x.thread ≡ t) × (x.line ≡ l)
  pub phase_of : (phase ≡ 0) ⊎ ((x : Played) × IsEarlier ps es j x × (x.phase ≡ phase))

-- x is the record of the exchange's line, and its op exchanges with the cell
abbrev pub IsRecordOfSwap : List Played → ℕ → CellEntry → Played → Type 0
IsRecordOfSwap ps cell e x = Contains ps x × (x.line ≡ e.line) × IsSwapOf cell x.op

-- the exchange found what is given, has none of the known lines, and its record comes before none so far
abbrev pub FitsNow : (ℕ → Option ℕ) → (ℕ → Option ℕ) → ℕ → Held → CellEntry → Played → Type 0
FitsNow known last phase given e x = (e.found ≡ given) × (known e.line ≡ None) × (unwrap_or (last x.thread) 0 ≤ x.line) × (phase ≤ x.phase)
