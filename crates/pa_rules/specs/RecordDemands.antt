-- What the clauses of the records require of each place. A place of which a clause requires nothing meets it.
use Rattle.std.specs.Prelude.{◌≡◌, ℕ, zero, suc, ◌<◌, ◌≤◌, ◌⊎◌, List, ◌∷◌, map, take, Some, Contains, slice_get}
use Rattle.pa_slot.specs.declared.word.Step.{Step}
use Rattle.pa_slot.specs.Count.{CanStep, number_of}
use Rattle.pa_slot.specs.Run.{Mark, IsFirstAt, IsRunFrom}
use Rattle.pa_trace.specs.declared.script.Rules.{Rules}
use Rattle.pa_trace.specs.declared.script.Line.{Line}
use Rattle.pa_trace.specs.declared.script.Op.TheVariants.{Swap}
use Rattle.pa_record.specs.declared.entry.Entry.{Entry}
use Rattle.pa_record.specs.declared.entry.Answer.TheVariants.{Swapped}
use Rattle.pa_record.specs.declared.history.CellEntry.{CellEntry}
use Rattle.pa_record.specs.declared.history.Held.{Held}
use Rattle.pa_record.specs.declared.history.Held.TheVariants.{Nothing}
use Rattle.pa_rules.specs.declared.played.Played.{Played}
use Rattle.pa_rules.specs.declared.verdict.Place.{Place}
use Rattle.pa_rules.specs.declared.verdict.Place.TheVariants as places
use Rattle.pa_rules.specs.Played.{op_lines, key_of_line, key_of_entry, mark_of, marks_of}
use Rattle.pa_rules.specs.Cells.{IsExchange}
use Rattle.pa_rules.specs.Order.{IsOfLine, StandsBefore}
use Rattle.pa_rules.specs.Registers.{Facts, Regs, AllRegs, Row, RowsTo, no_regs, facts_with}
use Rattle.pa_rules.specs.Contents.{IsReadAllowed}
use Rattle.pa_rules.specs.Seen.{IsBefore, left_number}

-- record i, with the op of its line, is x
abbrev pub IsRecord : List Played → ℕ → Played → Type 0
IsRecord ps i x = slice_get ps i ≡ Some x

-- lines: the record is the one that is due, by its line and thread; one too many, a missing one and a wrong one don't meet this
abbrev pub LinesDemand : Rules → List Line → List Entry → Place → Type 0
LinesDemand rules ls es (places.Record i) =
    slice_get (map key_of_entry es) i ≡ slice_get (map key_of_line (op_lines rules 2 1 ls)) i
LinesDemand rules ls es place = Unit {0}

-- None of the entries on these lines before index j should come after it, by their threads' lines and their phases.
abbrev pub ComesInOrder : List Played → List ℕ → ℕ → Type 0
ComesInOrder ps lines j =
    (i m n : ℕ) (x y : Played) → slice_get lines i ≡ Some m → slice_get lines j ≡ Some n → i < j →
    Contains ps x → x.line ≡ m → Contains ps y → y.line ≡ n → StandsBefore y x → ⊥

-- what the exchange before the one of this index gave; the first one finds nothing
abbrev pub WasGiven : List CellEntry → ℕ → Held → Type 0
WasGiven es zero held = held ≡ Nothing
WasGiven es (suc i) held = (e : CellEntry) × (slice_get es i ≡ Some e) × (held ≡ e.gave)

-- exchange i of cell l comes above exchange j of cell k
abbrev pub IsAbove : ℕ → ℕ → ℕ → ℕ → Type 0
IsAbove l i k j = (l < k) ⊎ ((l ≡ k) × (i < j))

-- An exchange finds what the one before it gave, its line is an exchange of this cell, which none above it has, and no
-- exchange before it should come after it.
pub record ExchangeFits (cells : ℕ → List CellEntry) (ps : List Played) (k j : ℕ) (e : CellEntry) : Type 0 where
  pub found : WasGiven (cells k) j e.found
  pub line : (p : Played) × (reg : ℕ) × IsOfLine ps e.line p × (p.op ≡ Swap k reg)
  pub once : (l i : ℕ) (f : CellEntry) → IsExchange cells l i f → IsAbove l i k j → f.line ≡ e.line → ⊥
  pub order : ComesInOrder ps (map (λ (f : CellEntry). f.line) (cells k)) j

-- cells: an exchange's record names an exchange with its line, in its cell; each exchange fits
abbrev pub CellsDemand : (ℕ → List CellEntry) → List Played → Place → Type 0
CellsDemand cells ps (places.Record i) =
    (x : Played) (k reg : ℕ) → IsRecord ps i x → x.op ≡ Swap k reg
    → (j : ℕ) × (e : CellEntry) × (x.answer ≡ Swapped j) × IsExchange cells k j e × (e.line ≡ x.line)
CellsDemand cells ps (places.Cell k j) = (e : CellEntry) → IsExchange cells k j e → ExchangeFits cells ps k j e
CellsDemand cells ps place = Unit {0}

-- registers: the records before it lead to registers in which its own row follows
abbrev pub RegistersDemand : (ℕ → ℕ) → (ℕ → List CellEntry) → List Played → Place → Type 0
RegistersDemand usable_of cells ps (places.Record i) =
    let facts : Facts = facts_with usable_of ps cells in
    (x : Played) → IsRecord ps i x
    → (all : AllRegs) × (next : Regs) × RowsTo facts no_regs (take i ps) all × Row facts x.op (all x.thread) x.answer next
RegistersDemand usable_of cells ps place = Unit {0}

-- slots: the word found is one of the slot's run, and a step that was made is the one that the run used there
abbrev pub SlotsDemand : List Played → Place → Type 0
SlotsDemand ps (places.Record i) =
    (x : Played) (m : Mark) → IsRecord ps i x → mark_of x ≡ Some m
    → (vs : List ℕ) × IsRunFrom (marks_of ps) m.slot 0 vs × Contains (0 ∷ vs) m.found
    × ((p : Step) → m.step ≡ Some p → IsFirstAt (marks_of ps) m.slot m.found m p × CanStep p m.found)
SlotsDemand ps place = Unit {0}

-- contents: the value that was read is one that the rules allow
abbrev pub ContentsDemand : (ℕ → ℕ) → (ℕ → List CellEntry) → List Played → Place → Type 0
ContentsDemand usable_of cells ps (places.Record i) = (x : Played) → IsRecord ps i x → IsReadAllowed usable_of cells ps x x.answer
ContentsDemand usable_of cells ps place = Unit {0}

-- seen: the record isn't before itself, and finds no lower number of its slot than one that is before it left
abbrev pub SeenDemand : (ℕ → List CellEntry) → List Played → Place → Type 0
SeenDemand cells ps (places.Record i) =
    (y : Played) → IsRecord ps i y → (IsBefore cells ps y y → ⊥)
    × ((x : Played) (m n : Mark) → Contains ps x → IsBefore cells ps x y → mark_of x ≡ Some m → mark_of y ≡ Some n → m.slot ≡ n.slot
    → left_number m ≤ number_of n.found)
SeenDemand cells ps place = Unit {0}
