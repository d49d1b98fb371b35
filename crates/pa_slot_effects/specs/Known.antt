-- What is known of the records so far, if they left this state.
use Rattle.std.specs.Prelude.{◌≡◌, ℕ, Bool, ◌+◌, ◌<◌, ◌≤◌, List, [], ◌∷◌, length, Contains}
use Rattle.pa_slot.specs.declared.word.SlotName.{SlotName}
use Rattle.pa_slot.specs.Count.{number_of, held_of}
use Rattle.pa_slot.specs.Run.{Mark}
use Rattle.pa_slot.specs.Runs.{HasRuns}
use Rattle.pa_trace.specs.declared.script.Line.{Line}
use Rattle.pa_trace.specs.declared.script.Op.TheVariants as ops
use Rattle.pa_record.specs.declared.entry.Seen.{Seen}
use Rattle.pa_record.specs.declared.entry.Answer.TheVariants.{Made, Swapped}
use Rattle.pa_record.specs.declared.history.CellEntry.{CellEntry}
use Rattle.pa_record.specs.declared.history.Held.{Held}
use Rattle.pa_record.specs.declared.history.Held.TheVariants.{Nothing}
use Rattle.pa_rules.specs.declared.played.Played.{Played}
use Rattle.pa_rules.specs.Played.{AreLines, marks_of}
use Rattle.pa_rules.specs.Registers.{Regs, AllRegs, Facts, Row, no_regs, with_thread, is_plain_op}
use Rattle.pa_rules.specs.Cells.{IsChain, IsExchange}
use Rattle.pa_rules.specs.Order.{IsOfLine}
use Rattle.pa_rules.specs.Contents.{IsContent, AreExactContents}
use Rattle.pa_rules.specs.FileOrder.{steps_before, AreNumbersInFileOrder}
use Rattle.pa_rules.specs.Sizes.{usable_of}
use Rattle.pa_legal.specs.Known.{FindsInUse}
use Rattle.pa_slot_effects.specs.Shown.{Shown, IsUsed, AreHandles}

-- what the rows need, by the version, the usable numbers of slots, which of them are plain, and the histories so far
abbrev pub facts_of : ℕ → (SlotName → ℕ) → (SlotName → Bool) → (ℕ → List CellEntry) → Facts
facts_of version usable plain cells =
    record { usable_of = usable_of version; usable_at = usable; plain_at = plain; cells = cells }

-- what they need by all that is shown
abbrev pub facts_shown : Shown → Facts
facts_shown a = facts_of a.rules.version a.usable a.plain a.cells

-- Each answer is the one that the rows require, and leads to the next registers. Before each, the thread's registers name slots
-- that were stepped on by now.
abbrev pub RowsNamed : ℕ → (SlotName → ℕ) → (SlotName → ℕ) → (SlotName → Bool) → (ℕ → List CellEntry) → AllRegs → List Played →
    AllRegs → Type 0
RowsNamed version word usable plain cells all [] end = end ≡ all
RowsNamed version word usable plain cells all (x ∷ xs) end =
    ((r : ℕ) → IsUsed word (all x.thread r)) × (next : Regs) × Row (facts_of version usable plain cells) x.op (all x.thread) x.answer next
    × RowsNamed version word usable plain cells (with_thread all x.thread next) xs end

-- a slot is made with as many usable bytes as it has
abbrev pub AreSized : (SlotName → ℕ) → List Played → Type 0
AreSized usable ps = (x : Played) (seen : Seen) (n : ℕ) → Contains ps x → x.answer ≡ Made seen n → n ≡ usable seen.slot

-- a slot is plain exactly if its partition, that of the ops which made it, is
abbrev pub ArePlaced : (SlotName → Bool) → List Played → Type 0
ArePlaced plain ps =
    (x : Played) (seen : Seen) (n : ℕ) → Contains ps x → x.answer ≡ Made seen n → is_plain_op x.rules x.op ≡ plain seen.slot

-- what a cell holds after these exchanges
abbrev pub chain_end : Held → List CellEntry → Held
chain_end held [] = held
chain_end held (e ∷ es) = chain_end e.gave es

-- The exchanges on the lines before this one, if the cells hold this: each cell's are in the order of their lines.
pub record HasExchanged (cells : ℕ → List CellEntry) (held : ℕ → Held) (ps : List Played) (line : ℕ) : Type 0 where
  pub chain : (k : ℕ) → IsChain Nothing (cells k)
  pub ends : (k : ℕ) → chain_end Nothing (cells k) ≡ held k
  pub below : (k j : ℕ) (e : CellEntry) → IsExchange cells k j e → e.line < line
  pub rising : (k i j : ℕ) (e f : CellEntry) → IsExchange cells k i e → IsExchange cells k j f → i < j → e.line < f.line
  pub lines : (k j : ℕ) (e : CellEntry) → IsExchange cells k j e → (x : Played) × (reg : ℕ) × IsOfLine ps e.line x × (x.op ≡ ops.Swap k reg)
  pub different : (k l i j : ℕ) (e f : CellEntry) → IsExchange cells k i e → IsExchange cells l j f → e.line ≡ f.line → (k ≡ l) × (i ≡ j)
  pub answers : (x : Played) (k reg : ℕ) → Contains ps x → x.op ≡ ops.Swap k reg
      → (j : ℕ) × (e : CellEntry) × (x.answer ≡ Swapped j) × IsExchange cells k j e × (e.line ≡ x.line)

-- A slot's number is how many of its steps come before, also for each later line.
--   found, order: each number found was the slot's then
--   few: a line makes at most one step
pub record HasNumbers (ms : List Mark) (line : ℕ) (word : SlotName → ℕ) : Type 0 where
  pub rising : (m : Mark) → Contains ms m → m.line < line
  pub counts : (s : SlotName) (l : ℕ) → line ≤ l → number_of (word s) ≡ steps_before s l ms
  pub found : (m : Mark) → Contains ms m → number_of m.found ≤ number_of (word m.slot)
  pub order : AreNumbersInFileOrder ms
  pub few : (s : SlotName) → number_of (word s) + 2 ≤ line

-- a slot that is held has the content that the records say, and each value read was right
pub record HasContents (ps : List Played) (word content : SlotName → ℕ) : Type 0 where
  pub held : (s : SlotName) → held_of (word s) ≡ 1 → IsContent ps s (number_of (word s)) (content s)
  pub read : AreExactContents ps

-- These are the records of the lines so far, of that many threads, and this is what they left. The next line's number is
-- `length ls + 2`, and its phase `phases_in ls`.
pub record IsToldTo (threads : ℕ) (ls : List Line) (ps : List Played) (a : Shown) : Type 0 where
  pub lines : AreLines a.rules ls ps
  pub rows : RowsNamed a.rules.version a.word a.usable a.plain a.cells no_regs ps a.regs
  pub sized : AreSized a.usable ps
  pub placed : ArePlaced a.plain ps
  pub exchanged : HasExchanged a.cells a.held ps (length ls + 2)
  pub runs : HasRuns (marks_of ps) a.word
  pub numbers : HasNumbers (marks_of ps) (length ls + 2) a.word
  pub contents : HasContents ps a.word a.content
  pub used : (x : Played) → Contains ps x → FindsInUse x
  pub handles : AreHandles threads a
