-- The laws of turns: the start, each op's turn, a line that begins a phase, and the end.
use Rattle.std.specs.Prelude.{◌≡◌, ℕ, false, nat_le, ◌+◌, ◌<◌, ◌≤◌, ◌&&◌, List, [], ◌∷◌, ◌++◌, length, map, AllPairs, Contains}
use Rattle.pa_slot.specs.declared.word.SlotName.{SlotName}
use Rattle.pa_slot.specs.declared.word.Step.TheVariants as steps
use Rattle.pa_slot.specs.Count.{held_of, refs_of, CanStep}
use Rattle.pa_slot.specs.Run.{Slots}
use Rattle.pa_direct.specs.Shapes.{greatest_size}
use Rattle.pa_trace.specs.declared.script.Op.{Op}
use Rattle.pa_trace.specs.declared.script.Op.TheVariants as ops
use Rattle.pa_trace.specs.declared.script.Line.{Line}
use Rattle.pa_trace.specs.declared.script.Line.TheVariants.{Phase}
use Rattle.pa_trace.specs.declared.script.Rules.{Rules}
use Rattle.pa_record.specs.declared.entry.Seen.{Seen}
use Rattle.pa_record.specs.declared.entry.Answer.{Answer}
use Rattle.pa_record.specs.declared.entry.Answer.TheVariants.{Made, Done, Swapped}
use Rattle.pa_record.specs.declared.history.Held.TheVariants.{Nothing}
use Rattle.pa_trace.specs.Limits.{register_count, cell_count}
use Rattle.pa_rules.specs.declared.register.Register.TheVariants.{Own, Ref}
use Rattle.pa_rules.specs.declared.played.Played.{Played}
use Rattle.pa_rules.specs.Nexts.{is_owner}
use Rattle.pa_rules.specs.Played.{AreDue, entry_of, marks_of}
use Rattle.pa_rules.specs.Registers.{Row, no_regs, AreRegisters}
use Rattle.pa_rules.specs.Cells.{AreCells}
use Rattle.pa_rules.specs.Contents.{AreContents, AreExactContents}
use Rattle.pa_rules.specs.Seen.{IsSeenInOrder}
use Rattle.pa_rules.specs.Report.{HasWord}
use Rattle.pa_rules.specs.Sizes.{usable_of}
use Rattle.pa_rules.specs.FileOrder.{AreCellsInFileOrder, AreNumbersInFileOrder}
use Rattle.pa_legal.specs.Known.{FindsInUse}
use Rattle.pa_slot_effects.specs.Shown.{Shown, IsLike}
use Rattle.pa_slot_effects.specs.Known.{IsToldTo, facts_shown}
use Rattle.pa_slot_effects.specs.Turns.{CanPlay, LeadsTo, Names, HoldsNone, TellsNone, Looks, after_made, after_copy, after_reset, after_free, after_write, after_swap}

-- before the first line: no handle, no exchange, and every word is 0
abbrev pub nothing_shown : Rules → Shown
nothing_shown rules =
    record {
      rules = rules;
      regs = no_regs;
      held = λ k. Nothing;
      cells = λ k. [];
      word = λ s. 0;
      content = λ s. 0;
      usable = λ s. 0;
      plain = λ s. false;
    }

-- no lines and no records leave this, for any number of threads and any rules
abbrev pub StartsTold : Type 0
StartsTold = (threads : ℕ) (rules : Rules) → IsToldTo threads [] [] (nothing_shown rules)

-- what looks the same was left by the same records
abbrev pub LikeIsTold : Type 0
LikeIsTold = (threads : ℕ) (ls : List Line) (ps : List Played) (a b : Shown) → IsToldTo threads ls ps a → IsLike a b →
    IsToldTo threads ls ps b

-- a line that begins a phase adds no record and leaves all as it is
abbrev pub PhaseGoesOn : Type 0
PhaseGoesOn = (threads : ℕ) (ls : List Line) (ps : List Played) (a : Shown) → IsToldTo threads ls ps a →
    IsToldTo threads (ls ++ Phase ∷ []) ps a

-- an op that is refused, or gives back the slots of its caches, leaves all as it is: it reports no slot, and is no exchange
abbrev pub NoneGoesOn : Type 0
NoneGoesOn =
    (threads : ℕ) (ls : List Line) (ps : List Played) (a : Shown) (thread : ℕ) (op : Op) (answer : Answer) →
    CanPlay threads ls ps a thread →
    TellsNone answer → ((cell reg : ℕ) → op ≡ ops.Swap cell reg → ⊥) →
    Row (facts_shown a) op (a.regs thread) answer (a.regs thread) → LeadsTo threads ls ps thread op answer a

-- a look at the slot that a register names leaves all as it is
abbrev pub LookGoesOn : Type 0
LookGoesOn =
    (threads : ℕ) (ls : List Line) (ps : List Played) (a : Shown) (thread reg : ℕ) (op : Op) (answer : Answer) (seen : Seen) →
    CanPlay threads ls ps a thread →
    reg < register_count → Names seen.slot (a.regs thread reg) → seen.found.0 ≡ a.word seen.slot → Looks a seen answer →
    ((cell reg : ℕ) → op ≡ ops.Swap cell reg → ⊥) →
    Row (facts_shown a) op (a.regs thread) answer (a.regs thread) → LeadsTo threads ls ps thread op answer a

-- an allocation of a free slot, into a register without a handle, leaves what `after_made` says
abbrev pub MadeGoesOn : Type 0
MadeGoesOn =
    (threads : ℕ) (ls : List Line) (ps : List Played) (a : Shown) (thread reg partition size : ℕ) (seen : Seen) →
    CanPlay threads ls ps a thread →
    reg < register_count → HoldsNone (a.regs thread reg) → size ≤ greatest_size → seen.found.0 ≡ a.word seen.slot →
    held_of seen.found.0 ≡ 0 →
    refs_of seen.found.0 ≡ 0 →
    a.usable seen.slot ≡ usable_of a.rules.version size → nat_le a.rules.plain_from partition ≡ a.plain seen.slot →
    LeadsTo threads ls ps thread (ops.Alloc reg partition size) (Made seen (usable_of a.rules.version size)) (after_made a thread reg seen)

-- a copy from a register that has a handle, and is no owner of a plain slot, to one that has none leaves what `after_copy` says
abbrev pub CopyGoesOn : Type 0
CopyGoesOn =
    (threads : ℕ) (ls : List Line) (ps : List Played) (a : Shown) (thread from to : ℕ) (seen : Seen) → CanPlay threads ls ps a thread →
    from < register_count → to < register_count → Names seen.slot (a.regs thread from) → HoldsNone (a.regs thread to) →
    seen.found.0 ≡ a.word seen.slot → (is_owner (a.regs thread from) && a.plain seen.slot) ≡ false →
    LeadsTo threads ls ps thread (ops.Copy from to) (Done seen) (after_copy a thread to seen)

-- a reset of a raw_ptr leaves what `after_reset` says
abbrev pub ResetGoesOn : Type 0
ResetGoesOn =
    (threads : ℕ) (ls : List Line) (ps : List Played) (a : Shown) (thread reg : ℕ) (seen : Seen) → CanPlay threads ls ps a thread →
    reg < register_count → a.regs thread reg ≡ Ref seen.slot → seen.found.0 ≡ a.word seen.slot →
    LeadsTo threads ls ps thread (ops.Reset reg) (Done seen) (after_reset a thread reg seen)

-- a free by the owner leaves what `after_free` says
abbrev pub FreeGoesOn : Type 0
FreeGoesOn =
    (threads : ℕ) (ls : List Line) (ps : List Played) (a : Shown) (thread reg : ℕ) (seen : Seen) → CanPlay threads ls ps a thread →
    reg < register_count → a.regs thread reg ≡ Own seen.slot → seen.found.0 ≡ a.word seen.slot →
    LeadsTo threads ls ps thread (ops.Free reg) (Done seen) (after_free a thread reg seen)

-- a write by the owner of a slot to which no raw_ptr points leaves what `after_write` says
abbrev pub WriteGoesOn : Type 0
WriteGoesOn =
    (threads : ℕ) (ls : List Line) (ps : List Played) (a : Shown) (thread reg value : ℕ) (seen : Seen) → CanPlay threads ls ps a thread →
    reg < register_count → a.regs thread reg ≡ Own seen.slot → seen.found.0 ≡ a.word seen.slot → refs_of seen.found.0 ≡ 0 →
    LeadsTo threads ls ps thread (ops.Write reg value) (Done seen) (after_write a value seen)

-- an exchange of a register and a cell leaves what `after_swap` says
abbrev pub SwapGoesOn : Type 0
SwapGoesOn =
    (threads : ℕ) (ls : List Line) (ps : List Played) (a : Shown) (thread cell reg : ℕ) → CanPlay threads ls ps a thread →
    cell < cell_count → reg < register_count →
    LeadsTo threads ls ps thread (ops.Swap cell reg) (Swapped (length (a.cells cell))) (after_swap a (length ls + 2) thread cell reg)

-- What a handle lets its thread do: the slot was stepped on, its word is in use, and its step can be made.
pub record LetsStep (a : Shown) (thread reg : ℕ) : Type 0 where
  pub in_use : (s : SlotName) → Names s (a.regs thread reg) → 0 < held_of (a.word s) + refs_of (a.word s)
  pub copies : (s : SlotName) → Names s (a.regs thread reg) → CanStep steps.Copy (a.word s)
  pub resets : (s : SlotName) → a.regs thread reg ≡ Ref s → CanStep steps.Reset (a.word s)
  pub frees : (s : SlotName) → a.regs thread reg ≡ Own s → CanStep steps.Free (a.word s)
  pub writes : (s : SlotName) → a.regs thread reg ≡ Own s → refs_of (a.word s) ≡ 0 → CanStep steps.Write (a.word s)
  pub issues : (s : SlotName) → held_of (a.word s) ≡ 0 → refs_of (a.word s) ≡ 0 → CanStep steps.Issue (a.word s)

-- each register of a thread that can play the next line lets it step, as LetsStep says
abbrev pub HandleLets : Type 0
HandleLets =
    (threads : ℕ) (ls : List Line) (ps : List Played) (a : Shown) (thread reg : ℕ) → CanPlay threads ls ps a thread → reg < register_count →
    LetsStep a thread reg

-- what the records are at the end
pub record IsToldRight (ls : List Line) (ps : List Played) (a : Shown) : Type 0 where
  pub rising : AllPairs (λ (x y : Played). x.line < y.line) ps
  pub due : AreDue a.rules ls (map entry_of ps)
  pub cells : AreCells a.cells ps
  pub registers : AreRegisters (usable_of a.rules.version) a.cells ps
  pub slots : Slots (marks_of ps)
  pub contents : AreContents (usable_of a.rules.version) a.cells ps
  pub seen : IsSeenInOrder a.cells ps
  pub used : (x : Played) → Contains ps x → FindsInUse x
  pub words : (s : SlotName) → HasWord ps s (a.word s)
  pub exchanges : AreCellsInFileOrder a.cells
  pub numbers : AreNumbersInFileOrder (marks_of ps)
  pub exact : AreExactContents ps

-- lines and records that leave what is shown are right
abbrev pub EndsRight : Type 0
EndsRight = (threads : ℕ) (ls : List Line) (ps : List Played) (a : Shown) → IsToldTo threads ls ps a → IsToldRight ls ps a
