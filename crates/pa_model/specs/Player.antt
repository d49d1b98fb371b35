-- A player that others drive, line by line: what it holds, and what each call leaves.
use Rattle.std.specs.Prelude.{◌≡◌, ℕ, ◌+◌, List, [], ◌∷◌, ◌++◌, length, Option, Some, None}
use Rattle.pa_slot.specs.declared.title.Title.{Title}
use Rattle.pa_trace.specs.declared.line.Head.{Head}
use Rattle.pa_trace.specs.declared.script.Line.{Line}
use Rattle.pa_trace.specs.declared.script.Line.TheVariants.{Phase, Do}
use Rattle.pa_trace.specs.declared.script.Op.TheVariants.{Read}
use Rattle.pa_trace.specs.declared.script.Trace.{Trace}
use Rattle.pa_trace.specs.Limits.{IsWithinLimits}
use Rattle.pa_trace.specs.Grammar.{IsTraceText}
use Rattle.pa_trace.specs.Unread.{trace_with}
use Rattle.pa_trace.specs.Rules.{rules_by, rules_of}
use Rattle.pa_trace.specs.declared.script.Rules.{Rules}
use Rattle.pa_trace_writer.specs.Lines.{LinesSoFar}
use Rattle.pa_record.specs.declared.entry.Seen.{Seen}
use Rattle.pa_record.specs.declared.entry.Answer.{Answer}
use Rattle.pa_record.specs.declared.entry.Answer.TheVariants.{Value}
use Rattle.pa_record.specs.declared.history.CellEntry.{CellEntry}
use Rattle.pa_record.specs.declared.root.RootEntry.{RootEntry}
use Rattle.pa_record.specs.declared.run.Run.{Run}
use Rattle.pa_record.specs.RunText.{IsPrintable, IsRunText}
use Rattle.pa_record.specs.Spans.{name_of}
use Rattle.pa_rules.specs.declared.played.Played.{Played}
use Rattle.pa_rules.specs.declared.register.Register.TheVariants.{Empty, Own, Ref, Freed, Cleared}
use Rattle.pa_rules.specs.Legal.{phases_in, IsFileRun}
use Rattle.pa_rules.specs.Played.{played}
use Rattle.pa_rules.specs.Registers.{Reg, AllRegs, RowsTo, no_regs, facts_with}
use Rattle.pa_rules.specs.Report.{HasSize}
use Rattle.pa_rules.specs.Roots.{Journals}
use Rattle.pa_rules.specs.Sizes.{usable_of}
use Rattle.pa_rules.specs.Told.{Told, told_by, records_of}
use Rattle.pa_core_run.specs.Playing.{HasCoreRun}
use Rattle.pa_player.specs.Player.{Player as LinePlayer}
use Rattle.pa_player.specs.Playing.{journals, register_at, rules_at, IsPlaying}
use Rattle.pa_player.specs.Tables.{title_owned}
use Rattle.pa_player.specs.Told.{Lists, history_in}
use Rattle.pa_model.specs.declared.player.Handed.{Handed}
use Rattle.pa_model.specs.declared.player.Player.{Player as PlayerTo}

-- ---- what a player holds

-- a player, with its output as lists, and its lines as their head and their list
abbrev pub Player : Type 0
Player = PlayerTo Lists LinesSoFar

-- the lines so far as a trace
abbrev pub trace_so_far : Player → Trace
trace_so_far p = trace_with p.lines.head p.lines.items

-- the records of the lines so far, each with its op
abbrev pub records_so_far : Player → List Played
records_so_far p = played (rules_of (trace_so_far p)) p.lines.items p.inner.told.entries

-- these lines are a trace within the limits, and they were played
pub record WasPlayed (head : Head) (ls : List Line) (p : LinePlayer) : Type 0 where
  pub within : IsWithinLimits (trace_with head ls)
  pub rules : rules_at p ≡ rules_by head
  pub playing : IsPlaying head.region head.partitions head.threads ls p

-- no call refused, so the lines so far were played
abbrev pub IsGoing : Player → Type 0
IsGoing p = WasPlayed p.lines.head p.lines.items p.inner

-- no line was played yet
pub record IsNew (start : Head) (p : Player) : Type 0 where
  pub going : IsGoing p
  pub head : p.lines.head ≡ start
  pub lines : p.lines.items ≡ []
  pub records : records_so_far p ≡ []

-- ---- runs that go on from what was played

-- What a run contains, and its records with the ops, go on from here: they begin with the records,
-- the journals and the histories so far.
pub record GoesOnFrom (p : Player) (ps : List Played) (r : Told) : Type 0 where
  pub records : (more : List Played) × (ps ≡ records_so_far p ++ more)
  pub journals : (q : ℕ) → (more : List RootEntry) × (r.roots q ≡ journals p.inner q ++ more)
  pub cells : (k : ℕ) → (more : List CellEntry) × (r.cells k ≡ history_in p.inner.told k ++ more)

-- what goes on from the later player goes on from the earlier one too
abbrev pub IsLater : Player → Player → Type 0
IsLater p q = (ps : List Played) (r : Told) → GoesOnFrom q ps r → GoesOnFrom p ps r

-- ---- a line

-- What a line adds to the records by these rules: if it is an op, its record with its number and phase.
-- A line that begins a phase has no answer and adds none.
abbrev pub IsRecorded : Rules → ℕ → ℕ → Line → Option Answer → List Played → Type 0
IsRecorded rules line phase Phase None added = added ≡ []
IsRecorded rules line phase Phase (Some answer) added = ⊥
IsRecorded rules line phase (Do thread op) None added = ⊥
IsRecorded rules line phase (Do thread op) (Some answer) added =
    added ≡ record { line = line; thread = thread; phase = phase; rules = rules; op = op; answer = answer } ∷ []

-- The line was played, with this answer.
pub record PlaysLine (p : Player) (line : Line) (answer : Option Answer) (q : Player) : Type 0 where
  pub going : IsGoing q
  pub head : q.lines.head ≡ p.lines.head
  pub lines : q.lines.items ≡ p.lines.items ++ line ∷ []
  pub added : List Played
  pub recorded : IsRecorded (rules_of (trace_so_far p)) (length p.lines.items + 2) (phases_in p.lines.items) line answer added
  pub records : records_so_far q ≡ records_so_far p ++ added
  pub later : IsLater p q

-- ---- what a register owns

-- the slot that a register owns, by its title and partition
abbrev pub owned_of : Option (Title × ℕ) → Option Handed
owned_of None = None
owned_of (Some (title, partition)) = Some (record { slot = name_of title; len = title.len; partition = partition })

-- the slot that a thread's register owns, if it is an owner
abbrev pub owned_by : Player → ℕ → ℕ → Option Handed
owned_by p thread reg = owned_of (title_owned p.inner.table (register_at p.inner thread reg))

-- the register is no owner
abbrev pub OwnsNothing : Reg → Type 0
OwnsNothing Empty = Unit {0}
OwnsNothing (Own s) = ⊥
OwnsNothing (Ref s) = Unit {0}
OwnsNothing Freed = Unit {0}
OwnsNothing Cleared = Unit {0}

-- the registers after the first records of a run of a version, as the rows of the whole run lead to them
abbrev pub AreRegsAfter : ℕ → List Played → Told → List Played → AllRegs → Type 0
AreRegsAfter version ps r first regs =
    RowsTo (facts_with (usable_of version) ps r.cells) no_regs first regs

-- the register owns this slot, which its partition's journal let out with this length, or it owns nothing if there is none
abbrev pub IsOwned : Journals → Reg → Option Handed → Type 0
IsOwned roots reg None = OwnsNothing reg
IsOwned roots reg (Some h) = (reg ≡ Own h.slot) × HasSize roots h.partition h.slot h.len

-- after the lines so far the register owns this slot, or nothing, in each run that goes on from here
abbrev pub Owns : Player → ℕ → ℕ → Option Handed → Type 0
Owns p thread reg found =
    (ps : List Played) (r : Told) → GoesOnFrom p ps r →
    (regs : AllRegs) × AreRegsAfter p.lines.head.version ps r (records_so_far p) regs × IsOwned r.roots (regs thread reg) found

-- a read of an owner's first word gives a value
abbrev pub ReadsOwned : Player → Line → Option Answer → Type 0
ReadsOwned p line answer =
    (thread reg : ℕ) (h : Handed) → line ≡ Do thread (Read reg 0) → owned_by p thread reg ≡ Some h →
    (seen : Seen) × (value : ℕ) × (answer ≡ Some (Value seen value))

-- ---- the end

-- The trace is that of the lines, and the run is its run in the order of the lines. It has a run of the core, and a text. Its
-- records are those so far, and what it contains goes on from here.
pub record IsFinished (p : Player) (t : Trace) (run : Run) : Type 0 where
  pub trace : t ≡ trace_so_far p
  pub file : IsFileRun t run
  pub core : HasCoreRun t run
  pub printable : IsPrintable run
  pub records : records_of t (told_by run) ≡ records_so_far p
  pub goes_on : GoesOnFrom p (records_of t (told_by run)) (told_by run)

-- these are the text of the trace of the lines so far, and the text of its run in the order of the lines
pub record IsPrinted (p : Player) (front text : List ℕ) : Type 0 where
  pub run : Run
  pub finished : IsFinished p (trace_so_far p) run
  pub traced : IsTraceText (trace_so_far p) front
  pub printed : IsRunText run text
