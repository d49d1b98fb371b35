-- The output of each command.
use Rattle.std.specs.Prelude.{◌≡◌, ℕ, ◌*◌, List, ◌++◌, Option, Some, None, codes, length}
use Rattle.pa_trace.specs.declared.script.Trace.{Trace}
use Rattle.pa_trace.specs.Grammar.{IsTraceText}
use Rattle.pa_trace.specs.Limits.{IsInput, most_bytes}
use Rattle.pa_trace.specs.Generated.{IsGenerated}
use Rattle.pa_trace.specs.Rules.{rules_of}
use Rattle.pa_record.specs.declared.run.Run.{Run}
use Rattle.pa_record.specs.RunText.{IsRunText}
use Rattle.pa_rules.specs.Cells.{history_at}
use Rattle.pa_rules.specs.Played.{played}
use Rattle.pa_script.specs.declared.script.Script.{Script}
use Rattle.pa_script.specs.Limits.{IsScriptInput}
use Rattle.pa_rules.specs.Told.{told_by}
use Rattle.pa_rules.specs.Legal.{IsLegal, IsFileRun}
use Rattle.pa_rules.specs.Held.{IsHeldIn}
use Rattle.pa_timeline.specs.Timeline.{HasTimeline}
use Rattle.pa_delay.specs.Runs.{IsDelayedRun}
use Rattle.pa_runner.specs.Linked.{HasLinkedLists}
use Rattle.pa_runner.specs.Recorded.{HasSpanRecords}
use Rattle.pa_core_run.specs.Playing.{HasCoreRun}
use Rattle.pa_summary.specs.SummaryText.{sums_at_end, summary_text}
use Rattle.pa_dangle.specs.declared.found.Pair.{Pair}
use Rattle.pa_dangle.specs.Pairs.{AreFound}
use Rattle.pa_dangle.specs.Text.{dangling_text}
use Rattle.pa_resize.specs.declared.verdict.Verdict.{Verdict}
use Rattle.pa_resize.specs.Expansion.{IsExpanded}
use Rattle.pa_audit_input.specs.Input.{most_audited}
use Rattle.pa_audit_input.specs.Judged.{IsLegalInput, IsLegalOf}
use Rattle.pa_cli.specs.Call.{Stream, Call, IsReadWhole}
use Rattle.pa_cli.specs.declared.command.Command.{Command}
use Rattle.pa_cli.specs.declared.command.Command.TheVariants.{Replay, Model, Delay, Audit, Dangling, Layout, Gen, Help, Version, Resize, Verdicts}
use Rattle.pa_cli.specs.declared.command.Command.TheVariants as commands
use Rattle.pa_cli.specs.Command.{AsksFor}
use Rattle.pa_cli.specs.LayoutText.{IsLayoutText}
use Rattle.pa_cli.specs.VerdictsText.{verdicts_text}
use Rattle.pa_cli.specs.HelpText.{help_text, version_text}

-- What a command produces: the text to be written, and if it played in a region, the run and the words of the closed region.
pub record Output : Type 0 where
  pub text : List ℕ
  pub run : Option Run
  pub region : Option (List ℕ)

-- an output with this text, and with this run and these words of a region, if there are any
abbrev pub output_with : List ℕ → Option Run → Option (List ℕ) → Output
output_with text run region = record { text = text; run = run; region = region }

-- there is no run and no region
abbrev pub HasNoRun : Option Run → Option (List ℕ) → Type 0
HasNoRun run region = (run ≡ None) × (region ≡ None)

-- The source's bytes, all of which were read, are the text of this trace, which is within the limits.
pub record IsTraceRead (trace : Trace) (before after : Stream) : Type 0 where
  pub bytes : List ℕ
  pub read : IsReadWhole most_bytes before after bytes
  pub input : IsInput trace bytes

-- The run is a legal run of the trace, and the closed region holds it, whose words are those of its super pages. All its steps are in
-- one order in which it could have been played, one step after another: each number, list and cell was found as the steps before left it,
-- and each read gave what its word contained then. The words have the threads' lists, each linked through its free slots, and each
-- partition's spans as its journal replays: their records in the metadata pages, and their free slots, linked too. The text is that of
-- this run. If the trace has one thread, it is the sequential run, in the order of the lines.
pub record IsReplayText (trace : Trace) (run : Run) (words text : List ℕ) : Type 0 where
  pub legal : IsLegal trace run
  pub ordered : HasTimeline trace (told_by run)
  pub held : IsHeldIn trace (told_by run) words
  pub lists : HasLinkedLists trace (told_by run) words
  pub spans : HasSpanRecords (told_by run) words
  pub long : length words ≡ 262144 * trace.region
  pub printed : IsRunText run text
  pub alone : trace.threads ≡ 1 → IsFileRun trace run

-- the output is a run of this trace, and the region that was closed after it
pub record IsReplayedAs (trace : Trace) (out : Output) : Type 0 where
  pub run : Run
  pub words : List ℕ
  pub has_run : out.run ≡ Some run
  pub has_region : out.region ≡ Some words
  pub replayed : IsReplayText trace run words out.text

-- the output of `replay`: it is a run of the trace that was read
pub record IsReplayOutput (before after : Stream) (out : Output) : Type 0 where
  pub trace : Trace
  pub read : IsTraceRead trace before after
  pub played : IsReplayedAs trace out

-- the text is that of the trace's run in the order of its lines, which is a legal run of the trace, and has a run of the core
pub record IsModelText (trace : Trace) (text : List ℕ) : Type 0 where
  pub run : Run
  pub filed : IsFileRun trace run
  pub core : HasCoreRun trace run
  pub printed : IsRunText run text

-- the output of `model`: the text is that of the trace that was read
pub record IsModelOutput (before after : Stream) (text : List ℕ) : Type 0 where
  pub trace : Trace
  pub read : IsTraceRead trace before after
  pub played : IsModelText trace text

-- The run is the delayed run of the trace for that many bytes: each slot that a step returned waited in a queue of its thread, first in
-- and first out, and as little left the front as leaves at most that many bytes. The closed region holds it, whose words are those of its
-- super pages, and have each partition's spans as its journal replays. The text is that of this run. For 0 bytes it is the trace's run in
-- the order of its lines.
pub record IsDelayedText (bytes : ℕ) (trace : Trace) (run : Run) (words text : List ℕ) : Type 0 where
  pub delayed : IsDelayedRun bytes trace run
  pub held : IsHeldIn trace (told_by run) words
  pub spans : HasSpanRecords (told_by run) words
  pub long : length words ≡ 262144 * trace.region
  pub printed : IsRunText run text
  pub nothing : bytes ≡ 0 → IsFileRun trace run

-- the output is the delayed run of this trace for that many bytes, and the region that was closed after it
pub record IsDelayedAs (bytes : ℕ) (trace : Trace) (out : Output) : Type 0 where
  pub run : Run
  pub words : List ℕ
  pub has_run : out.run ≡ Some run
  pub has_region : out.region ≡ Some words
  pub delayed : IsDelayedText bytes trace run words out.text

-- the output of `delay`: it is the delayed run of the trace that was read, which is of version 1
pub record IsDelayOutput (bytes : ℕ) (before after : Stream) (out : Output) : Type 0 where
  pub trace : Trace
  pub read : IsTraceRead trace before after
  pub version : trace.version ≡ 1
  pub played : IsDelayedAs bytes trace out

-- `legal` and an LF
abbrev pub legal_text : List ℕ
legal_text = codes "legal\n"

-- the output of `audit`: the source's bytes, all of which were read, are a trace followed by a legal run of it
pub record IsAuditOutput (before after : Stream) (text : List ℕ) : Type 0 where
  pub bytes : List ℕ
  pub read : IsReadWhole most_audited before after bytes
  pub legal : IsLegalInput bytes
  pub printed : text ≡ legal_text

-- The text is that of the pairs of a run of this trace, of how many frees found raw_ptrs, and of how many slots are quarantined at the end
-- of the last phase, in all partitions.
pub record IsPairsText (trace : Trace) (run : Run) (text : List ℕ) : Type 0 where
  pub pairs : List Pair
  pub freed : ℕ
  pub found : AreFound (history_at run.cells.items) (played (rules_of trace) trace.lines run.entries.items) pairs freed
  pub printed : text ≡ dangling_text pairs freed (sums_at_end (λ l. l.quarantined) run.report.items).slots

-- the output of `dangling`: the source's bytes, all of which were read, are this trace followed by this legal run of it, and the text is
-- that of the pairs of that run
pub record IsDanglingOutput (before after : Stream) (text : List ℕ) : Type 0 where
  pub bytes : List ℕ
  pub read : IsReadWhole most_audited before after bytes
  pub trace : Trace
  pub run : Run
  pub legal : IsLegalOf trace run bytes
  pub told : IsPairsText trace run text

-- The source's bytes, all of which were read, are the text of this script, which is within the limits.
pub record IsScriptRead (script : Script) (before after : Stream) : Type 0 where
  pub bytes : List ℕ
  pub read : IsReadWhole most_bytes before after bytes
  pub input : IsScriptInput script bytes

-- The text is that of the trace to which the script comes, which is within the limits, and after it that of the trace's run in the order
-- of its lines, which has a run of the core.
pub record IsResizeText (script : Script) (text : List ℕ) : Type 0 where
  pub trace : Trace
  pub run : Run
  pub verdicts : List (ℕ × Verdict)
  pub expanded : IsExpanded script trace run verdicts
  pub core : HasCoreRun trace run
  pub front : List ℕ
  pub back : List ℕ
  pub traced : IsInput trace front
  pub printed : IsRunText run back
  pub parts : text ≡ front ++ back

-- the text has what each resize of the script came to in such a run
pub record IsVerdictsText (script : Script) (text : List ℕ) : Type 0 where
  pub trace : Trace
  pub run : Run
  pub verdicts : List (ℕ × Verdict)
  pub expanded : IsExpanded script trace run verdicts
  pub core : HasCoreRun trace run
  pub printed : text ≡ verdicts_text verdicts

-- the output of `resize`: the text is that of the script that was read
pub record IsResizeOutput (before after : Stream) (text : List ℕ) : Type 0 where
  pub script : Script
  pub read : IsScriptRead script before after
  pub played : IsResizeText script text

-- the output of `verdicts`: the text has what each resize of the script that was read came to
pub record IsVerdictsOutput (before after : Stream) (text : List ℕ) : Type 0 where
  pub script : Script
  pub read : IsScriptRead script before after
  pub played : IsVerdictsText script text

-- the text is the trace generated from this number of rounds and this key
pub record IsGeneratedText (rounds key : ℕ) (text : List ℕ) : Type 0 where
  pub trace : Trace
  pub generated : IsGenerated rounds key trace
  pub printed : IsTraceText trace text

-- The output of `gen`: the text is the summary of a run of the trace generated from this number of rounds and this key. The run is a legal
-- run of that trace, all its steps are in one order as those of `replay` are, and the region that was closed after it holds it, whose
-- words are those of its super pages and have the threads' lists and each partition's spans.
pub record IsGenOutput (rounds key : ℕ) (out : Output) : Type 0 where
  pub trace : Trace
  pub run : Run
  pub words : List ℕ
  pub generated : IsGenerated rounds key trace
  pub has_run : out.run ≡ Some run
  pub has_region : out.region ≡ Some words
  pub legal : IsLegal trace run
  pub ordered : HasTimeline trace (told_by run)
  pub held : IsHeldIn trace (told_by run) words
  pub lists : HasLinkedLists trace (told_by run) words
  pub spans : HasSpanRecords (told_by run) words
  pub long : length words ≡ 262144 * trace.region
  pub printed : out.text ≡ summary_text rounds key run

-- the output of each command, by the source before and after the call
abbrev pub IsOutputOf : Command → Stream → Stream → Output → Type 0
IsOutputOf Replay before after out = IsReplayOutput before after out
IsOutputOf Model before after out = IsModelOutput before after out.text × HasNoRun out.run out.region
IsOutputOf (Delay bytes) before after out = IsDelayOutput bytes before after out
IsOutputOf Audit before after out = IsAuditOutput before after out.text × HasNoRun out.run out.region
IsOutputOf Dangling before after out = IsDanglingOutput before after out.text × HasNoRun out.run out.region
IsOutputOf Resize before after out = IsResizeOutput before after out.text × HasNoRun out.run out.region
IsOutputOf Verdicts before after out = IsVerdictsOutput before after out.text × HasNoRun out.run out.region
IsOutputOf (Layout size) before after out = IsLayoutText size out.text × HasNoRun out.run out.region
IsOutputOf (commands.Trace rounds key) before after out = IsGeneratedText rounds key out.text × HasNoRun out.run out.region
IsOutputOf (Gen rounds key) before after out = IsGenOutput rounds key out
IsOutputOf Help before after out = (out.text ≡ help_text) × HasNoRun out.run out.region
IsOutputOf Version before after out = (out.text ≡ version_text) × HasNoRun out.run out.region

-- the output of the call has this text: it is that of the command that the words ask for
abbrev pub IsOutput : Call → List ℕ → Type 0
IsOutput c text =
    (command : Command) × AsksFor command c.words × IsOutputOf command c.source c.source_after (output_with text c.run c.region)
