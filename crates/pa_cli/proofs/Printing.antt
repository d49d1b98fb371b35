-- What `replay`, `delay`, `model`, `gen`, `resize`, `verdicts` and `dangling` print.
use Rattle.std.proofs.Common.{◌≡◌, ◌∙◌, ℕ, List, Some, refl, ap, subst, ◌++◌, codes}
use Rattle.pa_trace.specs.declared.script.Trace.{Trace}
use Rattle.std.specs.List.{flat_map}
use Rattle.pa_trace.specs.Limits.{IsWithinLimits, most_bytes}
use Rattle.pa_trace.specs.Rules.{rules_of}
use Rattle.pa_record.specs.declared.report.ReportLine.{ReportLine}
use Rattle.pa_record.specs.declared.run.Run.{Run}
use Rattle.pa_rules.specs.Cells.{history_at}
use Rattle.pa_rules.specs.Played.{played}
use Rattle.pa_trace.specs.Generated.{IsGenerated}
use Rattle.pa_record.specs.RunText.{IsRunText}
use Rattle.pa_summary.specs.SummaryText.{sums_at_end, summary_text}
use Rattle.pa_dangle.specs.declared.found.Pair.{Pair}
use Rattle.pa_dangle.specs.Pairs.{AreFound}
use Rattle.pa_dangle.specs.Text.{dangling_text}
use Rattle.pa_one_run.specs.Laws.{OneThreadInFileOrder}
use Rattle.pa_core_run.specs.Playing.{HasCoreRun}
use Rattle.pa_script.specs.declared.script.Script.{Script}
use Rattle.pa_resize.specs.declared.verdict.Verdict.{Verdict}
use Rattle.pa_resize.specs.Expansion.{IsExpanded, IsInputExpanded}
use Rattle.pa_runner.specs.Whole.{IsHeldRun}
use Rattle.pa_delay.specs.Laws.{NoBytesNoDelay}
use Rattle.pa_delay.specs.Runs.{IsDelayedRun}
use Rattle.pa_delay_runner.specs.Played.{IsHeldDelayed}
use Rattle.pa_model.specs.Played.{IsInputPlayed}
use Rattle.pa_cli.specs.Call.{Stream, IsRead}
use Rattle.pa_cli.specs.Output.{output_with, IsReplayedAs, IsDelayedAs, IsModelOutput, IsGenOutput, IsPairsText, IsResizeOutput, IsVerdictsText}
use Rattle.pa_cli.specs.VerdictsText.{verdict_line}
use Rattle.pa_cli.proofs.Refusing.{read_whole}

-- what is printed of an input as it is played is the output of `model`
pub input_printed : (bytes text : List ℕ) (before after : Stream) → IsRead most_bytes before after bytes → IsInputPlayed bytes text →
    IsModelOutput before after text
input_printed bytes text before after read is =
    let played = is.played in
    record {
      trace = is.trace;
      read = record { bytes = bytes; read = read_whole most_bytes bytes before after read is.input.short; input = is.input };
      played = record { run = played.run; filed = played.file; core = played.core; printed = played.printed };
    }

-- what is written of a run that threads played is the output of `replay`
pub run_replayed : (t : Trace) (r : Run) (words text : List ℕ) → IsWithinLimits t → OneThreadInFileOrder →
    IsHeldRun t r words → IsRunText r text
    → IsReplayedAs t (output_with text (Some r) (Some words))
run_replayed t r words text limits one_thread played printed = record {
  run = r;
  words = words;
  has_run = refl;
  has_region = refl;
  replayed = record {
    legal = played.legal;
    ordered = played.ordered;
    held = played.held;
    lists = played.lists;
    spans = played.spans;
    long = played.long;
    printed = printed;
    alone = λ one. one_thread t r limits one played.legal;
  };
}

-- what is written of a delayed run is the output of `delay`
pub run_delayed : (bytes : ℕ) (t : Trace) (r : Run) (words text : List ℕ) → NoBytesNoDelay → IsHeldDelayed bytes t r words
    → IsRunText r text → IsDelayedAs bytes t (output_with text (Some r) (Some words))
run_delayed bytes t r words text no_delay played printed = record {
  run = r;
  words = words;
  has_run = refl;
  has_region = refl;
  delayed = record {
    delayed = played.delayed;
    held = played.held;
    spans = played.spans;
    long = played.long;
    printed = printed;
    nothing = λ none. no_delay t r (subst (λ (n : ℕ). IsDelayedRun n t r) none played.delayed);
  };
}

-- what is written of a run of a generated trace that threads played is the output of `gen`
pub run_summed : (rounds key : ℕ) (t : Trace) (r : Run) (words text : List ℕ) → IsGenerated rounds key t → IsHeldRun t r words
    → text ≡ summary_text rounds key r → IsGenOutput rounds key (output_with text (Some r) (Some words))
run_summed rounds key t r words text generated played printed = record {
  trace = t;
  run = r;
  words = words;
  generated = generated;
  has_run = refl;
  has_region = refl;
  legal = played.legal;
  ordered = played.ordered;
  held = played.held;
  lists = played.lists;
  spans = played.spans;
  long = played.long;
  printed = printed;
}

-- what is written of the pairs of a run is their text, with the slots that the last lines of its report have in quarantine
pub pairs_printed : (t : Trace) (r : Run) (report : List ReportLine) (pairs : List Pair) (freed slots left : ℕ) (text written : List ℕ)
    → report ≡ r.report.items → slots ≡ (sums_at_end (λ l. l.quarantined) report).slots
    → AreFound (history_at r.cells.items) (played (rules_of t) t.lines r.entries.items) pairs freed → left ≡ slots →
    text ≡ dangling_text pairs freed left
    → written ≡ text → IsPairsText t r written
pairs_printed t r report pairs freed slots left text written same sum found is printed whole = record {
  pairs = pairs;
  freed = freed;
  found = found;
  printed = whole ∙ printed ∙ ap (λ (x : ℕ). dangling_text pairs freed x)
      (is ∙ sum ∙ ap (λ (x : List ReportLine). (sums_at_end (λ l. l.quarantined) x).slots) same);
}

-- what is written of a script that was played is the output of `resize`
pub script_printed : (bytes front back : List ℕ) (before after : Stream) → IsRead most_bytes before after bytes →
    IsInputExpanded bytes front back
    → IsResizeOutput before after (front ++ back)
script_printed bytes front back before after read is =
    let e = is.expanded in
    record {
      script = is.script;
      read = record { bytes = bytes; read = read_whole most_bytes bytes before after read is.input.short; input = is.input };
      played = record {
        trace = e.trace;
        run = e.run;
        verdicts = e.verdicts;
        expanded = e.expanded;
        core = e.core;
        front = front;
        back = back;
        traced = e.traced;
        printed = e.printed;
        parts = refl;
      };
    }

-- what is written of its verdicts is the output of `verdicts`
pub script_verdicts : (s : Script) (t : Trace) (r : Run) (vs shown : List (ℕ × Verdict)) (start lines whole text : List ℕ) →
    IsExpanded s t r vs → HasCoreRun t r
    → start ≡ codes "" → shown ≡ vs → lines ≡ start ++ flat_map verdict_line shown → whole ≡ lines ++ codes "end\n" →
    text ≡ whole → IsVerdictsText s text
script_verdicts s t r vs shown start lines whole text expanded core none same added ended is =
    let first : lines ≡ flat_map verdict_line vs =
    added ∙ ap (λ (x : List ℕ). x ++ flat_map verdict_line shown) none ∙ ap (λ (x : List (ℕ × Verdict)). flat_map verdict_line x) same in
    record {
      trace = t;
      run = r;
      verdicts = vs;
      expanded = expanded;
      core = core;
      printed = is ∙ ended ∙ ap (λ (x : List ℕ). x ++ codes "end\n") first;
    }
