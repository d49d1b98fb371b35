-- What the lines of a trace report, and its text.
use Rattle.std.specs.Prelude.{ℕ, List}
use Rattle.pa_trace.specs.declared.script.Trace.{Trace}
use Rattle.pa_trace.specs.Limits.{IsInput}
use Rattle.pa_record.specs.declared.run.Run.{Run}
use Rattle.pa_record.specs.RunText.{IsPrintable, IsRunText}
use Rattle.pa_rules.specs.Legal.{IsFileRun}
use Rattle.pa_core_run.specs.Playing.{HasCoreRun}
use Rattle.pa_player.specs.Told.{Lists, IsToldRun}

-- a run that has these lists is the trace's run in the order of its lines, has a run of the core, and can be written as a text
pub record IsAllTold (t : Trace) (told : Lists) : Type 0 where
  pub file : (r : Run) → IsToldRun told r → IsFileRun t r
  pub core : (r : Run) → IsToldRun told r → HasCoreRun t r
  pub printable : (r : Run) → IsToldRun told r → IsPrintable r

-- the text is that of the trace's run in the order of its lines, which has a run of the core
pub record IsPlayedText (t : Trace) (text : List ℕ) : Type 0 where
  pub run : Run
  pub file : IsFileRun t run
  pub core : HasCoreRun t run
  pub printed : IsRunText run text

-- the bytes are the text of a trace within the limits, and the other text is that of its run in the order of the lines
pub record IsInputPlayed (bytes text : List ℕ) : Type 0 where
  pub trace : Trace
  pub input : IsInput trace bytes
  pub played : IsPlayedText trace text
